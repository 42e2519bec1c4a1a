-- A whole header: what is read is a header or its first fault, and nothing else is.
use Rattle.std.proofs.Common.{◌≡◌, ◌⊎◌, inl, inr, ℕ, ◌+◌, ◌<◌, ◌≤◌, Bool, true, false, ltb, eqb, ◌&&◌, if◌then◌else◌, List, [], ◌∷◌, ◌++◌, length, slice_index, All, Option, Some, None, Result, Ok, Err, refl, sym, ap, subst, ◌∙◌, append_assoc, arith}
use Rattle.std.specs.List.{position, position_from, AllByRecursion}
use Rattle.std.proofs.lemmas.Bool.{le-ltb, lt-ltb, eqb-true}
use Rattle.std.proofs.lemmas.List.Elements.{All-from_recursion, recursion_from_All}
use Rattle.std.proofs.lemmas.Iterator.Adapters.{position_from-zero}
use Rattle.nc_format.specs.declared.NcFile.{NcFile}
use Rattle.nc_format.specs.declared.NcVar.{NcVar}
use Rattle.nc_format.specs.declared.fault.NcFault.{NcFault}
use Rattle.nc_format.specs.declared.fault.NcFault.TheVariants.{NotNetcdf, Truncated, BadField, DataOutside}
use Rattle.nc_format.specs.Grammar.{body}
use Rattle.nc_format.specs.Parts.{on_value}
use Rattle.nc_format.specs.Placing.{placed_vars, with_places, is_outside}
use Rattle.nc_format.specs.Header.{magic, is_version, IsSpelled, IsHeader, HasNoMagic, HasOtherVersion, HasBadBody, IsFirstFault, magic_read, header_read, inside_or, finished, fields_in, header_in, fault_in, first_fault}
use Rattle.nc_format.proofs.Lawful.{no_ok, no_err, ok_is, err_is, value_ok, value_err}
use Rattle.nc_format.proofs.LawfulParts.{body_lawful}

-- The magic.

-- C, D and F
abbrev pub is_cdf : ℕ → ℕ → ℕ → Bool
is_cdf c d f = eqb c 0x43 && eqb d 0x44 && eqb f 0x46

either : (b : Bool) → (b ≡ true) ⊎ (b ≡ false)
either true = inl refl
either false = inr refl

both : (a b : Bool) → (a && b) ≡ true → (a ≡ true) × (b ≡ true)
both true b e = (refl, e)
both false b e = absurd cc

pub short_is : (b : List ℕ) → length b < 4 → header_read b ≡ Err NotNetcdf
unfolding header_read
short_is b lt = let t : ltb (length b) 4 ≡ true = lt-ltb _ _ lt in rw t refl

long_is : (c d f v : ℕ) (t : List ℕ) → header_read (c ∷ d ∷ f ∷ v ∷ t) ≡ magic_read c d f v (c ∷ d ∷ f ∷ v ∷ t)
unfolding header_read
long_is c d f v t = let k : ltb (length (c ∷ d ∷ f ∷ v ∷ t)) 4 ≡ false = le-ltb _ _ (omega arith) in rw k refl

no_cdf : (c d f v : ℕ) (t : List ℕ) → is_cdf c d f ≡ false → header_read (c ∷ d ∷ f ∷ v ∷ t) ≡ Err NotNetcdf
unfolding magic_read
no_cdf c d f v t is_not = long_is c d f v t ∙ ap (λ (k : Bool). if k then (if is_version v then (body v).read (c ∷ d ∷ f ∷ v ∷ t) 4 else Err (BadField 3)) else Err NotNetcdf) is_not

cdf : (c d f v : ℕ) (t : List ℕ) → is_cdf c d f ≡ true → header_read (c ∷ d ∷ f ∷ v ∷ t) ≡ (if is_version v then (body v).read (c ∷ d ∷ f ∷ v ∷ t) 4 else Err (BadField 3))
unfolding magic_read
cdf c d f v t is_so = long_is c d f v t ∙ ap (λ (k : Bool). if k then (if is_version v then (body v).read (c ∷ d ∷ f ∷ v ∷ t) 4 else Err (BadField 3)) else Err NotNetcdf) is_so

cdf_known : (c d f v : ℕ) (t : List ℕ) → is_cdf c d f ≡ true → is_version v ≡ true → header_read (c ∷ d ∷ f ∷ v ∷ t) ≡ (body v).read (c ∷ d ∷ f ∷ v ∷ t) 4
cdf_known c d f v t is_so known = cdf c d f v t is_so ∙ ap (λ (k : Bool). if k then (body v).read (c ∷ d ∷ f ∷ v ∷ t) 4 else Err (BadField 3)) known

cdf_unknown : (c d f v : ℕ) (t : List ℕ) → is_cdf c d f ≡ true → is_version v ≡ false → header_read (c ∷ d ∷ f ∷ v ∷ t) ≡ Err (BadField 3)
cdf_unknown c d f v t is_so unknown = cdf c d f v t is_so ∙ ap (λ (k : Bool). if k then (body v).read (c ∷ d ∷ f ∷ v ∷ t) 4 else Err (BadField 3)) unknown

magic_is : (c d f v : ℕ) (u : List ℕ) → c ≡ 0x43 → d ≡ 0x44 → f ≡ 0x46 → c ∷ d ∷ f ∷ v ∷ u ≡ magic v u
magic_is c d f v u ec ed ef = rw (ec, ed, ef) refl

has_magic : (c d f v : ℕ) (u : List ℕ) → is_cdf c d f ≡ true → c ∷ d ∷ f ∷ v ∷ u ≡ magic v u
has_magic c d f v u is_so =
    let k = both (eqb c 0x43 && eqb d 0x44) (eqb f 0x46) is_so in
    let l = both (eqb c 0x43) (eqb d 0x44) k.0 in
    magic_is c d f v u (eqb-true _ _ l.0) (eqb-true _ _ l.1) (eqb-true _ _ k.1)

true_is_not_false : (b : Bool) → b ≡ true → b ≡ false → ⊥
true_is_not_false b t f = let z : true ≡ false = sym t ∙ f in absurd cc

has_no_magic : (c d f v : ℕ) (t : List ℕ) → is_cdf c d f ≡ false → HasNoMagic (c ∷ d ∷ f ∷ v ∷ t)
has_no_magic c d f v t is_not version rest e =
    let ec : c ≡ 0x43 = ap (λ (l : List ℕ). slice_index l 0) e in
    let ed : d ≡ 0x44 = ap (λ (l : List ℕ). slice_index l 1) e in
    let ef : f ≡ 0x46 = ap (λ (l : List ℕ). slice_index l 2) e in
    let is_so : is_cdf c d f ≡ true = rw (ec, ed, ef) refl in
    true_is_not_false (is_cdf c d f) is_so is_not

short_has_no_magic : (b : List ℕ) → length b < 4 → HasNoMagic b
short_has_no_magic b lt version rest e = let n : length b ≡ 4 + length rest = ap length e ∙ omega arith in omega arith

-- The fields, or what is wrong with them.

abbrev pub HasBadField : List ℕ → NcFault → Type 0
HasBadField b e = ((e ≡ NotNetcdf) × HasNoMagic b) ⊎ (((e ≡ BadField 3) × HasOtherVersion b) ⊎ HasBadBody b e)

not_ok : (b : List ℕ) (f : NcFault) (x : NcFile × ℕ) → header_read b ≡ Err f → header_read b ≡ Ok x → ⊥
not_ok b f x h e = no_ok (NcFile × ℕ) f x (sym h ∙ e)

not_err : (b : List ℕ) (f e : NcFault) → header_read b ≡ Err f → header_read b ≡ Err e → e ≡ f
not_err b f e h k = err_is (NcFile × ℕ) e f (sym k ∙ h)

pub header_sound : (b : List ℕ) (x : NcFile × ℕ) → header_read b ≡ Ok x → (s : List ℕ) × (r : List ℕ) × (b ≡ s ++ r) × (x.1 ≡ length s) × IsSpelled s x.0
header_sound [] x e = absurd (not_ok [] NotNetcdf x (short_is [] (omega arith)) e)
header_sound (a ∷ []) x e = absurd (not_ok (a ∷ []) NotNetcdf x (short_is (a ∷ []) (omega arith)) e)
header_sound (a ∷ c ∷ []) x e = absurd (not_ok (a ∷ c ∷ []) NotNetcdf x (short_is (a ∷ c ∷ []) (omega arith)) e)
header_sound (a ∷ c ∷ d ∷ []) x e = absurd (not_ok (a ∷ c ∷ d ∷ []) NotNetcdf x (short_is (a ∷ c ∷ d ∷ []) (omega arith)) e)
header_sound (c ∷ d ∷ f ∷ v ∷ t) x e =
    let b : List ℕ = c ∷ d ∷ f ∷ v ∷ t in
    elim (either (is_cdf c d f)) [
      | inr is_not ↦ absurd (not_ok b NotNetcdf x (no_cdf c d f v t is_not) e)
      | inl is_so ↦ elim (either (is_version v)) [
        | inr unknown ↦ absurd (not_ok b (BadField 3) x (cdf_unknown c d f v t is_so unknown) e)
        | inl known ↦
            let h = (body_lawful v).sound b 4 x (omega arith) (sym (cdf_known c d f v t is_so known) ∙ e) in
            (c ∷ d ∷ f ∷ v ∷ h.0, h.1, ap (λ (u : List ℕ). c ∷ d ∷ f ∷ v ∷ u) h.2, omega (arith, h.3), record { version = v; rest = h.0; parts = has_magic c d f v h.0 is_so; known = known; is_body = h.4 })
      ]
    ]

pub header_whole : (b s r : List ℕ) (f : NcFile) → b ≡ s ++ r → IsSpelled s f → header_read b ≡ Ok (f, length s)
header_whole b s r f e h =
    let v = h.version in
    let t = h.rest ++ r in
    let whole : b ≡ magic v t = e ∙ ap (λ (u : List ℕ). u ++ r) h.parts in
    let k = (body_lawful v).whole (magic v t) h.rest r 4 f (omega arith) refl h.is_body in
    let z : 4 + length h.rest ≡ length s = omega (arith, ap length h.parts) in
    ap header_read whole ∙ cdf_known 0x43 0x44 0x46 v t refl h.known ∙ k ∙ ap (λ (n : ℕ). Ok (f, n)) z

pub header_fails : (b : List ℕ) (e : NcFault) → header_read b ≡ Err e → HasBadField b e
header_fails [] e h = inl (not_err [] NotNetcdf e (short_is [] (omega arith)) h, short_has_no_magic [] (omega arith))
header_fails (a ∷ []) e h = inl (not_err (a ∷ []) NotNetcdf e (short_is (a ∷ []) (omega arith)) h, short_has_no_magic (a ∷ []) (omega arith))
header_fails (a ∷ c ∷ []) e h = inl (not_err (a ∷ c ∷ []) NotNetcdf e (short_is (a ∷ c ∷ []) (omega arith)) h, short_has_no_magic (a ∷ c ∷ []) (omega arith))
header_fails (a ∷ c ∷ d ∷ []) e h = inl (not_err (a ∷ c ∷ d ∷ []) NotNetcdf e (short_is (a ∷ c ∷ d ∷ []) (omega arith)) h, short_has_no_magic (a ∷ c ∷ d ∷ []) (omega arith))
header_fails (c ∷ d ∷ f ∷ v ∷ t) e h =
    let b : List ℕ = c ∷ d ∷ f ∷ v ∷ t in
    elim (either (is_cdf c d f)) [
      | inr is_not ↦ inl (not_err b NotNetcdf e (no_cdf c d f v t is_not) h, has_no_magic c d f v t is_not)
      | inl is_so ↦ elim (either (is_version v)) [
        | inr unknown ↦ inr (inl (not_err b (BadField 3) e (cdf_unknown c d f v t is_so unknown) h, record { version = v; rest = t; parts = has_magic c d f v t is_so; unknown = unknown }))
        | inl known ↦ inr (inr (record { version = v; rest = t; parts = has_magic c d f v t is_so; known = known; fault = (body_lawful v).fails b 4 e (omega arith) (sym (cdf_known c d f v t is_so known) ∙ h) }))
      ]
    ]

no_magic_faulty : (b : List ℕ) → HasNoMagic b → header_read b ≡ Err NotNetcdf
no_magic_faulty [] h = short_is [] (omega arith)
no_magic_faulty (a ∷ []) h = short_is (a ∷ []) (omega arith)
no_magic_faulty (a ∷ c ∷ []) h = short_is (a ∷ c ∷ []) (omega arith)
no_magic_faulty (a ∷ c ∷ d ∷ []) h = short_is (a ∷ c ∷ d ∷ []) (omega arith)
no_magic_faulty (c ∷ d ∷ f ∷ v ∷ t) h =
    elim (either (is_cdf c d f)) [
      | inr is_not ↦ no_cdf c d f v t is_not
      | inl is_so ↦ absurd (h v t (has_magic c d f v t is_so))
    ]

pub header_faulty : (b : List ℕ) (e : NcFault) → HasBadField b e → header_read b ≡ Err e
header_faulty b e h =
    elim h [
      | inl k ↦ no_magic_faulty b k.1 ∙ ap (λ (g : NcFault). Err g) (sym k.0)
      | inr k ↦ elim k [
        | inl m ↦
            let o = m.1 in
            ap header_read o.parts ∙ cdf_unknown 0x43 0x44 0x46 o.version o.rest refl o.unknown ∙ ap (λ (g : NcFault). Err g) (sym m.0)
        | inr m ↦ ap header_read m.parts ∙ cdf_known 0x43 0x44 0x46 m.version m.rest refl m.known ∙ (body_lawful m.version).faulty (magic m.version m.rest) 4 e (omega arith) m.fault
      ]
    ]

-- Bytes that follow.

pub header_kept : (b c : List ℕ) (x : NcFile × ℕ) → header_read b ≡ Ok x → header_read (b ++ c) ≡ Ok x
header_kept b c x e =
    let h = header_sound b x e in
    let whole : b ++ c ≡ h.0 ++ (h.1 ++ c) = ap (λ (u : List ℕ). u ++ c) h.2 ∙ append_assoc h.0 h.1 c in
    header_whole (b ++ c) h.0 (h.1 ++ c) x.0 whole h.4 ∙ ap (λ (n : ℕ). Ok (x.0, n)) (sym h.3)

pub header_settled : (b c : List ℕ) (e : NcFault) → 4 ≤ length b → header_read b ≡ Err e → (header_read (b ++ c) ≡ Err e) ⊎ ((t : ℕ) × (e ≡ Truncated t) × (t ≤ length b))
header_settled [] c e le h = absurd (omega arith)
header_settled (a ∷ []) c e le h = absurd (omega arith)
header_settled (a ∷ k ∷ []) c e le h = absurd (omega arith)
header_settled (a ∷ k ∷ d ∷ []) c e le h = absurd (omega arith)
header_settled (k ∷ d ∷ f ∷ v ∷ t) c e le h =
    let b : List ℕ = k ∷ d ∷ f ∷ v ∷ t in
    elim (either (is_cdf k d f)) [
      | inr is_not ↦ inl (no_cdf k d f v (t ++ c) is_not ∙ sym (no_cdf k d f v t is_not) ∙ h)
      | inl is_so ↦ elim (either (is_version v)) [
        | inr unknown ↦ inl (cdf_unknown k d f v (t ++ c) is_so unknown ∙ sym (cdf_unknown k d f v t is_so unknown) ∙ h)
        | inl known ↦ elim ((body_lawful v).settled b c 4 e (omega arith) (sym (cdf_known k d f v t is_so known) ∙ h)) [
          | inl m ↦ inl (cdf_known k d f v (t ++ c) is_so known ∙ m)
          | inr m ↦ inr m
        ]
      ]
    ]

-- The values of variables.

none_from : (p : NcVar → Bool) (i : ℕ) (vs : List NcVar) → position_from p i vs ≡ None → AllByRecursion (λ v. p v ≡ false) vs
none_from p i [] e = tt
none_from p i (v ∷ vs) e =
    elim (either (p v)) [
      | inl is_so ↦ absurd (let z : Some i ≡ None = ap (λ (k : Bool). if k then Some i else position_from p (i + 1) vs) (sym is_so) ∙ e in cc)
      | inr is_not ↦ (is_not, none_from p (i + 1) vs (ap (λ (k : Bool). if k then Some i else position_from p (i + 1) vs) (sym is_not) ∙ e))
    ]

from_none : (p : NcVar → Bool) (i : ℕ) (vs : List NcVar) → AllByRecursion (λ v. p v ≡ false) vs → position_from p i vs ≡ None
from_none p i [] h = refl
from_none p i (v ∷ vs) h = ap (λ (k : Bool). if k then Some i else position_from p (i + 1) vs) h.0 ∙ from_none p (i + 1) vs h.1

pub none_outside : (len : ℕ) (vs : List NcVar) → position (is_outside len) vs ≡ None → All (λ v. is_outside len v ≡ false) vs
none_outside len vs e = All-from_recursion (λ (v : NcVar). is_outside len v ≡ false) vs (none_from (is_outside len) 0 vs (sym (position_from-zero (is_outside len) vs) ∙ e))

pub all_inside : (len : ℕ) (vs : List NcVar) → All (λ v. is_outside len v ≡ false) vs → position (is_outside len) vs ≡ None
all_inside len vs h = position_from-zero (is_outside len) vs ∙ from_none (is_outside len) 0 vs (recursion_from_All (λ (v : NcVar). is_outside len v ≡ false) vs h)

inside_ok : (g f : NcFile) (o : Option ℕ) → inside_or g o ≡ Ok f → (f ≡ g) × (o ≡ None)
inside_ok g f None e = (sym (ok_is g f e), refl)
inside_ok g f (Some i) e = absurd (no_ok NcFile (DataOutside (i + 1)) f e)

inside_err : (g : NcFile) (o : Option ℕ) (e : NcFault) → inside_or g o ≡ Err e → (i : ℕ) × (e ≡ DataOutside (i + 1)) × (o ≡ Some i)
inside_err g None e h = absurd (no_err g e h)
inside_err g (Some i) e h = (i, sym (err_is NcFile (DataOutside (i + 1)) e h), refl)

-- The whole.

fields_ok : (r : Result (NcFile × ℕ) NcFault) (f : NcFile) → fields_in r ≡ Ok f → (x : NcFile × ℕ) × (r ≡ Ok x) × (x.0 ≡ f)
fields_ok (Ok x) f e = (x, refl, ok_is x.0 f e)
fields_ok (Err g) f e = absurd (no_ok NcFile g f e)

fields_err : (r : Result (NcFile × ℕ) NcFault) (e : NcFault) → fields_in r ≡ Err e → r ≡ Err e
fields_err (Ok x) e h = absurd (no_err x.0 e h)
fields_err (Err g) e h = ap (λ (k : NcFault). let r : Result (NcFile × ℕ) NcFault = Err k in r) (err_is NcFile g e h)

pub read_value : (b : List ℕ) (len : ℕ) (x : NcFile × ℕ) → header_read b ≡ Ok x → header_in b len ≡ finished len x.0
unfolding header_in
read_value b len x e = ap (λ r. on_value (fields_in r) (finished len)) e

pub read_fault : (b : List ℕ) (len : ℕ) (e : NcFault) → header_read b ≡ Err e → header_in b len ≡ Err e
unfolding header_in
read_fault b len e h = ap (λ r. on_value (fields_in r) (finished len)) h

pub read_sound : (b : List ℕ) (len : ℕ) (f : NcFile) → header_in b len ≡ Ok f → IsHeader b len f
unfolding header_in finished
read_sound b len f e =
    let k = value_ok (fields_in (header_read b)) (finished len) f e in
    let v = fields_ok (header_read b) k.0 k.1 in
    let h = header_sound b v.0 v.1 in
    let g = k.0 in
    let n = inside_ok (with_places g) f (position (is_outside len) (placed_vars g)) k.2 in
    record {
      header = h.0;
      rest = h.1;
      fields = g;
      parts = h.2;
      spelled = subst (λ (z : NcFile). IsSpelled h.0 z) v.2 h.4;
      placed = n.0;
      inside = subst (λ (z : NcFile). All (λ v. is_outside len v ≡ false) z.vars) (sym n.0) (none_outside len (placed_vars g) n.1);
    }

finished_inside : (len : ℕ) (g : NcFile) → position (is_outside len) (placed_vars g) ≡ None → finished len g ≡ Ok (with_places g)
unfolding finished
finished_inside len g e = ap (inside_or (with_places g)) e

finished_outside : (len : ℕ) (g : NcFile) (i : ℕ) → position (is_outside len) (placed_vars g) ≡ Some i → finished len g ≡ Err (DataOutside (i + 1))
unfolding finished
finished_outside len g i e = ap (inside_or (with_places g)) e

pub read_whole : (b : List ℕ) (len : ℕ) (f : NcFile) → IsHeader b len f → header_in b len ≡ Ok f
read_whole b len f h =
    let inside = subst (λ (z : NcFile). All (λ v. is_outside len v ≡ false) z.vars) h.placed h.inside in
    read_value b len (h.fields, length h.header) (header_whole b h.header h.rest h.fields h.parts h.spelled)
    ∙ finished_inside len h.fields (all_inside len (placed_vars h.fields) inside)
    ∙ ap (λ (z : NcFile). Ok z) (sym h.placed)

pub read_fails : (b : List ℕ) (len : ℕ) (e : NcFault) → header_in b len ≡ Err e → IsFirstFault b len e
unfolding header_in finished
read_fails b len e h =
    elim (value_err (fields_in (header_read b)) (finished len) e h) [
      | inl k ↦ elim (header_fails b e (fields_err (header_read b) e k)) [
        | inl m ↦ inl m
        | inr m ↦ elim m [ inl n ↦ inr (inl n) | inr n ↦ inr (inr (inl n)) ]
      ]
      | inr k ↦
          let v = fields_ok (header_read b) k.0 k.1 in
          let s = header_sound b v.0 v.1 in
          let g = k.0 in
          let n = inside_err (with_places g) (position (is_outside len) (placed_vars g)) e k.2 in
          inr (inr (inr (n.0, n.1, record { header = s.0; rest = s.1; fields = g; parts = s.2; spelled = subst (λ (z : NcFile). IsSpelled s.0 z) v.2 s.4; first = n.2 })))
    ]

pub read_faulty : (b : List ℕ) (len : ℕ) (e : NcFault) → IsFirstFault b len e → header_in b len ≡ Err e
read_faulty b len e h =
    elim h [
      | inl k ↦ read_fault b len e (header_faulty b e (inl k))
      | inr k ↦ elim k [
        | inl m ↦ read_fault b len e (header_faulty b e (inr (inl m)))
        | inr m ↦ elim m [
          | inl n ↦ read_fault b len e (header_faulty b e (inr (inr n)))
          | inr n ↦
              let d = n.2 in
              read_value b len (d.fields, length d.header) (header_whole b d.header d.rest d.fields d.parts d.spelled)
              ∙ finished_outside len d.fields n.0 d.first ∙ ap (λ (g : NcFault). Err g) (sym n.1)
        ]
      ]
    ]

some_is : (e f : NcFault) → Some e ≡ Some f → e ≡ f
some_is e f h = cc

pub fault_some : (r : Result NcFile NcFault) (e : NcFault) → fault_in r ≡ Some e → r ≡ Err e
fault_some (Ok f) e h = absurd cc
fault_some (Err g) e h = ap (λ (k : NcFault). let r : Result NcFile NcFault = Err k in r) (some_is g e h)

fault_none : (r : Result NcFile NcFault) → fault_in r ≡ None → (f : NcFile) × (r ≡ Ok f)
fault_none (Ok f) h = (f, refl)
fault_none (Err g) h = absurd cc

-- the function finds the first fault
pub is_first_fault : (b : List ℕ) (len : ℕ) (e : NcFault) → first_fault b len ≡ Some e → IsFirstFault b len e
unfolding first_fault
is_first_fault b len e h = read_fails b len e (fault_some (header_in b len) e h)

pub first_fault_is : (b : List ℕ) (len : ℕ) (e : NcFault) → IsFirstFault b len e → first_fault b len ≡ Some e
unfolding first_fault
first_fault_is b len e h = ap fault_in (read_faulty b len e h)

pub no_fault : (b : List ℕ) (len : ℕ) → first_fault b len ≡ None → (f : NcFile) × IsHeader b len f
unfolding first_fault
no_fault b len h = let k = fault_none (header_in b len) h in (k.0, read_sound b len k.0 k.1)

pub no_fault_is : (b : List ℕ) (len : ℕ) (f : NcFile) → IsHeader b len f → first_fault b len ≡ None
unfolding first_fault
no_fault_is b len f h = ap fault_in (read_whole b len f h)

pub one_header : (b : List ℕ) (len : ℕ) (f g : NcFile) → IsHeader b len f → IsHeader b len g → f ≡ g
one_header b len f g h k = ok_is f g (sym (read_whole b len f h) ∙ read_whole b len g k)
