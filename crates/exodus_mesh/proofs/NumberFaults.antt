-- When the lengths of a variable are given, and when each of its faults comes.
use Rattle.std.proofs.Common.{◌≡◌, ◌≢◌, ◌≤◌, ◌==◌, ◌↔◌, ◌⊎◌, inl, inr, ℕ, suc, zero, Bool, true, false, if◌then◌else◌, List, [], ◌∷◌, length, map, Option, Some, None, Result, Ok, Err, slice_get, slice_index, refl, ap, ◌∙◌, arith}
use Rattle.std.specs.Option.{IsSomeAnd}
use Rattle.std.proofs.lemmas.Option.{slice_get_past}
use Rattle.std.proofs.lemmas.List.Elements.{All-head, All-tail}
use Rattle.nc_format.specs.declared.NcFile.{NcFile}
use Rattle.nc_format.specs.declared.NcVar.{NcVar}
use Rattle.nc_write.specs.Extents.{lens_of}
use Rattle.exodus_mesh.specs.declared.kinds.NumberKind.{NumberKind}
use Rattle.exodus_mesh.specs.declared.ids.NameId.{NameId}
use Rattle.exodus_mesh.specs.declared.ids.NameFault.{NameFault}
use Rattle.exodus_mesh.specs.declared.ids.NameFault.TheVariants.{Missing, Shape, Kind}
use Rattle.exodus_mesh.specs.Names.{◌>>=◌, found_or}
use Rattle.exodus_mesh.specs.VarLens.{is_of, if_of, lens_at, one_len, two_lens, var_len, var_lens, IsNumberVar, HasKind, HasOtherKind}
use Rattle.exodus_mesh.proofs.NumberVars.{not_zero, var_len_ok, var_lens_ok}

-- Lengths give a value, or the fault of the shape.

abbrev IsValueOrShape : {B : Type 0} → NameId → Result B NameFault → Type 0
IsValueOrShape {B} id r = ((y : B) × (r ≡ Ok y)) ⊎ (r ≡ Err (Shape id))

unless : {B : Type 0} (id : NameId) (b : Bool) (r : Result B NameFault) → IsValueOrShape id r → IsValueOrShape id (if b then Err (Shape id) else r)
unless id true r h = inr refl
unless id false r h = h

one_only : (id : NameId) (lens : List ℕ) → IsValueOrShape id (one_len id lens)
one_only id [] = inr refl
one_only id (n ∷ []) = unless id (n == 0) (Ok n) (inl (n, refl))
one_only id (n ∷ m ∷ more) = inr refl

two_only : (id : NameId) (lens : List ℕ) → IsValueOrShape id (two_lens id lens)
two_only id [] = inr refl
two_only id (n ∷ []) = inr refl
two_only id (n ∷ m ∷ []) = unless id (n == 0) (if m == 0 then Err (Shape id) else Ok (n, m)) (unless id (m == 0) (Ok (n, m)) (inl ((n, m), refl)))
two_only id (n ∷ m ∷ k ∷ more) = inr refl

-- What is taken of the lengths of a variable that may be there.

abbrev taken : {B : Type 0} → NumberKind → NameId → (NcVar → List ℕ) → (List ℕ → Result B NameFault) → Option NcVar → Result B NameFault
taken kind id lens f o = (found_or (Missing id) o >>= λ v. if_of kind id v >>= λ good. Ok (lens good)) >>= f

abbrev tested : {B : Type 0} → NameId → (NcVar → List ℕ) → (List ℕ → Result B NameFault) → NcVar → Bool → Result B NameFault
tested id lens f v b = (let r : Result NcVar NameFault = if b then Ok v else Err (Kind id) in r >>= λ good. Ok (lens good)) >>= f

not_missing : {B : Type 0} (id : NameId) (r : Result B NameFault) → IsValueOrShape id r → r ≡ Err (Missing id) → ⊥
not_missing id r (inl p) h = let e = p.1 in absurd cc
not_missing id r (inr e) h = absurd cc

not_kind : {B : Type 0} (id : NameId) (r : Result B NameFault) → IsValueOrShape id r → r ≡ Err (Kind id) → ⊥
not_kind id r (inl p) h = let e = p.1 in absurd cc
not_kind id r (inr e) h = absurd cc

shape_left : {B : Type 0} (id : NameId) (r : Result B NameFault) → IsValueOrShape id r → ((y : B) → r ≢ Ok y) → r ≡ Err (Shape id)
shape_left id r (inl p) none = absurd (none p.0 p.1)
shape_left id r (inr e) none = e

missing_when : {B : Type 0} (kind : NumberKind) (id : NameId) (lens : NcVar → List ℕ) (f : List ℕ → Result B NameFault) → ((l : List ℕ) → IsValueOrShape id (f l)) → (o : Option NcVar) → (taken kind id lens f o ≡ Err (Missing id)) ↔ (o ≡ None)
missing_when kind id lens f only None = (λ h. refl, λ h. refl)
missing_when kind id lens f only (Some v) = (λ h. absurd (never (is_of kind v.kind) h), λ h. absurd cc)
  where
    never : (b : Bool) → tested id lens f v b ≡ Err (Missing id) → ⊥
    never true h = not_missing id (f (lens v)) (only (lens v)) h
    never false h = absurd cc

kind_when : {B : Type 0} (kind : NumberKind) (id : NameId) (lens : NcVar → List ℕ) (f : List ℕ → Result B NameFault) → ((l : List ℕ) → IsValueOrShape id (f l)) → (o : Option NcVar) → (taken kind id lens f o ≡ Err (Kind id)) ↔ IsSomeAnd o (λ v. is_of kind v.kind ≡ false)
kind_when kind id lens f only None = (λ h. absurd cc, λ h. absurd h)
kind_when kind id lens f only (Some v) = (other (is_of kind v.kind), λ h. ap (tested id lens f v) h)
  where
    other : (b : Bool) → tested id lens f v b ≡ Err (Kind id) → b ≡ false
    other true h = absurd (not_kind id (f (lens v)) (only (lens v)) h)
    other false h = refl

shape_when : {B : Type 0} (kind : NumberKind) (id : NameId) (lens : NcVar → List ℕ) (f : List ℕ → Result B NameFault) → ((l : List ℕ) → IsValueOrShape id (f l)) → (o : Option NcVar)
    → (taken kind id lens f o ≡ Err (Shape id)) ↔ (IsSomeAnd o (λ v. is_of kind v.kind ≡ true) × ((y : B) → taken kind id lens f o ≢ Ok y))
shape_when kind id lens f only None = (λ h. absurd cc, λ h. absurd h.0)
shape_when kind id lens f only (Some v) = (λ h. (here (is_of kind v.kind) h, λ y e. absurd cc), λ h. ap (tested id lens f v) h.0 ∙ shape_left id (f (lens v)) (only (lens v)) (λ y e. h.1 y (ap (tested id lens f v) h.0 ∙ e)))
  where
    here : (b : Bool) → tested id lens f v b ≡ Err (Shape id) → b ≡ true
    here true h = refl
    here false h = absurd cc

-- Lengths that are there are given.

lens_there : (file : NcFile) (kind : NumberKind) (id : NameId) (place : ℕ) (lens : List ℕ) → IsNumberVar kind file lens place → lens_at file kind id place ≡ Ok lens
unfolding lens_at
lens_there file kind id place lens i = rw (i.there, i.whole) (ap (λ l. Ok l) i.shape)

len_there : (file : NcFile) (kind : NumberKind) (id : NameId) (place n : ℕ) → IsNumberVar kind file (n ∷ []) place → var_len file kind id place ≡ Ok n
unfolding var_len
len_there file kind id place n i =
    let some : n ≢ 0 = All-head (λ m. m ≢ 0) n [] i.fixed in
    ap (λ r. r >>= one_len id) (lens_there file kind id place (n ∷ []) i) ∙ ap (λ b. if b then Err (Shape id) else Ok n) (not_zero n some)

both_there : (file : NcFile) (kind : NumberKind) (id : NameId) (place n m : ℕ) → IsNumberVar kind file (n ∷ m ∷ []) place → var_lens file kind id place ≡ Ok (n, m)
unfolding var_lens
both_there file kind id place n m i =
    let first : n ≢ 0 = All-head (λ k. k ≢ 0) n (m ∷ []) i.fixed in
    let second : m ≢ 0 = All-head (λ k. k ≢ 0) m [] (All-tail (λ k. k ≢ 0) n (m ∷ []) i.fixed) in
    ap (λ r. r >>= two_lens id) (lens_there file kind id place (n ∷ m ∷ []) i)
    ∙ ap (λ b. if b then Err (Shape id) else (if m == 0 then Err (Shape id) else Ok (n, m))) (not_zero n first)
    ∙ ap (λ b. if b then Err (Shape id) else Ok (n, m)) (not_zero m second)

past : (vars : List NcVar) (place : ℕ) → slice_get vars place ≡ None → length vars ≤ place
past [] place h = omega arith
past (v ∷ vs) zero h = absurd cc
past (v ∷ vs) (suc k) h = omega (arith, past vs k h)

-- One dimension.

pub len_found : (file : NcFile) (kind : NumberKind) (id : NameId) (place n : ℕ) → (var_len file kind id place ≡ Ok n) ↔ IsNumberVar kind file (n ∷ []) place
len_found file kind id place n = (var_len_ok file kind id place n, len_there file kind id place n)

pub len_missing : (file : NcFile) (kind : NumberKind) (id : NameId) (place : ℕ) → (var_len file kind id place ≡ Err (Missing id)) ↔ (length file.vars ≤ place)
unfolding var_len lens_at
len_missing file kind id place =
    let w = missing_when kind id (λ v. map (slice_index (lens_of file.dims)) v.dims) (one_len id) (one_only id) (slice_get file.vars place) in
    (λ h. past file.vars place (w.0 h), λ h. w.1 (slice_get_past file.vars place h))

pub len_kind : (file : NcFile) (kind : NumberKind) (id : NameId) (place : ℕ) → (var_len file kind id place ≡ Err (Kind id)) ↔ HasOtherKind kind file place
unfolding var_len lens_at
len_kind file kind id place = kind_when kind id (λ v. map (slice_index (lens_of file.dims)) v.dims) (one_len id) (one_only id) (slice_get file.vars place)

pub len_shape : (file : NcFile) (kind : NumberKind) (id : NameId) (place : ℕ) → (var_len file kind id place ≡ Err (Shape id)) ↔ (HasKind kind file place × ((n : ℕ) → ¬ IsNumberVar kind file (n ∷ []) place))
unfolding var_len lens_at
len_shape file kind id place =
    let w = shape_when kind id (λ v. map (slice_index (lens_of file.dims)) v.dims) (one_len id) (one_only id) (slice_get file.vars place) in
    (λ h. ((w.0 h).0, λ n i. (w.0 h).1 n (len_there file kind id place n i)), λ h. w.1 (h.0, λ n e. h.1 n (var_len_ok file kind id place n e)))

-- Two dimensions.

pub lens_found : (file : NcFile) (kind : NumberKind) (id : NameId) (place n m : ℕ) → (var_lens file kind id place ≡ Ok (n, m)) ↔ IsNumberVar kind file (n ∷ m ∷ []) place
lens_found file kind id place n m = (var_lens_ok file kind id place (n, m), both_there file kind id place n m)

pub lens_missing : (file : NcFile) (kind : NumberKind) (id : NameId) (place : ℕ) → (var_lens file kind id place ≡ Err (Missing id)) ↔ (length file.vars ≤ place)
unfolding var_lens lens_at
lens_missing file kind id place =
    let w = missing_when kind id (λ v. map (slice_index (lens_of file.dims)) v.dims) (two_lens id) (two_only id) (slice_get file.vars place) in
    (λ h. past file.vars place (w.0 h), λ h. w.1 (slice_get_past file.vars place h))

pub lens_kind : (file : NcFile) (kind : NumberKind) (id : NameId) (place : ℕ) → (var_lens file kind id place ≡ Err (Kind id)) ↔ HasOtherKind kind file place
unfolding var_lens lens_at
lens_kind file kind id place = kind_when kind id (λ v. map (slice_index (lens_of file.dims)) v.dims) (two_lens id) (two_only id) (slice_get file.vars place)

pub lens_shape : (file : NcFile) (kind : NumberKind) (id : NameId) (place : ℕ) → (var_lens file kind id place ≡ Err (Shape id)) ↔ (HasKind kind file place × ((n m : ℕ) → ¬ IsNumberVar kind file (n ∷ m ∷ []) place))
unfolding var_lens lens_at
lens_shape file kind id place =
    let w = shape_when kind id (λ v. map (slice_index (lens_of file.dims)) v.dims) (two_lens id) (two_only id) (slice_get file.vars place) in (
      λ h. ((w.0 h).0, λ n m i. (w.0 h).1 (n, m) (both_there file kind id place n m i)),
      λ h. w.1 (h.0, λ both e. h.1 both.0 both.1 (var_lens_ok file kind id place both e)),
    )
