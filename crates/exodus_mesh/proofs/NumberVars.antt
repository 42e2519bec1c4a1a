-- Where the lengths of a variable are given, it has the type and the lengths.
use Rattle.std.proofs.Common.{◌≡◌, ◌≢◌, ◌==◌, ℕ, Bool, true, false, if◌then◌else◌, List, [], ◌∷◌, map, All, Option, Some, None, Result, Ok, Err, slice_get, slice_index, refl, ap, subst, ◌∙◌, arith}
use Rattle.std.proofs.lemmas.Bool.Decides.{nat_tests}
use Rattle.std.proofs.lemmas.List.Elements.{All-from_recursion}
use Rattle.nc_format.specs.declared.NcFile.{NcFile}
use Rattle.nc_format.specs.declared.NcVar.{NcVar}
use Rattle.nc_write.specs.Extents.{lens_of}
use Rattle.exodus_mesh.specs.declared.kinds.NumberKind.{NumberKind}
use Rattle.exodus_mesh.specs.declared.ids.NameId.{NameId}
use Rattle.exodus_mesh.specs.declared.ids.NameFault.{NameFault}
use Rattle.exodus_mesh.specs.declared.ids.NameFault.TheVariants.{Missing, Shape, Kind}
use Rattle.exodus_mesh.specs.Names.{◌>>=◌, found_or}
use Rattle.exodus_mesh.specs.VarLens.{is_of, if_of, lens_at, one_len, two_lens, same_len, var_len, var_lens, IsNumberVar}

-- a step has a value where all steps have one
pub value_ok : {A B : Type 0} (r : Result A NameFault) (f : A → Result B NameFault) (y : B) → (r >>= f) ≡ Ok y → (x : A) × (r ≡ Ok x) × (f x ≡ Ok y)
value_ok (Ok x) f y h = (x, refl, h)
value_ok (Err e) f y h = absurd cc

pub ok_same : {A : Type 0} (x y : A) → (let r : Result A NameFault = Ok x in r ≡ Ok y) → x ≡ y
ok_same x y h = cc

pub found_ok : {A : Type 0} (e : NameFault) (o : Option A) (x : A) → found_or e o ≡ Ok x → o ≡ Some x
found_ok e None x h = absurd cc
found_ok e (Some y) x h = ap (λ v. Some v) (ok_same y x h)

pub if_ok : {A : Type 0} (b : Bool) (x y : A) (e : NameFault) → (let r : Result A NameFault = if b then Ok x else Err e in r ≡ Ok y) → (b ≡ true) × (x ≡ y)
if_ok true x y e h = (refl, ok_same x y h)
if_ok false x y e h = absurd cc

if_err : {A : Type 0} (b : Bool) (y : A) (e : NameFault) (r : Result A NameFault) → (if b then Err e else r) ≡ Ok y → (b ≡ false) × (r ≡ Ok y)
if_err true y e r h = absurd cc
if_err false y e r h = (refl, h)

not_none : (n : ℕ) → (n == 0) ≡ false → n ≢ 0
not_none n h e = absurd (grind (arith, nat_tests))

pub not_zero : (n : ℕ) → n ≢ 0 → (n == 0) ≡ false
not_zero n h = grind (arith, nat_tests)

one_ok : (id : NameId) (lens : List ℕ) (n : ℕ) → one_len id lens ≡ Ok n → (lens ≡ n ∷ []) × (n ≢ 0)
one_ok id [] n h = absurd cc
one_ok id (m ∷ []) n h =
    let p = if_err (m == 0) n (Shape id) (Ok m) h in
    let same : m ≡ n = ok_same m n p.1 in
    (ap (λ k. k ∷ []) same, subst (λ (k : ℕ). k ≢ 0) same (not_none m p.0))
one_ok id (m ∷ k ∷ more) n h = absurd cc

two_ok : (id : NameId) (lens : List ℕ) (both : ℕ × ℕ) → two_lens id lens ≡ Ok both → (lens ≡ both.0 ∷ both.1 ∷ []) × (both.0 ≢ 0) × (both.1 ≢ 0)
two_ok id [] both h = absurd cc
two_ok id (m ∷ []) both h = absurd cc
two_ok id (m ∷ k ∷ []) both h =
    let p = if_err (m == 0) both (Shape id) (if k == 0 then Err (Shape id) else Ok (m, k)) h in
    let q = if_err (k == 0) both (Shape id) (Ok (m, k)) p.1 in
    let same : (let pair : ℕ × ℕ = (m, k) in pair ≡ both) = ok_same (m, k) both q.1 in
    (ap (λ (pair : ℕ × ℕ). pair.0 ∷ pair.1 ∷ []) same, subst (λ (pair : ℕ × ℕ). pair.0 ≢ 0) same (not_none m p.0), subst (λ (pair : ℕ × ℕ). pair.1 ≢ 0) same (not_none k q.0))
two_ok id (m ∷ k ∷ l ∷ more) both h = absurd cc

-- where the lengths are these, and none of them is 0
lens_ok : (file : NcFile) (kind : NumberKind) (id : NameId) (place : ℕ) (lens wanted : List ℕ) → lens_at file kind id place ≡ Ok lens → lens ≡ wanted → All (λ n. n ≢ 0) wanted → IsNumberVar kind file wanted place
unfolding lens_at
lens_ok file kind id place lens wanted h same fixed =
    let p = value_ok (found_or (Missing id) (slice_get file.vars place)) (λ v. if_of kind id v >>= λ good. Ok (map (slice_index (lens_of file.dims)) good.dims)) lens h in
    let q = value_ok (if_of kind id p.0) (λ good. Ok (map (slice_index (lens_of file.dims)) good.dims)) lens p.2 in
    let good = if_ok (is_of kind (p.0).kind) p.0 q.0 (Kind id) q.1 in
    let shape : map (slice_index (lens_of file.dims)) (q.0).dims ≡ lens = ok_same (map (slice_index (lens_of file.dims)) (q.0).dims) lens q.2 in
    record {
      var = p.0;
      there = found_ok (Missing id) (slice_get file.vars place) p.0 p.1;
      whole = good.0;
      shape = ap (λ (v : NcVar). map (slice_index (lens_of file.dims)) v.dims) good.1 ∙ shape ∙ same;
      fixed = fixed;
    }

one_fixed : (n : ℕ) → n ≢ 0 → All (λ m. m ≢ 0) (n ∷ [])
one_fixed n h = All-from_recursion (λ m. m ≢ 0) (n ∷ []) (h, tt)

two_fixed : (n m : ℕ) → n ≢ 0 → m ≢ 0 → All (λ k. k ≢ 0) (n ∷ m ∷ [])
two_fixed n m h k = All-from_recursion (λ l. l ≢ 0) (n ∷ m ∷ []) (h, (k, tt))

pub var_len_ok : (file : NcFile) (kind : NumberKind) (id : NameId) (place n : ℕ) → var_len file kind id place ≡ Ok n → IsNumberVar kind file (n ∷ []) place
unfolding var_len
var_len_ok file kind id place n h =
    let p = value_ok (lens_at file kind id place) (λ lens. one_len id lens) n h in
    let one = one_ok id p.0 n p.2 in
    lens_ok file kind id place p.0 (n ∷ []) p.1 one.0 (one_fixed n one.1)

pub var_lens_ok : (file : NcFile) (kind : NumberKind) (id : NameId) (place : ℕ) (both : ℕ × ℕ) → var_lens file kind id place ≡ Ok both → IsNumberVar kind file (both.0 ∷ both.1 ∷ []) place
unfolding var_lens
var_lens_ok file kind id place both h =
    let p = value_ok (lens_at file kind id place) (λ lens. two_lens id lens) both h in
    let two = two_ok id p.0 both p.2 in
    lens_ok file kind id place p.0 (both.0 ∷ both.1 ∷ []) p.1 two.0 (two_fixed both.0 both.1 two.1 two.2)

pub same_ok : (id : NameId) (wanted n m : ℕ) → same_len id wanted n ≡ Ok m → (n ≡ wanted) × (n ≡ m)
same_ok id wanted n m h = let p = if_ok (n == wanted) n m (Shape id) h in (grind (arith, nat_tests), p.1)
