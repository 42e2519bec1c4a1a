-- What a writer holds, over several writes.
use Rattle.std.proofs.Common.{◌≡◌, ℕ, ◌+◌, ◌-◌, ◌*◌, ◌≤◌, ℤ, List, [], ◌++◌, length, take, drop, drop-drop, slice_range, Option, sym, ap, subst, ◌∙◌, arith}
use Rattle.std.proofs.Math.Seq.{take-add, take-length}
use Rattle.std.proofs.lemmas.List.{length-drop, length-take-le}
use Rattle.std.proofs.lemmas.Grind.{flat_map-append}
use Rattle.std.specs.Io.KnownBytes.{Appends}
use Rattle.std.proofs.KnownBytes.{Appends-nil, Appends-trans}
use Rattle.nc_write.specs.declared.NcKind.{NcKind}
use Rattle.nc_write.specs.Kinds.{value}
use Rattle.nc_write.specs.File.{value_bytes}

-- nothing was written
pub appends_none : (a : Option (List ℕ)) (bs : List ℕ) → bs ≡ [] → Appends a a bs
appends_none a bs e = subst (Appends a a) (sym e) (Appends-nil a)

-- the same bytes by another name
pub appends_same : (a b : Option (List ℕ)) (bs cs : List ℕ) → Appends a b bs → bs ≡ cs → Appends a b cs
appends_same a b bs cs p e = subst (Appends a b) e p

-- more behind what was written before
pub appends_more : (a b c : Option (List ℕ)) (bs cs all : List ℕ) → Appends a b bs → Appends b c cs → bs ++ cs ≡ all → Appends a c all
appends_more a b c bs cs all p q e = subst (Appends a c) e (Appends-trans a b c bs cs p q)

range_split : {X : Type 0} (xs : List X) (a m b : ℕ) → a ≤ m → m ≤ b → slice_range xs a b ≡ slice_range xs a m ++ slice_range xs m b
range_split xs a m b p q =
    let e : b - a ≡ (m - a) + (b - m) = omega arith in
    let at : a + (m - a) ≡ m = omega arith in
    ap (λ n. take n (drop a xs)) e ∙ take-add (m - a) (b - m) (drop a xs) ∙ ap (λ l. slice_range xs a m ++ take (b - m) l) (drop-drop (m - a) a xs ∙ ap (λ n. drop n xs) at)

-- two parts of the values that lie behind each other
pub values_join : (kind : NcKind) (zs : List ℤ) (a m b : ℕ) → a ≤ m → m ≤ b → value_bytes kind (slice_range zs a m) ++ value_bytes kind (slice_range zs m b) ≡ value_bytes kind (slice_range zs a b)
values_join kind zs a m b p q =
    sym (flat_map-append (value kind) (slice_range zs a m) (slice_range zs m b)) ∙ ap (value_bytes kind) (sym (range_split zs a m b p q))

pub length_range : {X : Type 0} (xs : List X) (a b : ℕ) → b ≤ length xs → length (slice_range xs a b) ≡ b - a
length_range xs a b h = length-take-le (b - a) (drop a xs) (omega (arith, length-drop a xs))

-- the values as one part
pub values_whole : (kind : NcKind) (zs : List ℤ) (n : ℕ) → n ≡ length zs → value_bytes kind (slice_range zs 0 n) ≡ value_bytes kind zs
values_whole kind zs n e =
    let all : n - 0 ≡ length zs = omega (arith, e) in
    ap (λ (k : ℕ). value_bytes kind (take k zs)) all ∙ ap (value_bytes kind) (take-length zs)

-- the values of one record
pub values_record : (kind : NcKind) (zs : List ℤ) (r k n : ℕ) → k ≡ n → value_bytes kind (slice_range zs (r * k) (r * k + k)) ≡ value_bytes kind (take n (drop (r * n) zs))
values_record kind zs r k n e =
    let width : r * n + n - r * n ≡ n = omega arith in
    ap (λ (m : ℕ). value_bytes kind (slice_range zs (r * m) (r * m + m))) e ∙ ap (λ (m : ℕ). value_bytes kind (take m (drop (r * n) zs))) width
