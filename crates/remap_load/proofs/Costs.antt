-- How many bytes are read for pieces, and how many values a variable has.
use Rattle.std.proofs.Common.{◌≡◌, ℕ, zero, suc, ◌+◌, ◌-◌, ◌*◌, ◌/◌, ◌%◌, ◌≤◌, Bool, true, false, if◌then◌else◌, List, [], ◌∷◌, All, length, drop, refl, sym, ap, ◌∙◌, arith, add-one, nat_le, Option, Some, None, slice_get, IsSomeAnd, subst, ℤ, ◌<◌, ◌++◌, map, take, get_or}
use Rattle.std.specs.List.{sum_by}
use Rattle.std.proofs.lemmas.List.{take_more, take-append-drop, map-append}
use Rattle.std.proofs.lemmas.List.Sums.{sum_by-cons, sum_by-append}
use Rattle.std.specs.Prelude.{IsSome}
use Rattle.std.proofs.Math.Nat.{suc-mul, zero-mod}
use Rattle.std.proofs.lemmas.Nat.{mul-mod_first}
use Rattle.std.proofs.lemmas.List.Elements.{All-head, All-tail}
use Rattle.std.proofs.lemmas.List.FromFn.{length-map-range_with_len}
use Rattle.nc_write.specs.Kinds.{size_of}
use Rattle.nc_format.specs.declared.NcVar.{NcVar}
use Rattle.nc_format.specs.Numbers.{number_in, numbers_in}
use Rattle.nc_format.specs.declared.NcFile.{NcFile}
use Rattle.nc_format.specs.Numbers.{gathered}
use Rattle.remap_io.specs.Folder.{Folder, OnFile}
use Rattle.remap_load.specs.Pieces.{value_count, piece_cost, pieces_cost, numbers_of, numbers_at, count_of, count_at, var_bytes, bytes_at}

pub cost_more : (have : ℕ) (v : NcVar) (n : ℕ) → pieces_cost have v (n + 1) ≡ pieces_cost have v n + piece_cost have v n
unfolding pieces_cost
cost_more have v n = ap (pieces_cost have v) (add-one n)

cost_grows : (have : ℕ) (v : NcVar) (n k : ℕ) → pieces_cost have v n ≤ pieces_cost have v (n + k)
cost_grows have v n zero = let same : n + 0 ≡ n = omega arith in omega (arith, ap (pieces_cost have v) same)
cost_grows have v n (suc k) =
    let next : n + suc k ≡ n + k + 1 = omega arith in
    omega (arith, cost_grows have v n k, ap (pieces_cost have v) next, cost_more have v (n + k))

pub cost_within : (have : ℕ) (v : NcVar) (n m : ℕ) → n ≤ m → pieces_cost have v n ≤ pieces_cost have v m
cost_within have v n m le =
    let sum : n + (m - n) ≡ m = omega arith in
    omega (arith, cost_grows have v n (m - n), ap (pieces_cost have v) sum)

either_cost : (b : Bool) (part : ℕ) → (if b then 0 else part) ≤ part
either_cost true part = omega arith
either_cost false part = omega arith

pub cost_at_most : (have : ℕ) (v : NcVar) (n : ℕ) → pieces_cost have v n ≤ n * v.part
unfolding pieces_cost
cost_at_most have v zero = omega arith
cost_at_most have v (suc n) = omega (arith, cost_at_most have v n, either_cost (nat_le (v.begin + n * v.step + v.part) have) v.part, suc-mul n v.part)

whole_times : (a b m : ℕ) → b % m ≡ 0 → (a * b) % m ≡ 0
whole_times a b m h =
    let turned : a * b ≡ b * a = omega arith in
    let none : 0 * a ≡ 0 = omega arith in
    ap (λ n. n % m) turned ∙ sym (mul-mod_first b a m) ∙ ap (λ r. (r * a) % m) h ∙ ap (λ n. n % m) none ∙ zero-mod m

-- pieces of whole values are whole values
pub whole_bytes : (v : NcVar) (bytes : List ℕ) → length bytes ≡ v.parts * v.part → v.part % size_of v.kind ≡ 0 → length bytes % size_of v.kind ≡ 0
whole_bytes v bytes long whole = ap (λ n. n % size_of v.kind) long ∙ whole_times v.parts v.part (size_of v.kind) whole

pub numbers_len : (v : NcVar) (bytes : List ℕ) → length bytes ≡ v.parts * v.part → length (numbers_in v.kind bytes) ≡ value_count v
unfolding numbers_in
numbers_len v bytes long =
    length-map-range_with_len (λ k. number_in v.kind (drop (k * size_of v.kind) bytes)) 0 (length bytes / size_of v.kind)
    ∙ ap (λ n. n / size_of v.kind) long

-- what holds of the variable that is there
pub of_it : (o : Option NcVar) (v : NcVar) (P : NcVar → Type 0) → IsSomeAnd o P → o ≡ Some v → P v
of_it o v P h e = let here : IsSomeAnd (Some v) P = subst (λ (x : Option NcVar). IsSomeAnd x P) e h in here

pub is_there : (o : Option NcVar) (P : NcVar → Type 0) → IsSomeAnd o P → IsSome o
is_there None P h = absurd h
is_there (Some v) P h = refl

-- what holds of all variables holds of the one at a place
pub at_place : (P : NcVar → Type 0) (vars : List NcVar) (k : ℕ) (v : NcVar) → All P vars → slice_get vars k ≡ Some v → P v
at_place P [] k v all h = absurd cc
at_place P (w ∷ ws) zero v all h = let same : w ≡ v = cc in subst P same (All-head P w ws all)
at_place P (w ∷ ws) (suc k) v all h = at_place P ws k v (All-tail P w ws all) h

pub one_there : (o : Option NcVar) (v w : NcVar) → o ≡ Some v → o ≡ Some w → v ≡ w
one_there o v w h k = cc

-- The same of the variable at a place.

pub numbers_there : (file : NcFile) (place : ℕ) (v : NcVar) (numbers : List ℤ) (folder : Option Folder) (name : List ℕ) → slice_get file.vars place ≡ Some v → OnFile folder name (λ bytes. numbers ≡ numbers_in v.kind (gathered v bytes)) → OnFile folder name (λ bytes. numbers ≡ numbers_at file bytes place)
numbers_there file place v numbers folder name there h = subst (λ (o : Option NcVar). OnFile folder name (λ bytes. numbers ≡ numbers_of bytes o)) (sym there) h

pub count_there : (file : NcFile) (place : ℕ) (v : NcVar) → slice_get file.vars place ≡ Some v → value_count v ≡ count_at file place
count_there file place v there = ap count_of (sym there)

pub bytes_there : (file : NcFile) (place : ℕ) (v : NcVar) → slice_get file.vars place ≡ Some v → v.parts * v.part ≡ bytes_at file place
bytes_there file place v there = ap var_bytes (sym there)

-- one more place
pub map_more : {A : Type 0} (f : ℕ → A) (places : List ℕ) (i : ℕ) → i < length places → map f (take (i + 1) places) ≡ map f (take i places) ++ f (get_or places i 0) ∷ []
map_more f places i lt = ap (map f) (take_more places i 0 lt) ∙ map-append f (take i places) (get_or places i 0 ∷ [])

pub sum_more : (f : ℕ → ℕ) (places : List ℕ) (i : ℕ) → i < length places → sum_by f (take (i + 1) places) ≡ sum_by f (take i places) + f (get_or places i 0)
sum_more f places i lt =
    let one : sum_by f (get_or places i 0 ∷ []) ≡ f (get_or places i 0) = sum_by-cons f (get_or places i 0) [] ∙ omega arith in
    ap (sum_by f) (take_more places i 0 lt) ∙ sum_by-append f (take i places) (get_or places i 0 ∷ []) ∙ ap (λ n. sum_by f (take i places) + n) one

-- the first of some places ask for no more than all of them
pub sum_first : (f : ℕ → ℕ) (places : List ℕ) (i : ℕ) → sum_by f (take i places) ≤ sum_by f places
sum_first f places i =
    omega (arith, sum_by-append f (take i places) (drop i places), ap (sum_by f) (take-append-drop i places))
