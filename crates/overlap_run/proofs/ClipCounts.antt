-- How many pairs are clipped.
use Rattle.std.proofs.Common.{◌≡◌, ℕ, zero, suc, ◌+◌, ◌-◌, ◌*◌, ◌<◌, ◌≤◌, List, [], ◌∷◌, ◌++◌, length, ap, ap₂, ◌∙◌, subst, arith}
use Rattle.std.specs.List.{range_with_len, sum_by}
use Rattle.std.proofs.lemmas.List.Sums.{sum_by-append, sum_by-cons}
use Rattle.std.proofs.lemmas.List.FromFn.{length-range_with_len}
use Rattle.vec_exact.specs.declared.RawMesh.{RawMesh}
use Rattle.overlap_run.specs.Parts.{targets_of, clip_count}
use Rattle.cell_index.proofs.CandidateLists.{candidates_at_most}

-- two ranges, one after the other
range_append : (a m n k : ℕ) → k ≡ a + m → range_with_len a (m + n) ≡ range_with_len a m ++ range_with_len k n
range_append a zero n k e =
    let here : a ≡ k = omega (arith, e) in
    let size : zero + n ≡ n = omega arith in
    ap₂ range_with_len here size
range_append a (suc m) n k e =
    let size : suc m + n ≡ suc (m + n) = omega arith in
    ap (range_with_len a) size ∙ ap (λ (l : List ℕ). a ∷ l) (range_append (a + 1) m n k (omega (arith, e)))

-- ---- source faces
pub clip_count_none : (a b : RawMesh) (first last : ℕ) → last < first → clip_count a b first last ≡ 0
unfolding clip_count
clip_count_none a b first last l =
    let none : last + 1 - first ≡ 0 = omega arith in
    ap (λ (n : ℕ). sum_by (λ (i : ℕ). length (targets_of a b i)) (range_with_len first n)) none

-- the faces from `first` to `middle`, and from the next one to `last`
pub clip_count_join : (a b : RawMesh) (first middle last : ℕ) → first ≤ middle + 1 → middle ≤ last → clip_count a b first last ≡ clip_count a b first middle + clip_count a b (middle + 1) last
unfolding clip_count
clip_count_join a b first middle last l m =
    let tried : ℕ → ℕ = λ (i : ℕ). length (targets_of a b i) in
    let parts : last + 1 - first ≡ (middle + 1 - first) + (last + 1 - (middle + 1)) = omega arith in
    ap (λ (n : ℕ). sum_by tried (range_with_len first n)) parts
    ∙ ap (sum_by tried) (range_append first (middle + 1 - first) (last + 1 - (middle + 1)) (middle + 1) (omega arith))
    ∙ sum_by-append tried (range_with_len first (middle + 1 - first)) (range_with_len (middle + 1) (last + 1 - (middle + 1)))

-- one face
pub clip_count_one : (a b : RawMesh) (i : ℕ) → clip_count a b i i ≡ length (targets_of a b i)
unfolding clip_count
clip_count_one a b i =
    let tried : ℕ → ℕ = λ (i : ℕ). length (targets_of a b i) in
    let one : i + 1 - i ≡ 1 = omega arith in
    let only : sum_by tried (range_with_len i 1) ≡ tried i = omega arith in
    ap (λ (n : ℕ). sum_by tried (range_with_len i n)) one ∙ only

sum_at_most : (f : ℕ → ℕ) (m : ℕ) → ((i : ℕ) → f i ≤ m) → (l : List ℕ) → sum_by f l ≤ length l * m
sum_at_most f m h [] = omega arith
sum_at_most f m h (x ∷ xs) = omega (arith, sum_by-cons f x xs, h x, sum_at_most f m h xs)

-- no more than all pairs are clipped
pub clip_count_at_most : (a b : RawMesh) (first last : ℕ) → clip_count a b first last ≤ (last + 1 - first) * length b.faces
unfolding clip_count
clip_count_at_most a b first last =
    let tried : ℕ → ℕ = λ (i : ℕ). length (targets_of a b i) in
    let most = sum_at_most tried (length b.faces) (candidates_at_most a b) (range_with_len first (last + 1 - first)) in
    subst (λ (n : ℕ). sum_by tried (range_with_len first (last + 1 - first)) ≤ n * length b.faces) (length-range_with_len first (last + 1 - first)) most

pub clip_count_more : (a b : RawMesh) (first i : ℕ) → 1 ≤ first → first ≤ i → clip_count a b first i ≡ clip_count a b first (i - 1) + length (targets_of a b i)
clip_count_more a b first i p l =
    let here : i - 1 + 1 ≡ i = omega arith in
    let last : clip_count a b (i - 1 + 1) i ≡ length (targets_of a b i) = ap (λ (k : ℕ). clip_count a b k i) here ∙ clip_count_one a b i in
    omega (arith, clip_count_join a b first (i - 1) i (omega arith) (omega arith), last)

pub clip_count_grows : (a b : RawMesh) (first middle last : ℕ) → first ≤ middle + 1 → middle ≤ last → clip_count a b first middle ≤ clip_count a b first last
clip_count_grows a b first middle last l m = omega (arith, clip_count_join a b first middle last l m)

times_at_most : (x y m n : ℕ) → x ≤ m → y ≤ n → x * y ≤ m * n
times_at_most x y m n p q = grind arith

-- it is far below what 64 bits hold
pub clip_count_fits : (a b : RawMesh) (first last : ℕ) → 1 ≤ first → last ≤ length a.faces → length a.faces ≤ 1048576 → length b.faces ≤ 1048576 → clip_count a b first last ≤ 1099511627776
clip_count_fits a b first last p l m n =
    omega (arith, clip_count_at_most a b first last, times_at_most (last + 1 - first) (length b.faces) 1048576 1048576 (omega arith) n)
