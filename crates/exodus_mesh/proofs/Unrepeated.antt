-- A face in which no number is repeated by its neighbour is what its row gives again, padded or not.
use Rattle.std.proofs.Common.{◌≡◌, ◌≢◌, ◌<◌, ◌≤◌, ◌-◌, ℕ, zero, suc, ℤ, pos, Bool, true, false, cond, List, [], ◌∷◌, ◌++◌, length, map, take, drop, replicate, refl, ap, ap₂, ◌∙◌, arith, slice_index_or, length-append}
use Rattle.std.specs.List.{flat_map, AllByRecursion}
use Rattle.std.proofs.lemmas.List.{length-replicate}
use Rattle.std.proofs.lemmas.Bool.Decides.{nat_tests}
use Rattle.exodus_mesh.specs.MeshDocument.{filled}
use Rattle.exodus_mesh.specs.MeshValues.{kept_behind, without_repeats, opened, face_of_row, rows_of}
use Rattle.exodus_mesh.proofs.Repeats.{int_same, int_other}

-- no number of a face equals the one before it, and the last does not equal the first
pub record HasNoRepeats (face : List ℤ) : Type 0 where
  pub some : 2 ≤ length face
  pub inner : (t : ℕ) → suc t < length face → slice_index_or face t (pos 0) ≢ slice_index_or face (suc t) (pos 0)
  pub outer : slice_index_or face 0 (pos 0) ≢ slice_index_or face (length face - 1) (pos 0)

-- the last number behind another
last_of : ℤ → List ℤ → ℤ
last_of b [] = b
last_of b (x ∷ xs) = last_of x xs

copies : (b : ℤ) (k : ℕ) → kept_behind b (replicate k b) ≡ []
copies b zero = refl
copies b (suc k) = ap (λ t. cond t (kept_behind b (replicate k b)) (b ∷ kept_behind b (replicate k b))) (int_same b b refl) ∙ copies b k

padded : (b : ℤ) (xs : List ℤ) (k : ℕ) → ((t : ℕ) → t < length xs → slice_index_or (b ∷ xs) t (pos 0) ≢ slice_index_or xs t (pos 0)) → kept_behind b (xs ++ replicate k (last_of b xs)) ≡ xs
unfolding last_of
padded b [] k differs = copies b k
padded b (x ∷ xs) k differs =
    let rest = kept_behind x (xs ++ replicate k (last_of x xs)) in
    ap (λ t. cond t rest (x ∷ rest)) (int_other b x (differs 0 (omega arith)))
    ∙ ap (λ l. x ∷ l) (padded x xs k (λ t below. differs (suc t) (omega (arith, below))))

last_is : (b : ℤ) (xs : List ℤ) → slice_index_or (b ∷ xs) (length xs) (pos 0) ≡ last_of b xs
unfolding last_of
last_is b [] = refl
last_is b (x ∷ xs) = last_is x xs

pub padded_kept : (face : List ℤ) (k : ℕ) → HasNoRepeats face → without_repeats (face ++ replicate k (slice_index_or face (length face - 1) (pos 0))) ≡ face
padded_kept [] k h = absurd (omega (arith, h.some))
padded_kept (b ∷ xs) k h =
    let at : length (b ∷ xs) - 1 ≡ length xs = omega arith in
    let last : slice_index_or (b ∷ xs) (length (b ∷ xs) - 1) (pos 0) ≡ last_of b xs = ap (λ i. slice_index_or (b ∷ xs) i (pos 0)) at ∙ last_is b xs in
    ap (λ v. b ∷ kept_behind b (xs ++ replicate k v)) last ∙ ap (λ l. b ∷ l) (padded b xs k (λ t below. h.inner t (omega (arith, below))))

and_false : (a : Bool) → cond a false false ≡ false
and_false true = refl
and_false false = refl

stays_open : (face : List ℤ) → HasNoRepeats face → opened face ≡ face
stays_open face h = grind (arith, nat_tests, int_other (slice_index_or face 0 (pos 0)) (slice_index_or face (length face - 1) (pos 0)) h.outer)

pub face_again : (width : ℕ) (face : List ℤ) → HasNoRepeats face → face_of_row (filled width face) ≡ face
unfolding face_of_row
face_again width face h = ap (λ l. opened l) (padded_kept face (width - length face) h) ∙ stays_open face h

length_row : (width : ℕ) (face : List ℤ) → length face ≤ width → length (filled width face) ≡ width
length_row width face fits = omega (arith, length-append face (replicate (width - length face) (slice_index_or face (length face - 1) (pos 0))), length-replicate {A = ℤ} (width - length face) (slice_index_or face (length face - 1) (pos 0)))

pub take_front : (xs ys : List ℤ) (n : ℕ) → length xs ≡ n → take n (xs ++ ys) ≡ xs
take_front [] ys zero h = refl
take_front [] ys (suc n) h = absurd (omega (arith, h))
take_front (x ∷ xs) ys zero h = absurd (omega (arith, h))
take_front (x ∷ xs) ys (suc n) h = ap (λ l. x ∷ l) (take_front xs ys n (omega (arith, h)))

pub drop_front : (xs ys : List ℤ) (n : ℕ) → length xs ≡ n → drop n (xs ++ ys) ≡ ys
drop_front [] ys zero h = refl
drop_front [] ys (suc n) h = absurd (omega (arith, h))
drop_front (x ∷ xs) ys zero h = absurd (omega (arith, h))
drop_front (x ∷ xs) ys (suc n) h = drop_front xs ys n (omega (arith, h))

-- the rows of all faces give the faces again
pub faces_again : (width : ℕ) (faces : List (List ℤ)) → AllByRecursion (λ face. length face ≤ width) faces → AllByRecursion HasNoRepeats faces → map face_of_row (rows_of (length faces) width (flat_map (filled width) faces)) ≡ faces
faces_again width [] fit each = refl
faces_again width (f ∷ fs) fit each =
    let rest = flat_map (filled width) fs in
    let long = length_row width f fit.0 in
    ap₂ (λ a b. face_of_row a ∷ map face_of_row (rows_of (length fs) width b)) (take_front (filled width f) rest width long) (drop_front (filled width f) rest width long)
    ∙ ap₂ (λ a b. a ∷ b) (face_again width f each.0) (faces_again width fs fit.1 each.1)
