-- How many faces there are.
use Rattle.std.proofs.Common.{◌≡◌, ◌∙◌, ◌+◌, ◌-◌, ◌*◌, ◌≤◌, ◌<◌, ℕ, zero, suc, ℤ, Bool, true, false, cond, List, [], ◌∷◌, length, length-append, ap, sym, refl, add-one, arith}
use Rattle.std.proofs.lemmas.Bool.Decides.{nat_tests}
use Rattle.std.specs.Prelude.{nat_le}
use Rattle.std.specs.List.{flat_map, range_with_len}
use Rattle.gen_ico.specs.Icosahedron.{base_triangles}
use Rattle.gen_ico.specs.Icosahedral.{faces_at, faces_of, inverted, row_faces, triangle_faces, upright}
use Rattle.vec_exact.proofs.Ranges.{length_even, length_more}

two : (t : Bool) (x y : List ℤ) → t ≡ true → length (x ∷ cond t (y ∷ []) []) ≡ 2
two t x y is = rw is refl

one : (t : Bool) (x y : List ℤ) → t ≡ false → length (x ∷ cond t (y ∷ []) []) ≡ 1
one t x y is = rw is refl

inner_faces : (nodes : List (List ℤ)) (n : ℕ) (triangle : List ℕ) (i j : ℕ) → i + j + 2 ≤ n → length (faces_at nodes n triangle i j) ≡ 2
unfolding faces_at
inner_faces nodes n triangle i j le = two (nat_le (i + j + 2) n) (upright nodes n triangle i j) (inverted nodes n triangle i j) (grind (arith, nat_tests))

last_faces : (nodes : List (List ℤ)) (n : ℕ) (triangle : List ℕ) (i j : ℕ) → n < i + j + 2 → length (faces_at nodes n triangle i j) ≡ 1
unfolding faces_at
last_faces nodes n triangle i j lt = one (nat_le (i + j + 2) n) (upright nodes n triangle i j) (inverted nodes n triangle i j) (grind (arith, nat_tests))

count_row : (nodes : List (List ℤ)) (n : ℕ) (triangle : List ℕ) (i d : ℕ) → i + suc d ≡ n → length (row_faces nodes n triangle i) ≡ 2 * d + 1
count_row nodes n triangle i d e =
    let f = faces_at nodes n triangle i in
    let places : n - i ≡ d + 1 = omega (arith, e) in
    let inner : length (flat_map f (range_with_len 0 d)) ≡ d * 2 = length_even f 2 0 d (λ j low high. inner_faces nodes n triangle i j (omega (arith, e, high))) in
    ap (λ (m : ℕ). length (flat_map f (range_with_len 0 m))) places ∙ length_more f d ∙ omega (arith, inner, last_faces nodes n triangle i d (omega (arith, e)))

-- the rows before row k leave d^2 faces, where d rows follow
count_rows : (nodes : List (List ℤ)) (n : ℕ) (triangle : List ℕ) (k d : ℕ) → k + d ≡ n → length (flat_map (row_faces nodes n triangle) (range_with_len 0 k)) + d * d ≡ n * n
count_rows nodes n triangle zero d e =
    let same : d ≡ n = omega (arith, e) in
    omega (arith, ap (λ (m : ℕ). m * m) same)
count_rows nodes n triangle (suc k) d e =
    let f = row_faces nodes n triangle in
    let before : length (flat_map f (range_with_len 0 k)) + (d + 1) * (d + 1) ≡ n * n = count_rows nodes n triangle k (d + 1) (omega (arith, e)) in
    let more : length (flat_map f (range_with_len 0 (suc k))) ≡ length (flat_map f (range_with_len 0 k)) + length (f k) = ap (λ (m : ℕ). length (flat_map f (range_with_len 0 m))) (sym (add-one k)) ∙ length_more f k in
    omega (arith, before, more, count_row nodes n triangle k d (omega (arith, e)))

count_triangle : (nodes : List (List ℤ)) (n : ℕ) (triangle : List ℕ) → length (triangle_faces nodes n triangle) ≡ n * n
count_triangle nodes n triangle = omega (arith, count_rows nodes n triangle n 0 (omega arith))

length_all : {A B : Type 0} (f : A → List B) (m : ℕ) (xs : List A) → ((x : A) → length (f x) ≡ m) → length (flat_map f xs) ≡ length xs * m
length_all f m [] h = omega arith
length_all f m (x ∷ xs) h = omega (arith, length-append (f x) (flat_map f xs), h x, length_all f m xs h)

pub count_faces : (nodes : List (List ℤ)) (n : ℕ) → length (faces_of nodes n) ≡ 20 * (n * n)
unfolding faces_of
count_faces nodes n = length_all (triangle_faces nodes n) (n * n) base_triangles (count_triangle nodes n)
