-- Every face of the cubed sphere is accepted.
use Rattle.std.proofs.Common.{◌≡◌, ◌-◌, ◌+◌, ◌≤◌, ◌<◌, ◌∙◌, ℕ, ℤ, pos, ◌+ℤ◌, unsigned_abs, List, [], ◌∷◌, arith, All, subst, sym, ap, get_or, refl}
use Rattle.std.proofs.lemmas.Int.{ints}
use Rattle.std.proofs.lemmas.List.Elements.{All-from_recursion}
use Rattle.std.specs.List.{position_or_len}
use Rattle.std.specs.Cmp.Lexicographic.{pointwise}
use Rattle.std.specs.Ordering.{int_eq}
use Rattle.vec_exact.specs.declared.panels.Panel.{Panel}
use Rattle.vec_exact.specs.Face.{vector_of, node_of, face_nodes, IsNodeNumber, IsAcceptedFace, IsAccepted}
use Rattle.vec_exact.specs.Panel.{on_panel}
use Rattle.gen_cs.specs.CubedSphere.{coordinate, corner, face_at, faces_of, nodes_of, number_of, panel_faces, panels, row_faces}
use Rattle.gen_cs.proofs.Found.{IsFound, corner_found}
use Rattle.gen_cs.proofs.Pieces.{all_flat, all_flat_range, all_range}
use Rattle.gen_cs.proofs.Squares.{all_four, panel_square, square_accepted}

-- the number of a triple that is found is the number of a node, and the node with this number is the triple
found_number : (nodes : List (List ℤ)) (t : List ℤ) → IsFound nodes t → IsNodeNumber nodes (number_of nodes t)
found_number nodes t f = (omega (arith, ints), omega (arith, ints, f.within))

found_node : (nodes : List (List ℤ)) (t : List ℤ) → IsFound nodes t → node_of nodes (number_of nodes t) ≡ vector_of t
found_node nodes t f =
    let k = position_or_len (λ m. pointwise int_eq m t) nodes in
    let back : k + 1 - 1 ≡ k = omega arith in
    ap (λ (i : ℕ). vector_of (get_or nodes i [])) back ∙ ap vector_of f.is

next_coordinate : (n i : ℕ) → coordinate n (i + 1) ≡ coordinate n i +ℤ pos 2
next_coordinate n i = omega (arith, ints)

small_coordinate : (n i : ℕ) → n ≤ 400 → i ≤ n → unsigned_abs (coordinate n i) ≤ 400
small_coordinate n i large within = omega (arith, ints)

these : {A : Type 0} (a b c d a' b' c' d' : A) → a ≡ a' → b ≡ b' → c ≡ c' → d ≡ d' → a ∷ b ∷ c ∷ d ∷ [] ≡ a' ∷ b' ∷ c' ∷ d' ∷ []
these a b c d a' b' c' d' e f g h = rw (e, f, g, h) refl

-- the nodes of a face are the corners of its square
pub face_is_square : (n : ℕ) (panel : Panel) (j i : ℕ) → 1 ≤ n → i < n → j < n
    → face_nodes (nodes_of n) (face_at (nodes_of n) n panel j i) ≡ panel_square panel (pos n) (coordinate n i) (coordinate n j)
face_is_square n panel j i least i_lt j_lt =
    let nodes = nodes_of n in
    let at = λ (x y : ℕ) (l : x ≤ n) (m : y ≤ n). found_node nodes (corner n panel x y) (corner_found n panel x y least l m) in
    these _ _ _ _ _ _ _ _
    (at i j (omega arith) (omega arith))
    (at (i + 1) j (omega arith) (omega arith) ∙ ap (λ z. on_panel panel (pos n) z (coordinate n j)) (next_coordinate n i))
    (at (i + 1) (j + 1) (omega arith) (omega arith) ∙ ap (λ z. on_panel panel (pos n) z (coordinate n (j + 1))) (next_coordinate n i) ∙ ap (λ z. on_panel panel (pos n) (coordinate n i +ℤ pos 2) z) (next_coordinate n j))
    (at i (j + 1) (omega arith) (omega arith) ∙ ap (λ z. on_panel panel (pos n) (coordinate n i) z) (next_coordinate n j))

accepted_at : (n : ℕ) (panel : Panel) (j i : ℕ) → 1 ≤ n → n ≤ 400 → i < n → j < n → IsAccepted (nodes_of n) (face_at (nodes_of n) n panel j i)
accepted_at n panel j i least large i_lt j_lt =
    let nodes = nodes_of n in
    let number = λ (x y : ℕ) (l : x ≤ n) (m : y ≤ n). found_number nodes (corner n panel x y) (corner_found n panel x y least l m) in
    record {
      in_range =
          all_four (IsNodeNumber nodes) (number_of nodes (corner n panel i j)) (number_of nodes (corner n panel (i + 1) j)) (number_of nodes (corner n panel (i + 1) (j + 1))) (number_of nodes (corner n panel i (j + 1)))
          (number i j (omega arith) (omega arith))
          (number (i + 1) j (omega arith) (omega arith))
          (number (i + 1) (j + 1) (omega arith) (omega arith))
          (number i (j + 1) (omega arith) (omega arith));
      accepted = subst IsAcceptedFace (sym (face_is_square n panel j i least i_lt j_lt))
          (square_accepted panel (pos n) (coordinate n i) (coordinate n j) (omega (arith, ints)) (omega arith)
          (small_coordinate n i large (omega arith)) (small_coordinate n j large (omega arith)));
    }

pub faces_accepted : (n : ℕ) → 1 ≤ n → n ≤ 400 → All (IsAccepted (nodes_of n)) (faces_of (nodes_of n) n)
faces_accepted n least large =
    let nodes = nodes_of n in
    let P = IsAccepted nodes in
    All-from_recursion P (faces_of nodes n)
    (all_flat P (panel_faces nodes n) panels (λ panel.
    all_flat_range P (row_faces nodes n panel) 0 n (λ j j_lt.
    all_range P (face_at nodes n panel j) 0 n (λ i i_lt. accepted_at n panel j i least large (omega (arith, i_lt)) (omega (arith, j_lt))))))
