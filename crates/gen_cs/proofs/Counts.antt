-- How many faces there are, and how many nodes each has.
use Rattle.std.proofs.Common.{◌≡◌, ◌*◌, ℕ, ℤ, List, [], ◌++◌, refl, arith, length, length-append, All}
use Rattle.std.proofs.lemmas.List.FromFn.{length-map-range_with_len}
use Rattle.std.proofs.lemmas.List.Elements.{All-from_recursion}
use Rattle.vec_exact.specs.declared.panels.Panel.{Panel}
use Rattle.vec_exact.specs.declared.panels.Panel.TheVariants.{PlusX, PlusY, MinusX, MinusY, PlusZ, MinusZ}
use Rattle.gen_cs.specs.CubedSphere.{face_at, row_faces, panel_faces, faces_of, panels}
use Rattle.vec_exact.proofs.Ranges.{length_even}
use Rattle.gen_cs.proofs.Pieces.{all_flat, all_flat_range, all_range}

count_panel : (nodes : List (List ℤ)) (n : ℕ) (panel : Panel) → length (panel_faces nodes n panel) ≡ n * n
count_panel nodes n panel = length_even (row_faces nodes n panel) n 0 n (λ j low high. length-map-range_with_len (face_at nodes n panel j) 0 n)

pub count_faces : (nodes : List (List ℤ)) (n : ℕ) → length (faces_of nodes n) ≡ 6 * (n * n)
count_faces nodes n =
    let f = panel_faces nodes n in
    omega (
      arith,
      length-append (f PlusX) (f PlusY ++ (f MinusX ++ (f MinusY ++ (f PlusZ ++ (f MinusZ ++ []))))),
      length-append (f PlusY) (f MinusX ++ (f MinusY ++ (f PlusZ ++ (f MinusZ ++ [])))),
      length-append (f MinusX) (f MinusY ++ (f PlusZ ++ (f MinusZ ++ []))),
      length-append (f MinusY) (f PlusZ ++ (f MinusZ ++ [])),
      length-append (f PlusZ) (f MinusZ ++ []),
      length-append (f MinusZ) [],
      count_panel nodes n PlusX,
      count_panel nodes n PlusY,
      count_panel nodes n MinusX,
      count_panel nodes n MinusY,
      count_panel nodes n PlusZ,
      count_panel nodes n MinusZ,
    )

pub all_squares : (nodes : List (List ℤ)) (n : ℕ) → All (λ face. length face ≡ 4) (faces_of nodes n)
all_squares nodes n =
    let IsSquare = λ (face : List ℤ). length face ≡ 4 in
    All-from_recursion IsSquare (faces_of nodes n)
    (all_flat IsSquare (panel_faces nodes n) panels (λ panel.
    all_flat_range IsSquare (row_faces nodes n panel) 0 n (λ j _.
    all_range IsSquare (face_at nodes n panel j) 0 n (λ i _. refl))))
