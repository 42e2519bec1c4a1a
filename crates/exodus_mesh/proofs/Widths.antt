-- No face is wider than the width.
use Rattle.std.proofs.Common.{◌≤◌, ℕ, ℤ, max, List, [], ◌∷◌, length, map, fold, All, arith}
use Rattle.std.specs.List.{AllByRecursion}
use Rattle.std.proofs.lemmas.List.Elements.{All-from_recursion}
use Rattle.exodus_mesh.specs.MeshDocument.{width_of}

grows : (a : ℕ) (faces : List (List ℤ)) → a ≤ fold max a (map length faces)
grows a [] = omega arith
grows a (f ∷ fs) = omega (arith, grows (max a (length f)) fs)

within : (a : ℕ) (faces : List (List ℤ)) (w : ℕ) → fold max a (map length faces) ≤ w → AllByRecursion (λ face. length face ≤ w) faces
within a [] w h = tt
within a (f ∷ fs) w h = (omega (arith, h, grows (max a (length f)) fs), within (max a (length f)) fs w h)

pub all_within_each : (faces : List (List ℤ)) → AllByRecursion (λ face. length face ≤ width_of faces) faces
all_within_each faces = within 0 faces (width_of faces) (omega arith)

pub all_within : (faces : List (List ℤ)) → All (λ face. length face ≤ width_of faces) faces
all_within faces = All-from_recursion (λ face. length face ≤ width_of faces) faces (all_within_each faces)
