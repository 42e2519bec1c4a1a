-- Faces as the lists of numbers that they hold. Source: our own.
use Rattle.std.specs.Prelude.{ℤ, List, map}
use Rattle.smallvec.specs.SmallVec.{SmallVec}

abbrev pub face_lists : List (SmallVec ℤ) → List (List ℤ)
face_lists faces = map (λ (face : SmallVec ℤ). face.items) faces
