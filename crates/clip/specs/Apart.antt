-- Faces that the plane of an edge keeps apart. A face is given by its nodes in order. Source: our own.
use Rattle.std.specs.Prelude.{ℕ, ◌<◌, pos, ◌≤ℤ◌, List, length}
use Rattle.vec_exact.specs.declared.Vec3.{Vec3}
use Rattle.vec_exact.specs.Vector.{inner}
use Rattle.vec_exact.specs.Cycle.{vector_at, face_plane}

-- no node of the face is on the positive side of the plane
abbrev pub IsBeyond : Vec3 → List Vec3 → Type 0
IsBeyond plane face = (s : ℕ) → s < length face → inner plane (vector_at face s) ≤ℤ pos 0

-- some edge of f has no node of g on its positive side
abbrev pub KeepsOff : List Vec3 → List Vec3 → Type 0
KeepsOff f g = (t : ℕ) × (t < length f) × IsBeyond (face_plane f t) g
