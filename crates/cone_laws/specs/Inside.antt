-- Faces as sets of directions. A face is given by its nodes in order. Source: our own.
use Rattle.std.specs.Prelude.{List, length}
use Rattle.vec_exact.specs.declared.Vec3.{Vec3}
use Rattle.vec_exact.specs.Cycle.{face_plane}
use Rattle.cone_laws.specs.Cone.{NoneNegative, AllPositive}

-- d is on the positive side of every edge plane of the face
abbrev pub IsInside : List Vec3 → Vec3 → Type 0
IsInside f d = AllPositive (length f) (face_plane f) d

-- d is on the negative side of no edge plane of the face
abbrev pub IsInClosure : List Vec3 → Vec3 → Type 0
IsInClosure f d = NoneNegative (length f) (face_plane f) d

-- some direction is inside both faces
abbrev pub Meets : List Vec3 → List Vec3 → Type 0
Meets f g = (d : Vec3) × IsInside f d × IsInside g d
