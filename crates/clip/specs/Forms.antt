-- Corners of a ring as nodes and as triples.
use Rattle.std.specs.Prelude.{◌≡◌, ℕ, ◌<◌, pos}
use Rattle.vec_exact.specs.declared.Vec3.{Vec3}
use Rattle.vec_exact.specs.Vector.{scaled}
use Rattle.vec_exact.specs.Size.{Is18, Is75}
use Rattle.vec_exact.specs.Face.{vector_of}
use Rattle.clip.specs.declared.forms.CornerForm.{CornerForm}
use Rattle.clip.specs.declared.forms.CornerForm.TheVariants.{Node, Meeting}

-- c is a positive multiple of the node, which has a node's size, or it is the triple, which has a corner's size
abbrev pub IsFormOf : CornerForm → Vec3 → Type 0
IsFormOf (Node v) c = Is18 (vector_of v) × ((k : ℕ) × (0 < k) × (c ≡ scaled (pos k) (vector_of v)))
IsFormOf (Meeting m) c = Is75 m × (m ≡ c)
