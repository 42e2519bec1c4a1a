-- Nodes and planes in 64 bits.
use Rattle.std.specs.Prelude.{ℕ, ◌<◌, pos, List, length, slice_index_or}
use Rattle.vec_exact.specs.declared.Vec3.{Vec3}
use Rattle.vec_exact.specs.Size.{Is18}
use Rattle.clip.specs.declared.narrow.NarrowVec3.{NarrowVec3}

-- the same triple
abbrev pub wide : NarrowVec3 → Vec3
wide t = record { x = t.x; y = t.y; z = t.z }

abbrev pub narrow_zero : NarrowVec3
narrow_zero = record { x = pos 0; y = pos 0; z = pos 0 }

-- each is the size of a node
abbrev pub AreNodeSized : List NarrowVec3 → Type 0
AreNodeSized l = (t : ℕ) → t < length l → Is18 (wide (slice_index_or l t narrow_zero))
