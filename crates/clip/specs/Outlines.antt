-- Faces in 64 bits.
use Rattle.std.specs.Prelude.{◌≡◌, ℕ, ◌<◌, ◌≤◌, ◌+◌, slice_index, pos, ◌≤ℤ◌, List, length, map, slice_index_or, Bool, false}
use Rattle.vec_exact.specs.declared.Vec3.{Vec3}
use Rattle.vec_exact.specs.Vector.{inner}
use Rattle.vec_exact.specs.Cycle.{vector_at, face_plane}
use Rattle.vec_exact.specs.Face.{IsAcceptedFace}
use Rattle.cone_laws.specs.Ring.{face_planes}
use Rattle.clip.specs.declared.narrow.NarrowVec3.{NarrowVec3}
use Rattle.clip.specs.declared.outlines.Outline.{Outline}
use Rattle.clip.specs.Narrow.{wide}

-- the same triples
abbrev pub wide_list : List NarrowVec3 → List Vec3
wide_list l = map wide l

-- the nodes of a face
abbrev pub nodes_of : Outline → List Vec3
nodes_of e = wide_list e.nodes.items

-- the face is accepted, and its planes are those of its edges
pub record IsOutline (e : Outline) : Type 0 where
  pub accepted : IsAcceptedFace (nodes_of e)
  pub planes : wide_list e.planes.items ≡ face_planes (nodes_of e)

-- for each edge of g: where it is false, the edge has no node of f on its negative side
pub record AreCuts (f g : List Vec3) (cuts : List Bool) : Type 0 where
  pub len : length cuts ≡ length g
  pub none : (t : ℕ) → t < length g → slice_index_or cuts t false ≡ false → (s : ℕ) → s < length f → pos 0 ≤ℤ inner (face_plane g t) (vector_at f s)

-- each number of l is that of a plane of the two faces
pub record AreNumbersOf (e h : Outline) (l : List ℕ) : Type 0 where
  pub least : (t : ℕ) → t < length l → 1 ≤ slice_index l t
  pub greatest : (t : ℕ) → t < length l → slice_index l t ≤ length (nodes_of e) + length (nodes_of h)
  pub few : length l ≤ 32
