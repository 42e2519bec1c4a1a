-- How far a face reaches in each coordinate, and in the sums and differences of two of them: the sides of the panels are the
-- planes on which two coordinates are equal or opposite. Source: our own, over the gnomonic cubed sphere.
use Rattle.std.specs.Prelude.{◌≡◌, ℕ, ◌-◌, ◌≤◌, ℤ, ◌+ℤ◌, ◌-ℤ◌, List, length}
use Rattle.vec_exact.specs.declared.Vec3.{Vec3}
use Rattle.vec_exact.specs.Cycle.{vector_at}
use Rattle.cell_index.specs.declared.spans.Extent.{Extent}
use Rattle.cell_index.specs.declared.spans.PairExtent.{PairExtent}
use Rattle.cell_index.specs.declared.spans.Spans.{Spans}
use Rattle.cell_index.specs.Box.{least, greatest}

-- from the least to the greatest of f at the places 0 to n
pub record IsExtent (f : ℕ → ℤ) (n : ℕ) (e : Extent) : Type 0 where
  pub low : e.least ≡ least f n
  pub high : e.greatest ≡ greatest f n

-- the same of the difference and the sum of f and g
pub record IsPairExtent (f g : ℕ → ℤ) (n : ℕ) (e : PairExtent) : Type 0 where
  pub difference : IsExtent (λ t. f t -ℤ g t) n e.minus
  pub sum : IsExtent (λ t. f t +ℤ g t) n e.plus

-- the coordinates of the node at place t
abbrev pub x_at : List Vec3 → ℕ → ℤ
x_at face t = (vector_at face t).x

abbrev pub y_at : List Vec3 → ℕ → ℤ
y_at face t = (vector_at face t).y

abbrev pub z_at : List Vec3 → ℕ → ℤ
z_at face t = (vector_at face t).z

-- the spans of the nodes at the places 0 to n
pub record AreFirstSpans (face : List Vec3) (n : ℕ) (s : Spans) : Type 0 where
  pub along_x : IsExtent (x_at face) n s.x
  pub along_y : IsExtent (y_at face) n s.y
  pub along_z : IsExtent (z_at face) n s.z
  pub along_xy : IsPairExtent (x_at face) (y_at face) n s.xy
  pub along_xz : IsPairExtent (x_at face) (z_at face) n s.xz
  pub along_yz : IsPairExtent (y_at face) (z_at face) n s.yz

-- the spans of all nodes of the face
pub record AreSpans (face : List Vec3) (s : Spans) : Type 0 where
  pub some : 1 ≤ length face
  pub all : AreFirstSpans face (length face - 1) s
