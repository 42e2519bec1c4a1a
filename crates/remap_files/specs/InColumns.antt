-- An overlap whose pieces stand in columns. Source: our own.
use Rattle.std.specs.Prelude.{◌≡◌, ℕ}
use Rattle.clip.specs.declared.columns.Columns.{Columns}
use Rattle.clip.specs.Columns.{AreColumnsOf}
use Rattle.clip.specs.Overlaps.{OverlapParts, IsSoundOverlap}

-- o is an overlap of two meshes with these face counts, and the columns hold its pieces
pub record IsInColumns (o : OverlapParts) (faces_a faces_b : ℕ) (columns : Columns) : Type 0 where
  pub sound : IsSoundOverlap o
  pub source_faces : o.faces_a ≡ faces_a
  pub target_faces : o.faces_b ≡ faces_b
  pub pieces : AreColumnsOf o.pieces columns
