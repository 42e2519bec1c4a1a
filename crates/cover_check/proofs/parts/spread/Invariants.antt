use Rattle.std.proofs.Common.{ℕ, ◌+◌, ◌<◌, ◌≤◌, List, ◌++◌, length, map, vec_len, slice_index}
use Rattle.std.specs.Prelude.{All}
use Rattle.mesh_check.specs.Mesh.{corners_of}
use Rattle.cover_cells.specs.Cells.{IsCell, IsAway}
use Rattle.cover_check.specs.Parts.{PartView, view_of, with_faces, IsSoundPart, IsDivided}
use Rattle.cover_check.proofs.parts.spread.Given as goal

abbrev pub invariant-loop-cell : goal.invariant-loop-cell
invariant-loop-cell l =
    let target = corners_of l.b l.j in
    record {
      rings : All (IsCell l.a target) l.pieces.items;
      skipped : l.skip < length l.faces → All (λ cell. IsAway l.a target cell (slice_index l.faces l.skip)) l.pieces.items;
      divided : (all : List ℕ) (others : List PartView)
          → IsDivided l.a target all (map view_of l.fn.parts.items ++ (others ++ with_faces l.faces l.fn.cells)) l.fn.left
          → IsDivided l.a target all (map view_of l.parts.items ++ (others ++ with_faces l.faces l.pieces.items)) l.left;
      sound : (n : ℕ) → length l.faces ≤ n → All (IsSoundPart l.a target n) (map view_of l.fn.parts.items) → All (IsSoundPart l.a target n) (map view_of l.parts.items);
      fewer : (n : ℕ) → l.skip < length l.faces → length l.faces ≤ n + 1 → All (IsSoundPart l.a target n) (map view_of l.fn.parts.items) → All (IsSoundPart l.a target n) (map view_of l.parts.items);
    }

abbrev pub decreases-loop-cell : goal.decreases-loop-cell
decreases-loop-cell l = vec_len l.pieces
