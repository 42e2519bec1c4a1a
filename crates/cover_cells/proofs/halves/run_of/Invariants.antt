use Rattle.std.proofs.Common.{◌≡◌, ℕ, ◌<◌, length, slice_index_or}
use Rattle.vec_exact.specs.Cycle.{shifted}
use Rattle.cover_cells.specs.declared.cells.CellPlane.{CellPlane}
use Rattle.cover_cells.proofs.halves.run_of.Given as goal

abbrev pub invariant-loop-t : goal.invariant-loop-t
invariant-loop-t l = record {
  len : length l.run.items ≡ l.t;
  each : (u : ℕ) (e : CellPlane) → u < l.t → slice_index_or l.run.items u e ≡ slice_index_or l.cell (shifted (length l.cell) l.first u) e;
}
