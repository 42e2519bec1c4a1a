use Rattle.std.proofs.Common.{◌≡◌, ℕ, ◌<◌, pos, ◌<ℤ◌, length, slice_index_or}
use Rattle.vec_exact.specs.Cycle.{shifted}
use Rattle.clip.proofs.sides.positive_run.Given as goal

abbrev pub invariant-loop-run : goal.invariant-loop-run
invariant-loop-run l = record {
  below : l.place < length l.sides;
  place : l.place ≡ shifted (length l.sides) l.fn.first l.run;
  positive : (u : ℕ) → u < l.run → pos 0 <ℤ slice_index_or l.sides (shifted (length l.sides) l.fn.first u) (pos 0);
}
