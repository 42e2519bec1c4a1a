use Rattle.std.proofs.Common.{ℕ, ◌<◌, slice_index_or}
use Rattle.overlap_run.specs.declared.blocks.Waiting.{Waiting}
use Rattle.overlap_run.specs.Parts.{HasList}
use Rattle.overlap_run.proofs.workers.have_lists.Given as goal

abbrev pub invariant-loop-own : goal.invariant-loop-own
invariant-loop-own g l = (k : ℕ) (d : Waiting g.row.C.Denot) → k < l.own-index → HasList (slice_index_or l.workers k d)
