use Rattle.std.proofs.Common.{◌≡◌, ◌+◌, ◌-◌, ◌≤◌, ℕ}
use Rattle.overlap_run.specs.Parts.{IsBlockOf, DoMeetWithin, clip_count}
use Rattle.overlap_run.proofs.blocks.extend_block.Given as goal

abbrev pub invariant-loop-i : goal.invariant-loop-i
invariant-loop-i g l = record {
  block : (first : ℕ) → first ≤ l.from → IsBlockOf g.C.PieceList.holds l.a l.b (DoMeetWithin l.a l.b first (l.from - 1)) l.initial.block
      → IsBlockOf g.C.PieceList.holds l.a l.b (DoMeetWithin l.a l.b first (l.i - 1)) l.block;
  few : l.block.count ≤ l.initial.block.count + clip_count l.a l.b l.from (l.i - 1);
  ticks : l.steps ≡ l.initial.steps + clip_count l.a l.b l.from (l.i - 1);
}
