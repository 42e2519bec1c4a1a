use Rattle.std.proofs.Common.{◌≡◌, ℕ, ◌+◌, ◌-◌, ◌≤◌, take}
use Rattle.overlap_run.specs.Parts.{IsBlockOf, DoMeetWithin}
use Rattle.overlap_run.proofs.FaceSteps.{DoMeetAmong}
use Rattle.overlap_run.proofs.faces.clip_face.Given as goal

abbrev pub invariant-loop-j : goal.invariant-loop-j
invariant-loop-j g l = record {
  block : (first : ℕ) → first ≤ l.i → IsBlockOf g.C.PieceList.holds l.a l.b (DoMeetWithin l.a l.b first (l.i - 1)) l.initial.block
      → IsBlockOf g.C.PieceList.holds l.a l.b (DoMeetAmong l.a l.b first l.i (take l.j-index l.targets)) l.block;
  few : l.block.count ≤ l.initial.block.count + l.j-index;
  ticks : l.steps ≡ l.initial.steps + l.j-index;
}
