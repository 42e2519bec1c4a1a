use Rattle.std.proofs.Common.{refl, arith}
use Rattle.overlap_run.proofs.FaceSteps.{face_begins, face_more, face_ends}
use Rattle.overlap_run.proofs.faces.clip_face.Goals as goal

pub loop-j-init : goal.loop-j-init
loop-j-init g c = record {
  block = λ first l h. face_begins g.C.PieceList.holds c.args.a.now c.args.b.now first c.args.i l c.requires.face.0 c.args.block.now h;
  few = omega arith;
  ticks = omega arith;
}

pub loop-j-preserved : goal.loop-j-preserved
loop-j-preserved g c = record {
  block = λ first l h.
      face_more g.C.PieceList.holds c.args.a.now c.args.b.now first c.args.i l c.requires.face.0 c.args.targets.now c.loop-j.j-index _ c.loop-j-test.true refl c.requires.ascending
      c.loop-j.block _ (c.loop-j.invariant.block first l h) c.in_ok-clip_pair.ensures.pair;
  few = omega (arith, c.loop-j.invariant.few, c.in_ok-clip_pair.ensures.few);
  ticks = omega (arith, c.loop-j.invariant.ticks, c.in_ok-clip_pair.ensures.tick);
}

pub returns-clause-block : goal.returns-clause-block
returns-clause-block g c first l h =
    face_ends g.C.PieceList.holds c.args.a.now c.args.b.now first c.args.i l c.requires.face.0 c.args.targets.now c.loop-j.j-index (omega (arith, c.loop-j-test.false)) c.requires.all
    c.loop-j.block (c.loop-j.invariant.block first l h)
