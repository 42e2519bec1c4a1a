use Rattle.mesh_check.specs.Mesh.{corners_of}
use Rattle.clip.specs.Outlines.{nodes_of}
use Rattle.clip.proofs.Separated.{apart}
use Rattle.clip.proofs.PairAnswers.{answer_of}
use Rattle.std.proofs.Common.{refl}
use Rattle.clip.proofs.cuts.ring_with_next.Goals as goal

pub returns-then-not-read_unless_kept_off-clause-ring : goal.returns-then-not-read_unless_kept_off-clause-ring
returns-then-not-read_unless_kept_off-clause-ring c =
    apart (nodes_of c.args.f.now) (corners_of c.args.mesh.now c.args.face) c.read_unless_kept_off.ensures.accepted (c.read_unless_kept_off.ensures.off c.if-not-read_unless_kept_off.true)

pub returns-clause-ring : goal.returns-clause-ring
returns-clause-ring c =
    answer_of c.ring_of_near.result (nodes_of c.args.f.now) (corners_of c.args.mesh.now c.args.face) (nodes_of c.args.f.now) _ refl (c.read_unless_kept_off.ensures.nodes c.if-not-read_unless_kept_off.false) c.ring_of_near.ensures
