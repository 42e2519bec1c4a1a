use Rattle.clip.specs.Outlines.{nodes_of}
use Rattle.clip.proofs.Separated.{apart}
use Rattle.clip.proofs.cuts.ring_of_outlines.Goals as goal

pub returns-then-outline_keeps_off : goal.returns-then-outline_keeps_off
returns-then-outline_keeps_off c = apart (nodes_of c.args.f.now) (nodes_of c.args.g.now) c.requires.g.accepted (c.outline_keeps_off.ensures c.if-outline_keeps_off.true)
