use Rattle.clip.specs.Outlines.{nodes_of}
use Rattle.clip.proofs.Separated.{apart, meets_turned}
use Rattle.clip.proofs.cuts.ring_of_near.Goals as goal

pub returns-in-None : goal.returns-in-None
returns-in-None c = λ m. apart (nodes_of c.args.g.now) (nodes_of c.args.f.now) c.requires.f.accepted c.in-None.ensures (meets_turned (nodes_of c.args.f.now) (nodes_of c.args.g.now) m)
