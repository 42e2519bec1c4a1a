use Rattle.std.proofs.Common.{◌≡◌, length}
use Rattle.clip.specs.Outlines.{wide_list}
use Rattle.clip.proofs.Pair.{first_edges}
use Rattle.clip.proofs.outlines.make_planes.Given as goal

abbrev pub invariant-loop-t : goal.invariant-loop-t
invariant-loop-t l = record { len : length l.planes.items ≡ l.t; planes : wide_list l.planes.items ≡ first_edges (wide_list l.nodes) l.t }
