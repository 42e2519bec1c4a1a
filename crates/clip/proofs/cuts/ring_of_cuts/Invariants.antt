use Rattle.std.proofs.Common.{◌+◌, length}
use Rattle.cone_laws.specs.Ring.{planes_of_pair, IsRingOfFirst}
use Rattle.clip.specs.Outlines.{nodes_of}
use Rattle.clip.proofs.cuts.ring_of_cuts.Given as goal

abbrev pub invariant-loop-u : goal.invariant-loop-u
invariant-loop-u l = IsRingOfFirst (planes_of_pair (nodes_of l.f) (nodes_of l.g)) (length (nodes_of l.f) + l.u) l.ring.items
