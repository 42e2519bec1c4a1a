use Rattle.std.proofs.Common.{◌++◌, take, codes}
use Rattle.std.specs.List.{flat_map}
use Rattle.remap_io.specs.Held.{Gains}
use Rattle.remap_io.specs.Outside.{NoPutCountFalls}
use Rattle.fault_lines.proofs.lines.put_line.Given as goal

abbrev pub invariant-loop-part : goal.invariant-loop-part
invariant-loop-part g l = record {
  gained : Gains (g.E.Sink.seen l.fn.err).contents (g.E.Sink.seen l.err).contents (codes "tempest: " ++ flat_map (λ part. part.now) (take l.part-index l.parts));
  counts : NoPutCountFalls (g.E.Sink.seen l.fn.err) (g.E.Sink.seen l.err);
}
