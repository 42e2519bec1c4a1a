use Rattle.std.proofs.Common.{codes}
use Rattle.fault_lines.specs.Lines.{PutsText}
use Rattle.fault_lines.proofs.Pieces.{text_of_two}
use Rattle.fault_lines.proofs.faults.put_too_many.Goals as goal

pub returns : goal.returns
returns g c = text_of_two (PutsText (g.E.Sink.seen c.args.err.now) (g.E.Sink.seen c.put_line.new.err)) (codes "too many pieces ") c.format.result.now _ c.format.ensures.text c.put_line.ensures.line
