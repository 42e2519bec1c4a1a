use Rattle.std.proofs.Common.{codes}
use Rattle.fault_lines.specs.Lines.{PutsText}
use Rattle.fault_lines.proofs.Pieces.{text_of_four}
use Rattle.fault_lines.proofs.faults.put_data_outside.Goals as goal

pub returns : goal.returns
returns g c = text_of_four (PutsText (g.E.Sink.seen c.args.err.now) (g.E.Sink.seen c.put_line.new.err)) c.args.file.now (codes ": data of variable ") c.format.result.now _ (codes " outside file") c.format.ensures.text c.put_line.ensures.line
