use Rattle.std.proofs.Common.{codes}
use Rattle.fault_lines.specs.Lines.{PutsText}
use Rattle.fault_lines.proofs.MapTexts.{text_of_five}
use Rattle.fault_lines.proofs.rows.refuse_counts.Goals as goal

pub returns-clause-line : goal.returns-clause-line
returns-clause-line g c =
    text_of_five (PutsText (g.E.Sink.seen c.args.err.now) (g.E.Sink.seen c.put_line.new.err)) c.args.file.now c.args.name.now c.format.result.now _ (codes " mesh ") c.format-2.result.now _ c.format.ensures.text c.format-2.ensures.text c.put_line.ensures.line
