use Rattle.std.proofs.Common.{codes}
use Rattle.fault_lines.specs.Lines.{PutsText}
use Rattle.fault_lines.proofs.MapTexts.{text_of_five}
use Rattle.tempest_top.proofs.field_faults.put_no_fit.Goals as goal

pub returns : goal.returns
returns g c =
    text_of_five (PutsText (g.E.Sink.seen c.args.err.now) (g.E.Sink.seen c.put_line.new.err)) c.args.file.now (codes ": length ") c.format.result.now _ (codes " map ") c.format-2.result.now _ c.format.ensures.text c.format-2.ensures.text c.put_line.ensures.line
