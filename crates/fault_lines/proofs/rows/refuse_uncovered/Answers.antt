use Rattle.std.proofs.Common.{codes}
use Rattle.fault_lines.specs.Lines.{PutsText}
use Rattle.fault_lines.proofs.MapTexts.{text_around}
use Rattle.fault_lines.proofs.rows.refuse_uncovered.Goals as goal

pub returns-clause-line : goal.returns-clause-line
returns-clause-line g c = text_around (PutsText (g.E.Sink.seen c.args.err.now) (g.E.Sink.seen c.put_line.new.err)) (codes "target ") c.format.result.now _ (codes " uncovered") c.format.ensures.text c.put_line.ensures.line
