use Rattle.std.proofs.Common.{◌∙◌, ◌++◌, ap, sym}
use Rattle.fault_lines.specs.Lines.{PutsText}
use Rattle.fault_lines.proofs.Pieces.{text_of_name}
use Rattle.fault_lines.proofs.faults.put_name.Goals as goal

pub returns-in-None : goal.returns-in-None
returns-in-None g c =
    let front = c.front_of-front.result.now in
    text_of_name (PutsText (g.E.Sink.seen c.args.err.now) (g.E.Sink.seen c.put_line.new.err)) c.args.file.now c.args.text.now front _
    (ap (λ l. front ++ l) (sym c.in-None.ensures) ∙ c.front_of-front.ensures) c.put_line.ensures.line
