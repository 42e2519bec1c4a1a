use Rattle.std.proofs.Common.{codes, refl}
use Rattle.fault_lines.specs.Lines.{PutsText}
use Rattle.fault_lines.proofs.Pieces.{text_of_numbered}
use Rattle.fault_lines.proofs.faults.put_block_name.Goals as goal

pub returns : goal.returns
returns g c = text_of_numbered (PutsText (g.E.Sink.seen c.args.err.now) (g.E.Sink.seen c.put_line.new.err)) c.args.file.now c.args.text.now (codes "connect") c.format.result.now _ _ c.format.ensures.text refl c.put_line.ensures.line
