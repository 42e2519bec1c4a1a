use Rattle.cell_index.proofs.Sides.{beyond_plus_x, beyond_plus_y, beyond_minus_x, beyond_minus_y, beyond_plus_z, beyond_minus_z}
use Rattle.cell_index.proofs.spans.lies_beyond.Goals as goal

pub returns-in-PlusX : goal.returns-in-PlusX
returns-in-PlusX c = λ face h. cc (beyond_plus_x face c.args.spans.now h)

pub returns-in-PlusY : goal.returns-in-PlusY
returns-in-PlusY c = λ face h. cc (beyond_plus_y face c.args.spans.now h)

pub returns-in-MinusX : goal.returns-in-MinusX
returns-in-MinusX c = λ face h. cc (beyond_minus_x face c.args.spans.now h)

pub returns-in-MinusY : goal.returns-in-MinusY
returns-in-MinusY c = λ face h. cc (beyond_minus_y face c.args.spans.now h)

pub returns-in-PlusZ : goal.returns-in-PlusZ
returns-in-PlusZ c = λ face h. cc (beyond_plus_z face c.args.spans.now h)

pub returns-in-MinusZ : goal.returns-in-MinusZ
returns-in-MinusZ c = λ face h. cc (beyond_minus_z face c.args.spans.now h)
