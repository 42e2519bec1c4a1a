use Rattle.std.proofs.Common.{refl}
use Rattle.vec_exact.specs.declared.panels.Panel.TheVariants.{PlusX, PlusY, MinusX, MinusY, PlusZ, MinusZ}
use Rattle.cell_index.specs.Extents.{x_at, y_at, z_at}
use Rattle.cell_index.proofs.Sides.{front_plus, front_minus}
use Rattle.cell_index.proofs.spans.lies_in_front.Goals as goal

pub returns-in-PlusX : goal.returns-in-PlusX
returns-in-PlusX c = λ face h. cc (front_plus face PlusX (x_at face) c.args.spans.now.x h.some h.all.along_x (λ t. refl))

pub returns-in-PlusY : goal.returns-in-PlusY
returns-in-PlusY c = λ face h. cc (front_plus face PlusY (y_at face) c.args.spans.now.y h.some h.all.along_y (λ t. refl))

pub returns-in-MinusX : goal.returns-in-MinusX
returns-in-MinusX c = λ face h. cc (front_minus face MinusX (x_at face) c.args.spans.now.x h.some h.all.along_x (λ t. refl))

pub returns-in-MinusY : goal.returns-in-MinusY
returns-in-MinusY c = λ face h. cc (front_minus face MinusY (y_at face) c.args.spans.now.y h.some h.all.along_y (λ t. refl))

pub returns-in-PlusZ : goal.returns-in-PlusZ
returns-in-PlusZ c = λ face h. cc (front_plus face PlusZ (z_at face) c.args.spans.now.z h.some h.all.along_z (λ t. refl))

pub returns-in-MinusZ : goal.returns-in-MinusZ
returns-in-MinusZ c = λ face h. cc (front_minus face MinusZ (z_at face) c.args.spans.now.z h.some h.all.along_z (λ t. refl))
