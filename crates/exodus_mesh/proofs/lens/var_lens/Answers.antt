use Rattle.exodus_mesh.proofs.NumberFaults.{lens_found, lens_shape}
use Rattle.exodus_mesh.proofs.lens.var_lens.Goals as goal

pub returns-clause-found : goal.returns-clause-found
returns-clause-found c = rw c.lens_at.ensures (lens_found c.args.file.now c.args.kind c.args.id c.args.place)

pub returns-clause-other_shape : goal.returns-clause-other_shape
returns-clause-other_shape c = rw c.lens_at.ensures (lens_shape c.args.file.now c.args.kind c.args.id c.args.place)
