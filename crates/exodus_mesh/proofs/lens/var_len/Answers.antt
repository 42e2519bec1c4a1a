use Rattle.exodus_mesh.proofs.NumberFaults.{len_found, len_shape}
use Rattle.exodus_mesh.proofs.lens.var_len.Goals as goal

pub returns-clause-found : goal.returns-clause-found
returns-clause-found c = rw c.len_at.ensures (len_found c.args.file.now c.args.kind c.args.id c.args.place)

pub returns-clause-other_shape : goal.returns-clause-other_shape
returns-clause-other_shape c = rw c.len_at.ensures (len_shape c.args.file.now c.args.kind c.args.id c.args.place)
