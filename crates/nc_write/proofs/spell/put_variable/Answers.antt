use Rattle.std.proofs.Common.{arith}
use Rattle.std.proofs.lemmas.Grind.{common_steps}
use Rattle.nc_write.specs.Extents.{rounded}
use Rattle.nc_write.specs.File.{variable, doc_piece_len}
use Rattle.nc_write.proofs.Vsizes.{vsize_stops}
use Rattle.nc_write.proofs.spell.put_variable.Goals as goal

pub returns : goal.returns
unfolding variable
returns c =
    let size = vsize_stops c.args.version (rounded (doc_piece_len c.args.doc.now c.args.var.now)) in
    grind (arith, common_steps, size)
