use Rattle.nc_format.specs.Numbers.{HasWholePieces}
use Rattle.nc_format.proofs.Pieces.{header_has_pieces}
use Rattle.remap_load.proofs.Costs.{at_place}
use Rattle.remap_load.proofs.parts.load_part.Goals as goal

pub part_of-requires-clause-pieces : goal.part_of-requires-clause-pieces
part_of-requires-clause-pieces g c =
    let head = c.args.head.now in
    at_place (HasWholePieces head.len) head.file.vars c.args.var c.variable.result.now (header_has_pieces head.prefix head.len head.file c.requires.head.header) c.variable.ensures
