use Rattle.std.proofs.Common.{arith}
use Rattle.map_rows.specs.Application.{whole_of}
use Rattle.apply_map.proofs.Parts.{count_of}
use Rattle.tempest_top.proofs.numbers.FieldNumbersMadeNumbers.put_ints.Goals as goal

pub put_wholes-requires-clause-within : goal.put_wholes-requires-clause-within
put_wholes-requires-clause-within c =
    let r = c.args.self.now in
    omega (arith, c.requires, count_of whole_of r.targets.now r.slices r.values.now)
