use Rattle.std.proofs.Common.{arith}
use Rattle.map_rows.specs.Application.{rest_of}
use Rattle.apply_map.proofs.Parts.{count_of}
use Rattle.tempest_top.proofs.numbers.FieldNumbersMadeNumbers.put_longs.Goals as goal

pub put_rests-requires-clause-within : goal.put_rests-requires-clause-within
put_rests-requires-clause-within c =
    let r = c.args.self.now in
    omega (arith, c.requires, count_of rest_of r.targets.now r.slices r.values.now)
