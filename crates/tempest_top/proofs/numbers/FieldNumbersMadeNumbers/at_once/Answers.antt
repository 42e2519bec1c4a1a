use Rattle.std.proofs.Common.{◌≤◌, arith}
use Rattle.tempest_top.proofs.numbers.FieldNumbersMadeNumbers.at_once.Goals as goal

pub returns : goal.returns
returns c =
    let some : 1 ≤ c.map.inside.n_b = c.map.invariant.target_faces.0 in
    omega (arith, some)
