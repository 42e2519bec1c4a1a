use Rattle.std.proofs.Common.{length, ap, arith}
use Rattle.vec_exact.specs.declared.Vec3.{Vec3}
use Rattle.crate_rows.proofs.clipping.corner_of_pair.Goals as goal

pub corner-requires-clause-numbers : goal.corner-requires-clause-numbers
corner-requires-clause-numbers c =
    let r = c.requires.ring.cycle in
    record {
      least = r.least_number;
      greatest = λ t l. omega (arith, r.greatest_number t l, ap (length {A = Vec3}) c.planes.ensures.planes);
    }
