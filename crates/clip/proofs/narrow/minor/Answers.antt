use Rattle.std.proofs.Common.{arith}
use Rattle.std.proofs.lemmas.Int.{ints, to_z-of_z}
use Rattle.clip.proofs.narrow.minor.Goals as goal

pub returns : goal.returns
returns c =
    let fa = c.ranges.a in let fd = c.ranges.d in let fb = c.ranges.b in let fc = c.ranges.c in
    omega (arith, ints, simp to_z-of_z at c.node_product.ensures.value, simp to_z-of_z at c.node_product-2.ensures.value)
