use Rattle.std.proofs.lemmas.Int.{to_z-of_z}
use Rattle.vec_exact.proofs.Bits.{read_product, read_two, difference_fits}
use Rattle.vec_exact.proofs.vectors.minor.Goals as goal

pub product-requires : goal.product-requires
product-requires c = read_product c.args.a c.args.d c.requires.a_size c.requires.d_size

pub product-requires-2 : goal.product-requires-2
product-requires-2 c = read_product c.args.b c.args.c c.requires.b_size c.requires.c_size

pub overflow_sub-result : goal.overflow_sub-result
overflow_sub-result c = difference_fits c.product.result c.product-2.result c.product.ensures.size c.product-2.ensures.size

pub returns : goal.returns
returns c =
    let fa = c.ranges.a in let fd = c.ranges.d in let fb = c.ranges.b in let fc = c.ranges.c in
    let p = simp to_z-of_z at c.product.ensures.value in let q = simp to_z-of_z at c.product-2.ensures.value in
    cc (read_two c.product.result c.product-2.result c.product.ensures.size c.product-2.ensures.size, p, q)
