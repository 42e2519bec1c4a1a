use Rattle.std.proofs.Common.{◌<◌, ◌^◌, ◌*ℤ◌, unsigned_abs, refl, arith, FitsSigned}
use Rattle.std.proofs.lemmas.Int.{to_z-of_z, fits_signed_from_abs}
use mir.Syntax.{w128}
use Rattle.piece_measure.proofs.Sizes.{two_lengths_small, three_lengths_small}
use Rattle.piece_measure.proofs.triangle.product.Goals as goal

two : (c : goal.Start) → FitsSigned w128 (c.args.a_length *ℤ c.args.b_length)
two c =
    fits_signed_from_abs w128 (c.args.a_length *ℤ c.args.b_length)
    (omega (arith, two_lengths_small c.args.a_length c.args.b_length c.requires.a_size c.requires.b_size))

small : (c : goal.Start) → unsigned_abs (c.args.a_length *ℤ c.args.b_length *ℤ c.args.c_length) < 2 ^ 87
small c = three_lengths_small c.args.a_length c.args.b_length c.args.c_length c.requires.a_size c.requires.b_size c.requires.c_size

three : (c : goal.Start) → FitsSigned w128 (c.args.a_length *ℤ c.args.b_length *ℤ c.args.c_length)
three c = fits_signed_from_abs w128 (c.args.a_length *ℤ c.args.b_length *ℤ c.args.c_length) (omega (arith, small c))

pub overflow_mul-result-2 : goal.overflow_mul-result-2
overflow_mul-result-2 c =
    let fa = c.ranges.a_length in let fb = c.ranges.b_length in let fc = c.ranges.c_length in let p = two c in
    simp to_z-of_z (three c)

pub returns-clause-value : goal.returns-clause-value
returns-clause-value c =
    let fa = c.ranges.a_length in let fb = c.ranges.b_length in let fc = c.ranges.c_length in let p = two c in let q = three c in
    simp to_z-of_z refl

pub returns-clause-size : goal.returns-clause-size
returns-clause-size c =
    let fa = c.ranges.a_length in let fb = c.ranges.b_length in let fc = c.ranges.c_length in let p = two c in let q = three c in
    simp to_z-of_z (small c)
