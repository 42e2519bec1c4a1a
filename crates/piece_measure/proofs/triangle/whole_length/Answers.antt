use Rattle.std.proofs.Common.{◌≡◌, ◌∙◌, ◌<◌, pos, unsigned_abs, ap, arith, rules, FitsSigned}
use Rattle.std.proofs.lemmas.Int.{ints, to_z-of_z, to_z_pos}
use mir.Syntax.{w128}
use Rattle.vec_exact.specs.Vector.{inner}
use Rattle.piece_measure.specs.Triangle.{whole_length}
use Rattle.vec_exact.specs.Root.{root_of}
use Rattle.vec_exact.proofs.Roots.{root_below}
use Rattle.piece_measure.proofs.Sizes.{inner_small}
use Rattle.piece_measure.proofs.triangle.whole_length.Goals as goal

square_is : (c : goal.After-root_near) → c.unsigned_abs-square.result ≡ unsigned_abs (inner c.args.a c.args.a)
square_is c =
    let d : FitsSigned w128 c.dot.result = search rules in
    let value = simp to_z-of_z at c.unsigned_abs-square.ensures.value in
    value ∙ ap unsigned_abs c.dot.ensures.value

root_is : (c : goal.After-root_near) → c.root_near.result ≡ root_of (unsigned_abs (inner c.args.a c.args.a))
root_is c = c.root_near.ensures.value ∙ ap root_of (square_is c)

small : (c : goal.After-root_near) → c.root_near.result < 536870912
small c =
    let n = unsigned_abs (inner c.args.a c.args.a) in
    let below : root_of n < 536870912 = root_below n 536870912 (omega (arith, inner_small c.args.a c.args.a c.requires c.requires)) in
    omega (arith, root_is c, below)

pub returns-clause-value : goal.returns-clause-value
unfolding whole_length
returns-clause-value c = to_z_pos w128 c.root_near.result (omega (arith, small c)) ∙ ap pos (root_is c)

pub returns-clause-size : goal.returns-clause-size
returns-clause-size c = omega (arith, ints, to_z_pos w128 c.root_near.result (omega (arith, small c)), small c)
