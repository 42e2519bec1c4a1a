use Rattle.std.proofs.Common.{◌<◌, ◌^◌, ℤ, unsigned_abs, ap, ◌∙◌, sym, subst, FitsSigned, rules}
use Rattle.std.proofs.lemmas.Int.{to_z-of_z}
use mir.Syntax.{w128}
use Rattle.vec_exact.specs.Vector.{inner}
use Rattle.vec_exact.proofs.Bounds.{det_below}
use Rattle.vec_exact.proofs.vectors.det.Goals as goal

pub returns-clause-size : goal.returns-clause-size
returns-clause-size c =
    let fits : FitsSigned w128 c.dot.result = search rules in
    let value = c.dot.ensures.value ∙ ap (inner c.args.a) c.cross.ensures.value in
    simp to_z-of_z (subst (λ (z : ℤ). unsigned_abs z < 2 ^ 87) (sym value) (det_below c.args.a c.args.b c.args.c c.requires.a_size c.requires.b_size c.requires.c_size))
