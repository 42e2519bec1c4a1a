use Rattle.std.proofs.Common.{◌≤◌, ◌<◌, ◌^◌, ◌*ℤ◌, ℤ, ◌*◌, sym, subst, unsigned_abs, FitsSigned, arith, lit<}
use Rattle.std.proofs.lemmas.Int.{to_z-of_z, fits_signed_mul}
use mir.Syntax.{w64}
use Rattle.vec_exact.proofs.Bounds.{product_at_most}
use Rattle.clip.proofs.narrow.node_product.Goals as goal

pub returns-clause-value : goal.returns-clause-value
returns-clause-value c =
    let a : FitsSigned w64 c.args.a = c.ranges.a in let b : FitsSigned w64 c.args.b = c.ranges.b in
    let p : FitsSigned w64 (c.args.a *ℤ c.args.b) = fits_signed_mul w64 c.args.a c.args.b 262143 262143 c.requires.a_size c.requires.b_size (lit< tt) in
    simp to_z-of_z

pub returns-clause-size : goal.returns-clause-size
returns-clause-size c =
    let m : unsigned_abs (c.args.a *ℤ c.args.b) ≤ 262143 * 262143 = product_at_most c.args.a c.args.b 262143 262143 c.requires.a_size c.requires.b_size in
    subst (λ (z : ℤ). unsigned_abs z < 2 ^ 36) (sym (returns-clause-value c)) (omega (arith, m))
