use Rattle.std.proofs.Common.{◌≡◌, ◌≤◌, ◌<◌, ◌*◌, ℤ, ◌-ℤ◌, ◌*ℤ◌, unsigned_abs, sym, subst}
use Rattle.std.proofs.lemmas.Int.{to_z-of_z}
use Rattle.vec_exact.proofs.Rounded.{rounded_near, rounded_half, rounded_size, read_rounded, read_rounded_neg}
use Rattle.vec_exact.proofs.rounding.round_div.Goals as goal

pub returns-then-x-lt0-clause-value : goal.returns-then-x-lt0-clause-value
returns-then-x-lt0-clause-value c =
    let x = c.ranges.x in let d = c.ranges.d in
    read_rounded_neg c.args.x c.args.d c.unsigned_abs.result c.unsigned_abs-size.result
    (simp to_z-of_z at c.if-x-lt0.true) (simp to_z-of_z at c.unsigned_abs.ensures.value) (simp to_z-of_z at c.unsigned_abs-size.ensures.value) c.requires.positive c.requires.x_size

pub returns-then-x-lt0-clause-nearest : goal.returns-then-x-lt0-clause-nearest
returns-then-x-lt0-clause-nearest c =
    subst (λ (r : ℤ). 2 * unsigned_abs (c.args.x -ℤ r *ℤ c.args.d) ≤ unsigned_abs c.args.d) (sym (returns-then-x-lt0-clause-value c))
    (rounded_near c.args.x c.args.d c.requires.positive)

pub returns-then-x-lt0-clause-half : goal.returns-then-x-lt0-clause-half
returns-then-x-lt0-clause-half c =
    subst (λ (r : ℤ). 2 * unsigned_abs (c.args.x -ℤ r *ℤ c.args.d) ≡ unsigned_abs c.args.d → unsigned_abs c.args.x < unsigned_abs (r *ℤ c.args.d))
    (sym (returns-then-x-lt0-clause-value c)) (rounded_half c.args.x c.args.d c.requires.positive)

pub returns-then-x-lt0-clause-size : goal.returns-then-x-lt0-clause-size
returns-then-x-lt0-clause-size c =
    subst (λ (r : ℤ). unsigned_abs r ≤ unsigned_abs c.args.x) (sym (returns-then-x-lt0-clause-value c)) (rounded_size c.args.x c.args.d c.requires.positive)

pub returns-else-x-lt0-clause-value : goal.returns-else-x-lt0-clause-value
returns-else-x-lt0-clause-value c =
    let x = c.ranges.x in let d = c.ranges.d in
    read_rounded c.args.x c.args.d c.unsigned_abs.result c.unsigned_abs-size.result
    (simp to_z-of_z at c.if-x-lt0.false) (simp to_z-of_z at c.unsigned_abs.ensures.value) (simp to_z-of_z at c.unsigned_abs-size.ensures.value) c.requires.positive c.requires.x_size

pub returns-else-x-lt0-clause-nearest : goal.returns-else-x-lt0-clause-nearest
returns-else-x-lt0-clause-nearest c =
    subst (λ (r : ℤ). 2 * unsigned_abs (c.args.x -ℤ r *ℤ c.args.d) ≤ unsigned_abs c.args.d) (sym (returns-else-x-lt0-clause-value c))
    (rounded_near c.args.x c.args.d c.requires.positive)

pub returns-else-x-lt0-clause-half : goal.returns-else-x-lt0-clause-half
returns-else-x-lt0-clause-half c =
    subst (λ (r : ℤ). 2 * unsigned_abs (c.args.x -ℤ r *ℤ c.args.d) ≡ unsigned_abs c.args.d → unsigned_abs c.args.x < unsigned_abs (r *ℤ c.args.d))
    (sym (returns-else-x-lt0-clause-value c)) (rounded_half c.args.x c.args.d c.requires.positive)

pub returns-else-x-lt0-clause-size : goal.returns-else-x-lt0-clause-size
returns-else-x-lt0-clause-size c =
    subst (λ (r : ℤ). unsigned_abs r ≤ unsigned_abs c.args.x) (sym (returns-else-x-lt0-clause-value c)) (rounded_size c.args.x c.args.d c.requires.positive)
