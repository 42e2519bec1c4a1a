use Rattle.std.proofs.Common.{◌≡◌, ◌∙◌, ◌+◌, ◌*◌, ◌<◌, ◌≤◌, ℕ, ℤ, pos, negsuc, suc, ◌-ℤ◌, neg_ℤ, ◌<ℤ◌, ◌≤ℤ◌, unsigned_abs, ap, arith, to_z, of_z, w32}
use Rattle.std.proofs.lemmas.Int.{ints}
use Rattle.std.proofs.lemmas.Nat.{div_below}
use Rattle.vec_exact.specs.Rounding.{nearest, rounded}
use Rattle.gen_rll.proofs.nodes.component.Goals as goal

nearest_at_most : (n d b : ℕ) → 0 < d → n ≤ b * d → nearest n d ≤ b
nearest_at_most n d b p q =
    let room : 2 * n + d < (b + 1) * (2 * d) = omega (arith, q) in
    let below : nearest n d < b + 1 = div_below (2 * n + d) (2 * d) (b + 1) (omega arith) room in
    omega (arith, below)

below_zero : (x : ℤ) (s d : ℕ) → s ≡ unsigned_abs x → x <ℤ pos 0 → pos 0 -ℤ pos (nearest s d) ≡ rounded x d
below_zero (pos n) s d is lt = absurd (omega (arith, ints, lt))
below_zero (negsuc n) s d is lt =
    let size : s ≡ suc n = is in
    ap (λ (m : ℕ). pos 0 -ℤ pos (nearest m d)) size ∙ minus (nearest (suc n) d)
  where
    minus : (q : ℕ) → pos 0 -ℤ pos q ≡ neg_ℤ (pos q)
    minus q = omega (arith, ints)

not_below : (x : ℤ) (s d : ℕ) → s ≡ unsigned_abs x → pos 0 ≤ℤ x → pos (nearest s d) ≡ rounded x d
not_below (pos n) s d is le =
    let size : s ≡ n = is in
    ap (λ (m : ℕ). pos (nearest m d)) size
not_below (negsuc n) s d is le = absurd (omega (arith, ints, le))

held_below : (q : ℕ) → q ≤ 524288 → to_z w32 (of_z w32 (pos 0 -ℤ to_z w32 q)) ≡ pos 0 -ℤ pos q
held_below q few = omega (arith, ints, few)

held : (q : ℕ) → q ≤ 524288 → to_z w32 q ≡ pos q
held q few = omega (arith, ints, few)

pub returns-then-x-lt0 : goal.returns-then-x-lt0
returns-then-x-lt0 c =
    let a = c.args in
    let s = c.unsigned_abs.result in
    let is : s ≡ unsigned_abs a.x = omega (arith, ints, c.requires.size, c.requires.greatest, c.unsigned_abs.ensures.value) in
    let few : nearest s a.d ≤ 524288 = nearest_at_most s a.d 524288 (omega (arith, c.requires.least)) (omega (arith, is, c.requires.size)) in
    held_below (nearest s a.d) few ∙ below_zero a.x s a.d is (omega (arith, ints, c.requires.size, c.requires.greatest, c.if-x-lt0.true))

pub returns-else-x-lt0 : goal.returns-else-x-lt0
returns-else-x-lt0 c =
    let a = c.args in
    let s = c.unsigned_abs.result in
    let is : s ≡ unsigned_abs a.x = omega (arith, ints, c.requires.size, c.requires.greatest, c.unsigned_abs.ensures.value) in
    let few : nearest s a.d ≤ 524288 = nearest_at_most s a.d 524288 (omega (arith, c.requires.least)) (omega (arith, is, c.requires.size)) in
    held (nearest s a.d) few ∙ not_below a.x s a.d is (omega (arith, ints, c.requires.size, c.requires.greatest, c.if-x-lt0.false))
