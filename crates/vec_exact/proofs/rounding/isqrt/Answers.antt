use Rattle.std.proofs.Common.{◌≡◌, ◌≤◌, ◌<◌, ◌+◌, ◌*◌, ◌^◌, ℕ, ℤ, pos, negsuc, ◌≤ℤ◌, unsigned_abs, to_z, of_z, ap, sym, ◌∙◌, subst, arith}
use Rattle.std.specs.Int.{w128}
use Rattle.std.proofs.lemmas.Int.{to_z_pos, ints}
use Rattle.vec_exact.specs.Root.{root_of}
use Rattle.vec_exact.proofs.Roots.{root_unique}
use Rattle.vec_exact.proofs.rounding.isqrt.Goals as goal

-- a small number that isn't negative is itself again after it was written as bits
same : (z : ℤ) → pos 0 ≤ℤ z → unsigned_abs z < 2 ^ 127 → to_z w128 (of_z w128 z) ≡ z
same (pos n) low high = to_z_pos w128 n high
same (negsuc n) low high = absurd (omega (arith, ints, low))

-- the value is the one root
is_root : (z r w : ℤ) (k : ℕ) → w ≡ z → r ≡ pos k → k * k ≤ unsigned_abs w → unsigned_abs w < (k + 1) * (k + 1) → r ≡ pos (root_of (unsigned_abs z))
is_root z r w k same root square next =
    root ∙ ap pos (root_unique (unsigned_abs w) k square next) ∙ ap (λ (x : ℤ). pos (root_of (unsigned_abs x))) same

root_at_most : (k n : ℕ) → k * k ≤ n → k ≤ n
root_at_most k n h = grind arith

again : (z r w : ℤ) (k : ℕ) → w ≡ z → unsigned_abs z < 2 ^ 124 → r ≡ pos k → k * k ≤ unsigned_abs w → to_z w128 (of_z w128 r) ≡ r
again z r w k e high root square =
    let small : unsigned_abs w < 2 ^ 124 = subst (λ (x : ℤ). unsigned_abs x < 2 ^ 124) (sym e) high in
    subst (λ (x : ℤ). to_z w128 (of_z w128 x) ≡ x) (sym root) (to_z_pos w128 k (omega (arith, root_at_most k (unsigned_abs w) square, small)))

pub returns-clause-value : goal.returns-clause-value
returns-clause-value c =
    let read = same c.args.x c.requires.low (omega (arith, c.requires.high)) in
    let e = c.isqrt.ensures in
    let w = to_z w128 (of_z w128 c.args.x) in
    again c.args.x c.isqrt.result w e.0 read c.requires.high e.1 e.2 ∙ is_root c.args.x c.isqrt.result w e.0 read e.1 e.2 e.3
