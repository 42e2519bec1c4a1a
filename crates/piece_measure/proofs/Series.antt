-- How large the terms of the measure of a triangle are.
use Rattle.std.proofs.Common.{ℕ, ◌+◌, ◌*◌, ◌/◌, ◌<◌, ◌≤◌, arith}
use Rattle.std.proofs.lemmas.Nat.{le-div, mul-le}
use Rattle.piece_measure.specs.Triangle.{unit, third, fifth}
use Rattle.vec_exact.proofs.Roots.{at_most_root}

-- a halved tangent is at most half of the tangent
pub halved_at_most : (t r : ℕ) → unit * unit + t * t < (r + 1) * (r + 1) → 2 * (t * unit / (unit + r)) ≤ t
halved_at_most t r q =
    let room : unit ≤ r = at_most_root (unit * unit + t * t) r unit q (omega arith) in
    let q = t * unit / (unit + r) in
    let h : q * (unit + r) ≤ t * unit = omega arith in
    let g : q * (2 * unit) ≤ q * (unit + r) = mul-le q (2 * unit) q (unit + r) (omega arith) (omega arith) in
    omega (arith, h, g)

-- where s is at most 1, the second term of the series is at most the first
pub third_at_most : (s : ℕ) → s ≤ unit → third s ≤ s
third_at_most s h =
    let square : s * s ≤ unit * unit = mul-le s s unit unit h h in
    let cube : s * s * s ≤ unit * unit * s = mul-le (s * s) s (unit * unit) s square (omega arith) in
    omega (arith, cube)

-- and the third at most the second
pub fifth_at_most : (s : ℕ) → s ≤ unit → fifth s ≤ third s
fifth_at_most s h =
    let square = s * s / unit in
    let fourth = square * square / unit in
    let below : square ≤ unit = omega (arith, mul-le s s unit unit h h) in
    let fourth_small : fourth ≤ square = omega (arith, mul-le square square unit square below (omega arith)) in
    let product : fourth * s ≤ square * s = mul-le fourth s square s fourth_small (omega arith) in
    let cube : square * s * unit ≤ s * s * s = omega (arith, mul-le (square * unit) s (s * s) s (omega arith) (omega arith)) in
    le-div (fifth s) (s * s * s) (3 * (unit * unit)) (omega arith) (omega (arith, product, cube))
