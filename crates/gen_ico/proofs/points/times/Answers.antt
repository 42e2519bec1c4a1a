use Rattle.std.proofs.Common.{◌≡◌, ◌≤◌, ◌*◌, pos, ◌*ℤ◌, unsigned_abs, refl, arith, to_z, of_z, w32}
use Rattle.std.proofs.lemmas.Int.{ints}
use Rattle.vec_exact.proofs.Bounds.{product_at_most}
use Rattle.gen_ico.proofs.points.times.Goals as goal

pub returns-clause-size : goal.returns-clause-size
returns-clause-size c =
    let a = c.args in
    let x : to_z w32 (of_z w32 a.a) ≡ a.a = omega (arith, ints, c.requires.coordinate) in
    let y : to_z w32 a.k ≡ pos a.k = omega (arith, ints, c.requires.count) in
    let is : to_z w32 (of_z w32 a.a) *ℤ to_z w32 a.k ≡ a.a *ℤ pos a.k = rw (x, y) refl in
    let small : unsigned_abs (a.a *ℤ pos a.k) ≤ 131072 * a.k = product_at_most a.a (pos a.k) 131072 a.k c.requires.coordinate (omega (arith, ints)) in
    omega (arith, ints, is, small, c.requires.count)
