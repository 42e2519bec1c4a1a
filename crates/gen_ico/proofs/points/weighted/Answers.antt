use Rattle.std.proofs.Common.{◌≡◌, ◌≤◌, ◌∙◌, ◌-◌, ◌*◌, ◌+◌, ℕ, ℤ, pos, ◌+ℤ◌, ◌*ℤ◌, unsigned_abs, refl, sym, subst, ap, arith, to_z, of_z, w32}
use Rattle.std.proofs.lemmas.Int.{ints}
use Rattle.gen_ico.proofs.points.weighted.Goals as goal

-- the sum of three small numbers as 32 bits hold it
abbrev held : ℤ → ℤ → ℤ → ℤ
held x y z = to_z w32 (of_z w32 (to_z w32 (of_z w32 (to_z w32 (of_z w32 x) +ℤ to_z w32 (of_z w32 y))) +ℤ to_z w32 (of_z w32 z)))

held_is : (x y z : ℤ) (p q r n : ℕ) → p + q + r ≤ n → n ≤ 200 → unsigned_abs x ≤ 131072 * p → unsigned_abs y ≤ 131072 * q → unsigned_abs z ≤ 131072 * r → held x y z ≡ x +ℤ y +ℤ z
held_is x y z p q r n all few xs ys zs =
    let two : to_z w32 (of_z w32 (to_z w32 (of_z w32 x) +ℤ to_z w32 (of_z w32 y))) ≡ x +ℤ y = omega (arith, ints, all, few, xs, ys) in
    let third : to_z w32 (of_z w32 z) ≡ z = omega (arith, ints, all, few, zs) in
    let three : to_z w32 (of_z w32 (x +ℤ y +ℤ z)) ≡ x +ℤ y +ℤ z = omega (arith, ints, all, few, xs, ys, zs) in
    ap (λ (s : ℤ). to_z w32 (of_z w32 (s +ℤ to_z w32 (of_z w32 z)))) two ∙ ap (λ (s : ℤ). to_z w32 (of_z w32 (x +ℤ y +ℤ s))) third ∙ three

sum_small : (x y z : ℤ) (p q r n : ℕ) → p + q + r ≤ n → unsigned_abs x ≤ 131072 * p → unsigned_abs y ≤ 131072 * q → unsigned_abs z ≤ 131072 * r → unsigned_abs (x +ℤ y +ℤ z) ≤ 131072 * n
sum_small x y z p q r n all xs ys zs = omega (arith, ints, all, xs, ys, zs)

same_sum : (a b c x y z : ℤ) → a ≡ x → b ≡ y → c ≡ z → a +ℤ b +ℤ c ≡ x +ℤ y +ℤ z
same_sum a b c x y z e f g = rw (e, f, g) refl

pub overflow_add-result : goal.overflow_add-result
overflow_add-result c = omega (arith, ints, c.requires.place, c.requires.greatest, c.times.ensures.size, c.times-2.ensures.size)

pub overflow_add-result-2 : goal.overflow_add-result-2
overflow_add-result-2 c = omega (arith, ints, c.requires.place, c.requires.greatest, c.times.ensures.size, c.times-2.ensures.size, c.times-3.ensures.size)

pub returns-clause-value : goal.returns-clause-value
returns-clause-value c =
    let a = c.args in
    let h = c.requires in
    let same : (z : ℤ) → unsigned_abs z ≤ 131072 → to_z w32 (of_z w32 z) ≡ z = λ z small. omega (arith, ints, small) in
    let first : c.times.result ≡ a.a *ℤ pos (a.n - a.i - a.j) = c.times.ensures.value ∙ ap (λ (z : ℤ). z *ℤ pos (a.n - a.i - a.j)) (same a.a h.a_size) in
    let second : c.times-2.result ≡ a.b *ℤ pos a.i = c.times-2.ensures.value ∙ ap (λ (z : ℤ). z *ℤ pos a.i) (same a.b h.b_size) in
    let third : c.times-3.result ≡ a.c *ℤ pos a.j = c.times-3.ensures.value ∙ ap (λ (z : ℤ). z *ℤ pos a.j) (same a.c h.c_size) in
    held_is c.times.result c.times-2.result c.times-3.result (a.n - a.i - a.j) a.i a.j a.n (omega (arith, h.place)) h.greatest c.times.ensures.size c.times-2.ensures.size c.times-3.ensures.size
    ∙ same_sum c.times.result c.times-2.result c.times-3.result (a.a *ℤ pos (a.n - a.i - a.j)) (a.b *ℤ pos a.i) (a.c *ℤ pos a.j) first second third

pub returns-clause-size : goal.returns-clause-size
returns-clause-size c =
    let a = c.args in
    let h = c.requires in
    let is : held c.times.result c.times-2.result c.times-3.result ≡ c.times.result +ℤ c.times-2.result +ℤ c.times-3.result =
    held_is c.times.result c.times-2.result c.times-3.result (a.n - a.i - a.j) a.i a.j a.n (omega (arith, h.place)) h.greatest c.times.ensures.size c.times-2.ensures.size c.times-3.ensures.size in
    subst (λ (s : ℤ). unsigned_abs s ≤ 131072 * a.n) (sym is)
    (sum_small c.times.result c.times-2.result c.times-3.result (a.n - a.i - a.j) a.i a.j a.n (omega (arith, h.place)) c.times.ensures.size c.times-2.ensures.size c.times-3.ensures.size)
