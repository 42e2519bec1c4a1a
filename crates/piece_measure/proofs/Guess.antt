-- A rounded quotient by the leading places of its parts and a reciprocal.
use Rattle.std.proofs.Common.{◌≡◌, ◌⊎◌, inl, inr, ℕ, suc, ◌*◌, ◌+◌, ◌-◌, ◌/◌, ◌<◌, ◌≤◌, ◌^◌, arith, ap, sym, subst, ◌∙◌, refl}
use Rattle.std.proofs.Math.Nat.{mul-le-mul_left, mul-le-mul_right, le_of_mul-le-mul_left, le_of_mul-le-mul_right, pow-le-pow_right}
use Rattle.std.proofs.lemmas.Nat.{div_below, le-div, div-add-mod', mod_below, pow_pos, leading_top, pow-add, shr_below}
use Rattle.std.specs.Int.Count.{count_leading_zeros}
use Rattle.vec_exact.specs.Rounding.{nearest}
use Rattle.piece_measure.specs.Scale.{IsScale}

-- q times h is at most r * 2^28, by the reciprocal w of h
below_heads : (r h w q : ℕ) → w * h ≤ 2 ^ 63 → q * 2 ^ 35 ≤ r * w → q * h ≤ r * 268435456
below_heads r h w q a b =
    let s : (q * 2 ^ 35) * h ≤ (r * w) * h = mul-le-mul_right h b in
    let t : r * (w * h) ≤ r * 2 ^ 63 = mul-le-mul_left r a in
    le_of_mul-le-mul_left {k = 2 ^ 35} (omega (arith, s, t)) (omega arith)

-- and one and a quarter more than q times h is at least that
above_heads : (r h w q : ℕ) → r < 2 ^ 33 → 2 ^ 63 ≤ w * h + h → r * w ≤ q * 2 ^ 35 + 2 ^ 35 → r * 1073741824 ≤ (4 * q + 5) * h
above_heads r h w q l a b =
    let s : (r * w) * h ≤ (q * 2 ^ 35 + 2 ^ 35) * h = mul-le-mul_right h b in
    let t : r * 2 ^ 63 ≤ r * (w * h + h) = mul-le-mul_left r a in
    let u : r * h ≤ 2 ^ 33 * h = mul-le-mul_right h (omega (arith, l)) in
    le_of_mul-le-mul_left {k = 2 ^ 33} (omega (arith, s, t, u)) (omega arith)

-- what n and s are above k low places: r and h
pub record AreHeads (n s k r h : ℕ) : Type 0 where
  pub n_low : r * k ≤ n
  pub n_high : n < r * k + k
  pub s_low : h * k ≤ s
  pub s_high : s < h * k + k
  pub whole : (k ≡ 1) ⊎ (2 ^ 32 ≤ h)
  pub some : 0 < h

guess_low : (n s k r h q : ℕ) → AreHeads n s k r h → q * h ≤ r * 268435456 → q ≤ 268435456 → q * (2 * s) ≤ 2 * (n * 268435456) + s
guess_low n s k r h q a b g =
    elim a.whole [
      | inl e ↦
          let x : s ≡ h = omega (arith, subst (λ (i : ℕ). h * i ≤ s) e a.s_low, subst (λ (i : ℕ). s < h * i + i) e a.s_high) in
          let y : n ≡ r = omega (arith, subst (λ (i : ℕ). r * i ≤ n) e a.n_low, subst (λ (i : ℕ). n < r * i + i) e a.n_high) in
          let z : q * s ≤ n * 268435456 = subst (λ (i : ℕ). q * i ≤ n * 268435456) (sym x) (subst (λ (i : ℕ). q * h ≤ i * 268435456) (sym y) b) in
          omega (arith, z)
      | inr big ↦
          let t : q * s ≤ q * (h * k + k) = mul-le-mul_left q (omega (arith, a.s_high)) in
          let u : (q * h) * k ≤ (r * 268435456) * k = mul-le-mul_right k b in
          let v : q * k ≤ 268435456 * k = mul-le-mul_right k g in
          let w : 2 ^ 32 * k ≤ h * k = mul-le-mul_right k big in
          omega (arith, t, u, v, w, a.n_low, a.s_low)
    ]

guess_high : (n s k r h q : ℕ) → AreHeads n s k r h → r * 1073741824 ≤ (4 * q + 5) * h → 2 * (n * 268435456) + s < (q + 2) * (2 * s)
guess_high n s k r h q a b =
    elim a.whole [
      | inl e ↦
          let x : s ≡ h = omega (arith, subst (λ (i : ℕ). h * i ≤ s) e a.s_low, subst (λ (i : ℕ). s < h * i + i) e a.s_high) in
          let y : n ≡ r = omega (arith, subst (λ (i : ℕ). r * i ≤ n) e a.n_low, subst (λ (i : ℕ). n < r * i + i) e a.n_high) in
          let z : n * 1073741824 ≤ (4 * q + 5) * s = subst (λ (i : ℕ). n * 1073741824 ≤ (4 * q + 5) * i) (sym x) (subst (λ (i : ℕ). i * 1073741824 ≤ (4 * q + 5) * h) (sym y) b) in
          let p : 0 < s = omega (arith, a.some, x) in
          omega (arith, z, p)
      | inr big ↦
          let u : (r * 1073741824) * k ≤ ((4 * q + 5) * h) * k = mul-le-mul_right k b in
          let v : (4 * q + 5) * (h * k) ≤ (4 * q + 5) * s = mul-le-mul_left (4 * q + 5) a.s_low in
          let w : 2 ^ 32 * k ≤ h * k = mul-le-mul_right k big in
          omega (arith, u, v, w, a.n_high, a.s_low)
    ]

-- ---- the quotient that a guess is next to
-- where q is at most the rounded quotient, and it is below q + 2, one test decides
pub next_up : (n s q : ℕ) → 0 < s → 2 * (n * 268435456) + s < (q + 2) * (2 * s) → (2 * q + 1) * s ≤ n * 536870912 → q + 1 ≡ nearest (n * 268435456) s
next_up n s q p high test =
    let above : q + 1 ≤ nearest (n * 268435456) s = le-div (q + 1) (2 * (n * 268435456) + s) (2 * s) (omega arith) (omega (arith, test)) in
    let below : nearest (n * 268435456) s < q + 2 = div_below (2 * (n * 268435456) + s) (2 * s) (q + 2) (omega arith) high in
    omega (arith, above, below)

pub stays : (n s q : ℕ) → 0 < s → q * (2 * s) ≤ 2 * (n * 268435456) + s → n * 536870912 < (2 * q + 1) * s → q ≡ nearest (n * 268435456) s
stays n s q p low test =
    let above : q ≤ nearest (n * 268435456) s = le-div q (2 * (n * 268435456) + s) (2 * s) (omega arith) low in
    let below : nearest (n * 268435456) s < q + 1 = div_below (2 * (n * 268435456) + s) (2 * s) (q + 1) (omega arith) (omega (arith, test)) in
    omega (arith, above, below)

-- ---- from what the code computes
split_low : (n k : ℕ) → (n / k) * k ≤ n
split_low n k = omega (arith, div-add-mod' n k)

split_high : (n k : ℕ) → 0 < k → n < (n / k) * k + k
split_high n k p = omega (arith, div-add-mod' n k, mod_below n k p)

heads : (n s p w : ℕ) → IsScale s p w → AreHeads n s (2 ^ p) (n / 2 ^ p) (s / 2 ^ p)
heads n s p w c = record {
  n_low = split_low n (2 ^ p);
  n_high = split_high n (2 ^ p) (pow_pos p);
  s_low = split_low s (2 ^ p);
  s_high = split_high s (2 ^ p) (pow_pos p);
  whole = elim c.whole [ inl e ↦ inl (ap (λ (i : ℕ). 2 ^ i) e) | inr h ↦ inr h ];
  some = c.some;
}

-- what holds of the guess
pub record IsGuess (n s q : ℕ) : Type 0 where
  pub small : q ≤ 268435456
  pub low : q * (2 * s) ≤ 2 * (n * 268435456) + s
  pub high : 2 * (n * 268435456) + s < (q + 2) * (2 * s)

-- the product that the test takes
pub test_below : (n s q : ℕ) → IsGuess n s q → s < 2 ^ 75 → (2 * q + 1) * s < 2 ^ 128
test_below n s q g l = let m : (2 * q + 1) * s ≤ 2 ^ 30 * s = mul-le-mul_right s (omega (arith, g.small)) in omega (arith, m, l)

pub head_at_most : (n s k : ℕ) → 0 < k → n ≤ s → n / k ≤ s / k
head_at_most n s k p l =
    le-div (n / k) s k p (omega (arith, split_low n k, l))

pub guess : (n s p w q : ℕ) → IsScale s p w → n ≤ s → q ≡ ((n / 2 ^ p) * w) / 34359738368 → IsGuess n s q
guess n s p w q c l e =
    let r = n / 2 ^ p in
    let h = s / 2 ^ p in
    let a = heads n s p w c in
    let lr : r ≤ h = head_at_most n s (2 ^ p) (pow_pos p) l in
    let wl : w * h ≤ 2 ^ 63 = subst (λ (i : ℕ). i * h ≤ 2 ^ 63) (sym c.reciprocal) (split_low (2 ^ 63) h) in
    let wh : 2 ^ 63 ≤ w * h + h = subst (λ (i : ℕ). 2 ^ 63 ≤ i * h + h) (sym c.reciprocal) (omega (arith, split_high (2 ^ 63) h c.some)) in
    let ql : q * 2 ^ 35 ≤ r * w = subst (λ (i : ℕ). i * 2 ^ 35 ≤ r * w) (sym e) (split_low (r * w) (2 ^ 35)) in
    let qh : r * w ≤ q * 2 ^ 35 + 2 ^ 35 = subst (λ (i : ℕ). r * w ≤ i * 2 ^ 35 + 2 ^ 35) (sym e) (omega (arith, split_high (r * w) (2 ^ 35) (omega arith))) in
    let b : q * h ≤ r * 268435456 = below_heads r h w q wl ql in
    let small : q ≤ 268435456 = le_of_mul-le-mul_right {k = h} (let m : r * 268435456 ≤ h * 268435456 = mul-le-mul_right 268435456 lr in omega (arith, b, m)) c.some in
    record {
      small = small;
      low = guess_low n s (2 ^ p) r h q a b small;
      high = guess_high n s (2 ^ p) r h q a (above_heads r h w q (omega (arith, lr, c.head)) wh qh);
    }

-- ---- how many low places are left out
-- what is asked of p
pub record LeavesFew (s p : ℕ) : Type 0 where
  pub few : p ≤ 42
  pub head : s / 2 ^ p < 2 ^ 33
  pub whole : (p ≡ 0) ⊎ (2 ^ 32 ≤ s / 2 ^ p)
  pub some : 0 < s / 2 ^ p

leaves_none : (s j p : ℕ) → 0 < s → s < 2 ^ suc j → suc j ≤ 33 → p ≡ 0 → LeavesFew s p
leaves_none s j p l h few e =
    let b : s < 2 ^ 33 = omega (arith, h, pow-le-pow_right {n = 2} (omega arith) few) in
    let one : s / 2 ^ p ≡ s = ap (λ (i : ℕ). s / 2 ^ i) e ∙ omega arith in
    record { few = omega (arith, e); head = omega (arith, one, b); whole = inl e; some = omega (arith, one, l) }

leaves_some : (s j p : ℕ) → 2 ^ j ≤ s → s < 2 ^ suc j → j ≤ 74 → suc j ≡ 33 + p → LeavesFew s p
leaves_some s j p low high few e =
    let top : s < 2 ^ (33 + p) = subst (λ (i : ℕ). s < 2 ^ i) e high in
    let e' : j ≡ 32 + p = omega (arith, e) in
    let bottom : 2 ^ (32 + p) ≤ s = subst (λ (i : ℕ). 2 ^ i ≤ s) e' low in
    let h : 2 ^ 32 ≤ s / 2 ^ p = le-div (2 ^ 32) s (2 ^ p) (pow_pos p) (omega (arith, bottom, pow-add 2 32 p)) in
    record { few = omega (arith, e, few); head = shr_below s 33 p top; whole = inr h; some = omega (arith, h) }

at_most_74 : (j s : ℕ) → 2 ^ j ≤ s → s < 2 ^ 75 → j ≤ 74
at_most_74 j s low high =
    elim (below_or_not j) [
      | inl l ↦ l
      | inr g ↦ absurd (omega (arith, low, high, pow-le-pow_right {n = 2} (omega arith) g))
    ]
  where
    below_or_not : (j : ℕ) → (j ≤ 74) ⊎ (75 ≤ j)
    below_or_not j = grind arith

pub leaves_few : (s z p : ℕ) → 0 < s → s < 2 ^ 75 → z ≡ count_leading_zeros 128 s → p ≡ (128 - z) - 33 → LeavesFew s p
leaves_few s z p l h e f =
    let t = leading_top 128 s l (omega (arith, h)) in
    let j = t.0 in
    let c : z + suc j ≡ 128 = omega (arith, e, t.1) in
    elim (small_or_not j) [
      | inl few ↦ leaves_none s j p l t.3 few (omega (arith, f, c, few))
      | inr many ↦ leaves_some s j p t.2 t.3 (at_most_74 j s t.2 h) (omega (arith, f, c, many))
    ]
  where
    small_or_not : (j : ℕ) → (suc j ≤ 33) ⊎ (34 ≤ suc j)
    small_or_not j = grind arith

-- ---- the same without low places
pub whole_scale : (s w : ℕ) → 0 < s → s < 2 ^ 18 → w ≡ 2 ^ 63 / s → IsScale s 0 w
whole_scale s w p l e =
    let one : s / 2 ^ 0 ≡ s = omega arith in
    record {
      few = omega arith;
      head = omega (arith, one, l);
      whole = inl refl;
      some = omega (arith, one, p);
      reciprocal = e ∙ ap (λ (i : ℕ). 2 ^ 63 / i) (sym one);
    }

pub node_guess : (n s w q : ℕ) → 0 < s → s < 2 ^ 18 → w ≡ 2 ^ 63 / s → n ≤ s → q ≡ (n * w) / 34359738368 → IsGuess n s q
node_guess n s w q p l e h f =
    let one : n ≡ n / 2 ^ 0 = omega arith in
    guess n s 0 w q (whole_scale s w p l e) h (f ∙ ap (λ (i : ℕ). (i * w) / 34359738368) one)

-- the product of a node's component and the reciprocal
pub node_product : (n s w : ℕ) → 0 < s → w ≡ 2 ^ 63 / s → n ≤ s → n * w ≤ 2 ^ 63
node_product n s w p e h =
    let m : n * w ≤ s * w = mul-le-mul_right w h in
    let t : w * s ≤ 2 ^ 63 = subst (λ (i : ℕ). i * s ≤ 2 ^ 63) (sym e) (split_low (2 ^ 63) s) in
    omega (arith, m, t)

pub node_test_below : (n s q : ℕ) → IsGuess n s q → s < 2 ^ 18 → (2 * q + 1) * s < 2 ^ 64
node_test_below n s q g l = let m : (2 * q + 1) * s ≤ 2 ^ 30 * s = mul-le-mul_right s (omega (arith, g.small)) in omega (arith, m, l)
