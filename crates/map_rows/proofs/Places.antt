-- Fields that are written place by place, in any order.
use Rattle.std.proofs.Common.{◌≡◌, ℕ, ◌+◌, ◌*◌, ◌/◌, ◌%◌, ◌<◌, ◌≤◌, ◌⊎◌, inl, inr, ℤ, pos, List, length, get_or, set, ap, ap₂, sym, ◌∙◌, refl, arith}
use Rattle.std.proofs.lemmas.List.{ext_get_or, get_or-set_same, get_or-set_other, length-set}
use Rattle.std.proofs.lemmas.Nat.{div-mul-add, div-add-mod', div_below}
use Rattle.std.proofs.lemmas.Bool.{cases_lt}
use Rattle.vec_exact.proofs.Cycles.{same_or_not}
use Rattle.map_rows.specs.Places.{IsGoalAt, IsPut}

same_slice : (n s k t l : ℕ) → k < n → l < n → s * n + k ≡ t * n + l → s ≡ t
same_slice n s k t l p q e = sym (div-mul-add s n k p) ∙ ap (λ (x : ℕ). x / n) e ∙ div-mul-add t n l q

same_target : (n s k t l : ℕ) → s ≡ t → s * n + k ≡ t * n + l → k ≡ l
same_target n s k t l e place = omega (arith, place, ap (λ (x : ℕ). x * n) e)

-- what stands as it should goes on to do so
stays : (n : ℕ) (goal : ℕ → ℕ → ℤ) (from to first last s k : ℕ) (old new : List ℤ) → IsPut n goal from to first last old new → k < n → get_or old (s * n + k) (pos 0) ≡ goal s k → get_or new (s * n + k) (pos 0) ≡ goal s k
stays n goal from to first last s k old new h l e =
    elim (h.kept (s * n + k)) [
      | inl same ↦ same ∙ e
      | inr g ↦
          let slice = same_slice n s k g.slice g.target l g.within g.is in
          g.value ∙ ap₂ goal (sym slice) (sym (same_target n s k g.slice g.target slice g.is))
    ]

then_kept : (n : ℕ) (goal : ℕ → ℕ → ℤ) (from to first last from' to' first' last' : ℕ) (a b c : List ℤ) → IsPut n goal from to first last a b → IsPut n goal from' to' first' last' b c → (p : ℕ)
    → (get_or c p (pos 0) ≡ get_or a p (pos 0)) ⊎ (IsGoalAt n goal c p)
then_kept n goal from to first last from' to' first' last' a b c g h p =
    elim (h.kept p) [
      | inr done ↦ inr done
      | inl same ↦
          elim (g.kept p) [
            | inl before ↦ inl (same ∙ before)
            | inr done ↦ inr (record { slice = done.slice; target = done.target; within = done.within; is = done.is; value = same ∙ done.value })
          ]
    ]

-- nothing is put in no slices, and at no targets
pub no_slices : (n : ℕ) (goal : ℕ → ℕ → ℤ) (from first last : ℕ) (xs : List ℤ) → IsPut n goal from from first last xs xs
no_slices n goal from first last xs = record { size = refl; kept = λ p. inl refl; done = λ s k a b c d. absurd (omega (arith, a, b)) }

pub no_targets : (n : ℕ) (goal : ℕ → ℕ → ℤ) (from to first : ℕ) (xs : List ℤ) → IsPut n goal from to first first xs xs
no_targets n goal from to first xs = record { size = refl; kept = λ p. inl refl; done = λ s k a b c d. absurd (omega (arith, c, d)) }

-- one slice more at one target
pub one_put : (n : ℕ) (goal : ℕ → ℕ → ℤ) (s k : ℕ) (xs new : List ℤ) (x : ℤ) → k < n → s * n + k < length xs → new ≡ set xs (s * n + k) x → x ≡ goal s k → IsPut n goal s (s + 1) k (k + 1) xs new
one_put n goal s k xs new x l within e is =
    let here : get_or new (s * n + k) (pos 0) ≡ goal s k = ap (λ (ys : List ℤ). get_or ys (s * n + k) (pos 0)) e ∙ get_or-set_same xs (s * n + k) x (pos 0) within ∙ is in
    record {
      size = ap (length {A = ℤ}) e ∙ length-set xs (s * n + k) x;
      kept = λ p.
          elim (same_or_not p (s * n + k)) [
            | inl same ↦ inr (record { slice = s; target = k; within = l; is = same; value = ap (λ (q : ℕ). get_or new q (pos 0)) same ∙ here })
            | inr other ↦ inl (ap (λ (ys : List ℤ). get_or ys p (pos 0)) e ∙ get_or-set_other xs (s * n + k) p x (pos 0) other)
          ];
      done = λ t m a b c d.
          let slice : t ≡ s = omega (arith, a, b) in
          let target : m ≡ k = omega (arith, c, d) in
          ap₂ (λ (i j : ℕ). get_or new (i * n + j) (pos 0)) slice target ∙ here ∙ ap₂ goal (sym slice) (sym target);
    }

pub more_slices : (n : ℕ) (goal : ℕ → ℕ → ℤ) (from middle to first last : ℕ) (a b c : List ℤ) → last ≤ n → IsPut n goal from middle first last a b → IsPut n goal middle to first last b c → IsPut n goal from to first last a c
more_slices n goal from middle to first last a b c l g h = record {
  size = h.size ∙ g.size;
  kept = then_kept n goal from middle first last middle to first last a b c g h;
  done = λ s k p q r t.
      elim (cases_lt s middle) [
        | inl below ↦ stays n goal middle to first last s k b c h (omega (arith, t, l)) (g.done s k p below r t)
        | inr above ↦ h.done s k above q r t
      ];
}

pub more_targets : (n : ℕ) (goal : ℕ → ℕ → ℤ) (from to first middle last : ℕ) (a b c : List ℤ) → last ≤ n → IsPut n goal from to first middle a b → IsPut n goal from to middle last b c → IsPut n goal from to first last a c
more_targets n goal from to first middle last a b c l g h = record {
  size = h.size ∙ g.size;
  kept = then_kept n goal from to first middle from to middle last a b c g h;
  done = λ s k p q r t.
      elim (cases_lt k middle) [
        | inl below ↦ stays n goal from to middle last s k b c h (omega (arith, t, l)) (g.done s k p q r below)
        | inr above ↦ h.done s k p q above t
      ];
}

-- all slices at all targets
pub all_put : (n : ℕ) (goal : ℕ → ℕ → ℤ) (slices : ℕ) (old new whole : List ℤ) → 1 ≤ n → length old ≡ slices * n → length whole ≡ slices * n
    → ((s k : ℕ) → s < slices → k < n → get_or whole (s * n + k) (pos 0) ≡ goal s k) → IsPut n goal 0 slices 0 n old new → new ≡ whole
all_put n goal slices old new whole some size all are h =
    ext_get_or (pos 0) new whole (h.size ∙ size ∙ sym all)
    (λ p l.
    let s = p / n in
    let k = p % n in
    let place : s * n + k ≡ p = div-add-mod' p n in
    let last : k < n = omega (arith, some) in
    let below : p < slices * n = omega (arith, l, h.size, size) in
    let slice : s < slices = div_below p n slices some (omega (arith, below)) in
    ap (λ (q : ℕ). get_or new q (pos 0)) (sym place) ∙ h.done s k (omega arith) slice (omega arith) last ∙ sym (are s k slice last) ∙ ap (λ (q : ℕ). get_or whole q (pos 0)) place)
