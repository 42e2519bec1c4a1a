-- Strictly ascending lists.
use Rattle.std.proofs.Common.{◌≡◌, ℕ, zero, suc, ◌-◌, ◌<◌, ◌≤◌, ◌⊎◌, inl, inr, List, [], ◌∷◌, ◌++◌, length, slice_index_or, refl, ap, sym, ◌∙◌, subst, arith, length-append}
use Rattle.std.specs.List.{All, AllPairs, Contains}
use Rattle.std.proofs.lemmas.List.{get_or_append_left, get_or-append_right}

low_or_high : (j n : ℕ) → (j < n) ⊎ (n ≤ j)
low_or_high j n = grind arith

module _ {X : Type 0} (R : X → X → Type 0) where
  -- each member of a list comes before each of the next one
  pub pairs_append : (ps qs : List X) → AllPairs R ps → AllPairs R qs → All (λ p. All (R p) qs) ps → AllPairs R (ps ++ qs)
  pairs_append ps qs a b c i j d l r =
      elim (low_or_high j (length ps)) [
        | inl lj ↦
            subst (λ (p : X). R p (slice_index_or (ps ++ qs) j d)) (sym (get_or_append_left ps qs d i (omega (arith, lj))))
            (subst (R (slice_index_or ps i d)) (sym (get_or_append_left ps qs d j lj)) (a i j d l lj))
        | inr hj ↦
            subst (R (slice_index_or (ps ++ qs) i d)) (sym (get_or-append_right ps qs (length ps) j d (λ _. length ps) hj))
            (elim (low_or_high i (length ps)) [
              | inl li ↦ subst (λ (p : X). R p (slice_index_or qs (j - length ps) d)) (sym (get_or_append_left ps qs d i li))
                  (c i d li (j - length ps) d (omega (arith, hj, r, length-append ps qs)))
              | inr hi ↦ subst (λ (p : X). R p (slice_index_or qs (j - length ps) d)) (sym (get_or-append_right ps qs (length ps) i d (λ _. length ps) hi))
                  (b (i - length ps) (j - length ps) d (omega (arith, hi, hj, l)) (omega (arith, hj, r, length-append ps qs)))
            ])
      ]

  pub pairs_tail : (x : X) (xs : List X) → AllPairs R (x ∷ xs) → AllPairs R xs
  pairs_tail x xs a i j d l r = a (suc i) (suc j) d (omega arith) (omega arith)

  pub pairs_head : (x : X) (xs : List X) → AllPairs R (x ∷ xs) → All (R x) xs
  pairs_head x xs a k d l = a 0 (suc k) d (omega arith) (omega arith)

module _ {X : Type 0} where
  pub member_here : (x : X) (xs : List X) → Contains (x ∷ xs) x
  member_here x xs = (0, omega arith, refl)

  pub member_there : (x y : X) (xs : List X) → Contains xs y → Contains (x ∷ xs) y
  member_there x y xs c = (suc c.0, omega (arith, c.1), c.2)

  pub member_cases : (x y : X) (xs : List X) → Contains (x ∷ xs) y → (x ≡ y) ⊎ Contains xs y
  member_cases x y xs (zero, l, e) = inl e
  member_cases x y xs (suc k, l, e) = inr (k, omega arith, e)

module _ {X : Type 0} (R : X → X → Type 0) (one_way : (x y : X) → R x y → R y x → ⊥) where
  rest : (x : X) (xs ys : List X) → AllPairs R (x ∷ xs) → ((z : X) → Contains (x ∷ xs) z → Contains (x ∷ ys) z) → (z : X) → Contains xs z → Contains ys z
  rest x xs ys a h z c =
      elim (member_cases x z ys (h z (member_there x z xs c))) [
        | inl e ↦
            let after : R x (slice_index_or xs c.0 z) = pairs_head R x xs a c.0 z c.1 in
            let self : R x x = subst (R x) (c.2 ∙ sym e) after in
            absurd (one_way x x self self)
        | inr m ↦ m
      ]

  -- two strictly ascending lists with the same members are one
  pub same_members : (xs ys : List X) → AllPairs R xs → AllPairs R ys → ((z : X) → Contains xs z → Contains ys z) → ((z : X) → Contains ys z → Contains xs z) → xs ≡ ys
  same_members [] [] a b f g = refl
  same_members [] (y ∷ ys) a b f g = absurd (omega (arith, (g y (member_here y ys)).1))
  same_members (x ∷ xs) [] a b f g = absurd (omega (arith, (f x (member_here x xs)).1))
  same_members (x ∷ xs) (y ∷ ys) a b f g =
      let first : x ≡ y = heads (member_cases y x ys (f x (member_here x xs))) (member_cases x y xs (g y (member_here y ys))) in
      let b' : AllPairs R (x ∷ ys) = subst (λ (h : X). AllPairs R (h ∷ ys)) (sym first) b in
      let f' : (z : X) → Contains (x ∷ xs) z → Contains (x ∷ ys) z = subst (λ (h : X). (z : X) → Contains (x ∷ xs) z → Contains (h ∷ ys) z) (sym first) f in
      let g' : (z : X) → Contains (x ∷ ys) z → Contains (x ∷ xs) z = subst (λ (h : X). (z : X) → Contains (h ∷ ys) z → Contains (x ∷ xs) z) (sym first) g in
      let same = same_members xs ys (pairs_tail R x xs a) (pairs_tail R x ys b') (rest x xs ys a f') (rest x ys xs b' g') in
      ap (λ (l : List X). x ∷ l) same ∙ ap (λ (h : X). h ∷ ys) first
    where
      heads : (y ≡ x) ⊎ Contains ys x → (x ≡ y) ⊎ Contains xs y → x ≡ y
      heads (inl e) q = sym e
      heads (inr m) (inl e) = e
      heads (inr m) (inr n) =
          absurd (one_way x y (subst (R x) n.2 (pairs_head R x xs a n.0 y n.1)) (subst (R y) m.2 (pairs_head R y ys b m.0 x m.1)))
