-- Going through a list of faces, and keeping those that may meet a cell.
use Rattle.std.proofs.Common.{◌≡◌, ◌≢◌, ℕ, ◌+◌, ◌<◌, ◌≤◌, ◌⊎◌, inl, inr, Bool, true, false, List, [], ◌∷◌, ◌++◌, length, length-append, refl, sym, ap, ◌∙◌, subst, arith, slice_index}
use Rattle.std.specs.Prelude.{All, if◌then◌else◌}
use Rattle.std.specs.List.{Contains}
use Rattle.std.proofs.lemmas.List.Elements.{All-push, Contains-append_left, Contains-push}
use Rattle.vec_exact.proofs.Cycles.{same_or_not}

-- of the first t faces, but the one at place `skip`, each is kept, or it is away
pub record IsKept (S A : ℕ → Type 0) (faces : List ℕ) (skip t : ℕ) (near : List ℕ) : Type 0 where
  pub sources : All S near
  pub away : (u : ℕ) → u < t → u ≢ skip → Contains near (slice_index faces u) ⊎ A (slice_index faces u)
  pub few : length near ≤ t
  pub fewer : skip < t → length near < t

module _ (S A : ℕ → Type 0) (faces : List ℕ) (skip t : ℕ) (near : List ℕ) (k : IsKept S A faces skip t near) where
  with_one : (x : ℕ) → S x → x ≡ slice_index faces t → t ≢ skip → IsKept S A faces skip (t + 1) (near ++ x ∷ [])
  with_one x s e other = record {
    sources = All-push S near x k.sources s;
    away = λ u l ne. elim (same_or_not u t) [
      | inl same ↦ inl (subst (Contains (near ++ x ∷ [])) (e ∙ ap (slice_index faces) (sym same)) (Contains-push near x))
      | inr before ↦ elim (k.away u (omega arith) ne) [
        | inl c ↦ inl (Contains-append_left near (x ∷ []) (slice_index faces u) c)
        | inr a ↦ inr a
      ]
    ];
    few = omega (arith, length-append near (x ∷ []), k.few);
    fewer = λ l. omega (arith, length-append near (x ∷ []), k.fewer (omega (arith, l, other)));
  }

  without : (x : ℕ) → x ≡ slice_index faces t → (t ≢ skip → A x) → IsKept S A faces skip (t + 1) near
  without x e away = record {
    sources = k.sources;
    away = λ u l ne. elim (same_or_not u t) [
      | inl same ↦ inr (subst A (e ∙ ap (slice_index faces) (sym same)) (away (λ z. ne (same ∙ z))))
      | inr before ↦ k.away u (omega arith) ne
    ];
    few = omega (arith, k.few);
    fewer = λ l. omega (arith, k.few);
  }

  pub next_kept : (x : ℕ) (wanted : Bool) (next : List ℕ) → S x → x ≡ slice_index faces t → (t ≡ skip → wanted ≡ false) → (wanted ≡ false → t ≢ skip → A x)
      → next ≡ (if wanted then near ++ x ∷ [] else near) → IsKept S A faces skip (t + 1) next
  next_kept x true next s e skipped away is = subst (IsKept S A faces skip (t + 1)) (sym is) (with_one x s e (λ z. cc (skipped z)))
  next_kept x false next s e skipped away is = subst (IsKept S A faces skip (t + 1)) (sym is) (without x e (away refl))
