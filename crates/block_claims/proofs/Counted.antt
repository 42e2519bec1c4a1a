-- The rule as one equation on counts, the form that the proofs of the steps use, and that the two say the same.
use Rattle.std.proofs.Common.{◌≡◌, ℕ, ◌+◌, ◌<◌, ◌≤◌, List, length, Bool, true, false, ◌&&◌, nat_lt, Contains, sum_by, count_by, Some, refl, sym, ap, ◌∙◌, true≢false, arith}
use native.Mathlib.Decide.{ℕ_discrete, dec_le}
use Rattle.std.proofs.lemmas.Bool.Decides.{nat_tests}
use Rattle.block_claims.specs.declared.rule.Kind.{Kind}
use Rattle.block_claims.specs.declared.rule.Kind.TheVariants.{First, Further, Spent}
use Rattle.block_claims.specs.declared.rule.View.{View}
use Rattle.block_claims.specs.Views.{is_first, is_spent, is_done_or_spent, times}
use Rattle.block_claims.specs.Claimed.{HoldsByKind, IsViewOf, IsDrawnOnce, IsClaimed}
use Rattle.block_claims.proofs.Sums.{one_if, part_le, all_zero, some_part, two_parts, sum_only, stands, found}

-- 1 where x is below both
abbrev pub once_below : ℕ → ℕ → ℕ → ℕ
once_below x n w = one_if (nat_lt x n && nat_lt x w)

pub record IsCounted (n w : ℕ) (views : List View) : Type 0 where
  pub kinds : (i : ℕ) (v : View) → IsViewOf views i v → HoldsByKind n v.kind v
  pub one_first : count_by (λ v. is_first v.kind) views ≡ 1
  pub few : length views ≤ 64
  pub first : (i : ℕ) (v : View) → IsViewOf views i v → is_first v.kind ≡ true → (v.made ≡ length views) × (v.back ≡ count_by (λ u. is_spent u.kind) views)
  -- all lists together have each number below both n and w once, and no other
  pub each_once : (x : ℕ) → sum_by (λ v. times x v.mine) views ≡ once_below x n w
  pub done : (i : ℕ) (v : View) → IsViewOf views i v → (last : ℕ) → v.last ≡ Some last → (n ≤ last) × (last < w)
  pub word : w ≤ n + count_by is_done_or_spent views

pub first_is : (k : Kind) → is_first k ≡ true → k ≡ First
first_is First e = refl
first_is Further e = absurd (true≢false (sym e))
first_is Spent e = absurd (true≢false (sym e))

both_below : (x n w : ℕ) → 1 ≤ once_below x n w → (x < n) × (x < w)
both_below x n w h = (grind (arith, nat_tests), grind (arith, nat_tests))

once_le : (x n w : ℕ) → once_below x n w ≤ 1
once_le x n w = grind (arith, nat_tests)

is_once : (x n w : ℕ) → x < n → x < w → once_below x n w ≡ 1
is_once x n w a b = grind (arith, nat_tests)

is_never : (x n w : ℕ) → ((x < n) × (x < w) → ⊥) → once_below x n w ≡ 0
is_never x n w h = by_test (nat_lt x n) (nat_lt x w) refl refl
  where
    by_test : (a b : Bool) → nat_lt x n ≡ a → nat_lt x w ≡ b → one_if (a && b) ≡ 0
    by_test true true p q = absurd (h (grind (arith, nat_tests), grind (arith, nat_tests)))
    by_test true false p q = refl
    by_test false b p q = refl

module _ (n w : ℕ) (views : List View) where
  -- in words, from the equation
  module _ (kept : IsCounted n w views) where
    drawn_once : (i : ℕ) (v : View) → IsViewOf views i v → (x : ℕ) → Contains v.mine x → IsDrawnOnce n w views i v.mine x
    drawn_once i v at x there =
        let f : View → ℕ = λ y. times x y.mine in
        let k = kept.each_once x in
        let o = once_le x n w in
        let p = part_le f views i v at in
        let s = stands x v.mine there in
        let b = both_below x n w (omega arith) in record {
          block = b.0;
          passed = b.1;
          once = omega arith;
          by_no_other = λ j u bj other. same j u bj other (ℕ_discrete j i);
        }
      where
        same : (j : ℕ) (u : View) → IsViewOf views j u → Contains u.mine x → Dec (j ≡ i) → j ≡ i
        same j u bj other (yes e) = e
        same j u bj other (no apart) =
            let k = kept.each_once x in
            let o = once_le x n w in
            let s = stands x v.mine there in
            let t = stands x u.mine other in
            let h = two_parts (λ y. times x y.mine) refl views i j v u at bj apart in absurd (omega arith)

    left_out : (x : ℕ) → x < n → x < w → (i : ℕ) × (v : View) × IsViewOf views i v × Contains v.mine x
    left_out x a b =
        let k = kept.each_once x in
        let o = is_once x n w a b in
        let s = some_part (λ (y : View). times x y.mine) views (omega arith) in (s.0, s.1, s.2, found x s.1.mine s.3)

    pub claimed : IsClaimed n w views
    claimed = record {
      kinds = kept.kinds;
      one_first = kept.one_first;
      first = λ i v at f. (let h = kept.first i v at (ap is_first f) in let k = kept.few in (h.0, omega arith, h.1));
      drawn = drawn_once;
      none_left_out = left_out;
      done = kept.done;
      word = kept.word;
    }

  -- the equation, from the words
  module _ (rule : IsClaimed n w views) where
    abbrev Listed : ℕ → Type 0
    Listed x = sum_by (λ v. times x v.mine) views ≡ once_below x n w

    -- a number in no list
    absent : (x : ℕ) (v : View) → (Contains v.mine x → ⊥) → times x v.mine ≡ 0
    absent x v none = pick (dec_le 1 (times x v.mine))
      where
        pick : Dec (1 ≤ times x v.mine) → times x v.mine ≡ 0
        pick (yes s) = absurd (none (found x v.mine s))
        pick (no s) = omega arith

    counted_once : (x : ℕ) → Dec ((x < n) × (x < w)) → Listed x
    counted_once x (yes b) =
        let at = rule.none_left_out x b.0 b.1 in
        let one = rule.drawn at.0 at.1 at.2 x at.3 in
        let o = is_once x n w b.0 b.1 in
        let s = sum_only (λ y. times x y.mine) refl views at.0 at.1 at.2 (λ j u bj apart. absent x u (λ c. apart (one.by_no_other j u bj c))) in
        s ∙ (one.once ∙ sym o)
    counted_once x (no b) =
        let o = is_never x n w b in
        all_zero (λ y. times x y.mine) views (λ j u bj. absent x u (λ c. let one = rule.drawn j u bj x c in b (one.block, one.passed))) ∙ sym o

    both_or_not : (x : ℕ) → Dec (x + 1 ≤ n) → Dec (x + 1 ≤ w) → Dec ((x < n) × (x < w))
    both_or_not x (yes a) (yes b) = yes (omega arith, omega arith)
    both_or_not x (yes a) (no b) = no (λ t. b (omega (arith, t.1)))
    both_or_not x (no a) b = no (λ t. a (omega (arith, t.0)))

    pub counted : IsCounted n w views
    counted =
        let one = some_part (λ (v : View). one_if (is_first v.kind)) views (let k = rule.one_first in omega arith) in
        let few = rule.first one.0 one.1 one.2 (first_of one.1.kind one.3) in record {
          kinds = rule.kinds;
          one_first = rule.one_first;
          few = omega arith;
          first = λ i v at f. (let h = rule.first i v at (first_is v.kind f) in (h.0, h.2));
          each_once = λ x. counted_once x (both_or_not x (dec_le (x + 1) n) (dec_le (x + 1) w));
          done = rule.done;
          word = rule.word;
        }
      where
        first_of : (k : Kind) → 1 ≤ one_if (is_first k) → k ≡ First
        first_of First h = refl
        first_of Further h = absurd (omega arith)
        first_of Spent h = absurd (omega arith)
