-- What holds of rows whose faces are good, and when they are.
use Rattle.std.proofs.Common.{◌≡◌, ◌<◌, ◌≤◌, ◌-◌, ◌⊎◌, inl, inr, ◌==◌, ℕ, suc, ℤ, pos, negsuc, Bool, true, false, ◌&&◌, ◌||◌, int_lt, List, refl, ap, arith, unsigned_abs}
use Rattle.std.specs.Ordering.{int_eq}
use Rattle.std.proofs.lemmas.Int.{ints}
use Rattle.std.proofs.lemmas.Bool.Decides.{nat_tests, Decides-int_eq}
use Rattle.exodus_mesh.specs.Pairs.{is_within, at_row, exceeds, has_good_faces}

pub both_true : (a b : Bool) → (a && b) ≡ true → (a ≡ true) × (b ≡ true)
both_true true true h = (refl, refl)
both_true true false h = absurd cc
both_true false b h = absurd cc

either_true : (a b : Bool) → (a || b) ≡ true → (a ≡ true) ⊎ (b ≡ true)
either_true true b h = inl refl
either_true false b h = inr h

pub within : (low high : ℕ) (z : ℤ) → is_within low high z ≡ true → (low ≤ unsigned_abs z) × (unsigned_abs z ≤ high) × (z ≡ pos (unsigned_abs z))
within low high (pos n) h = (grind (arith, ints, h), grind (arith, ints, h), refl)
within low high (negsuc n) h = absurd (grind (arith, ints, h))

less_than : (a c : ℤ) → a ≡ pos (unsigned_abs a) → c ≡ pos (unsigned_abs c) → int_lt a c ≡ true → unsigned_abs a < unsigned_abs c
less_than (pos m) (pos n) ea ec h = grind (arith, ints, h)
less_than (pos m) (negsuc n) ea ec h = absurd cc
less_than (negsuc m) c ea ec h = absurd cc

pub before_by : (a b c d : ℤ) → a ≡ pos (unsigned_abs a) → b ≡ pos (unsigned_abs b) → c ≡ pos (unsigned_abs c) → d ≡ pos (unsigned_abs d) → exceeds a b c d ≡ true
    → (unsigned_abs a < unsigned_abs c) ⊎ ((unsigned_abs a ≡ unsigned_abs c) × (unsigned_abs b < unsigned_abs d))
before_by a b c d ea eb ec ed h =
    elim (either_true (int_lt a c) (int_eq a c && int_lt b d) h) [
      | inl less ↦ inl (less_than a c ea ec less)
      | inr same ↦
          let both = both_true (int_eq a c) (int_lt b d) same in
          inr (ap unsigned_abs ((Decides-int_eq a c).0 both.0), less_than b d eb ed both.1)
    ]

-- the faces of a row at no fault
pub record IsGoodPair (faces_a faces_b : ℕ) (source target : List ℤ) (r : ℕ) : Type 0 where
  pub least_source : 1 ≤ unsigned_abs (at_row source r)
  pub greatest_source : unsigned_abs (at_row source r) ≤ faces_a
  pub source_is : at_row source r ≡ pos (unsigned_abs (at_row source r))
  pub least_target : 1 ≤ unsigned_abs (at_row target r)
  pub greatest_target : unsigned_abs (at_row target r) ≤ faces_b
  pub target_is : at_row target r ≡ pos (unsigned_abs (at_row target r))
  pub order : ((r == 0) ≡ true) ⊎ (exceeds (at_row source (r - 1)) (at_row target (r - 1)) (at_row source r) (at_row target r) ≡ true)

pub good_pair : (faces_a faces_b : ℕ) (source target : List ℤ) (r : ℕ) → has_good_faces faces_a faces_b source target r ≡ true → IsGoodPair faces_a faces_b source target r
unfolding has_good_faces
good_pair faces_a faces_b source target r h =
    let after = exceeds (at_row source (r - 1)) (at_row target (r - 1)) (at_row source r) (at_row target r) in
    let p = both_true (is_within 1 faces_a (at_row source r) && is_within 1 faces_b (at_row target r)) (r == 0 || after) h in
    let q = both_true (is_within 1 faces_a (at_row source r)) (is_within 1 faces_b (at_row target r)) p.0 in
    let s = within 1 faces_a (at_row source r) q.0 in
    let t = within 1 faces_b (at_row target r) q.1 in
    record {
      least_source = s.0;
      greatest_source = s.1;
      source_is = s.2;
      least_target = t.0;
      greatest_target = t.1;
      target_is = t.2;
      order = either_true (r == 0) after p.1;
    }

pub some_row : (j : ℕ) → (suc j == 0) ≡ true → ⊥
some_row j h = grind (arith, nat_tests, h)

pub before_last : (j : ℕ) → suc j - 1 ≡ j
before_last j = omega arith

pub same_or_less : (i j : ℕ) → i < suc j → (i < j) ⊎ (i ≡ j)
same_or_less i j h = grind arith

-- Where they are.

pub and_true : (a b : Bool) → a ≡ true → b ≡ true → (a && b) ≡ true
and_true true b ha hb = hb
and_true false b ha hb = absurd cc

pub or_true : (a b : Bool) → b ≡ true → (a || b) ≡ true
or_true true b h = refl
or_true false b h = h

pub within_true : (low high n : ℕ) → low ≤ n → n ≤ high → is_within low high (pos n) ≡ true
within_true low high n le ge = grind (arith, ints, le, ge)

pub less_true : (m n : ℕ) → m < n → int_lt (pos m) (pos n) ≡ true
less_true m n h = grind (arith, ints, h)
