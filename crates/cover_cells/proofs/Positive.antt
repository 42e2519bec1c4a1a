-- Tests of directions as facts.
use Rattle.std.proofs.Common.{◌≡◌, zero, suc, ℤ, pos, negsuc, ◌≤ℤ◌, ◌<ℤ◌, Bool, true, false, List, length, arith, refl, sym}
use Rattle.std.specs.Prelude.{int_lt}
use Rattle.std.specs.List.{list_all}
use Rattle.std.proofs.lemmas.Int.{ints}
use Rattle.std.proofs.lemmas.Bool.{lt-ltb, le-ltb}
use Rattle.std.proofs.lemmas.List.Elements.{All-from_get_or}
use Rattle.std.proofs.lemmas.List.Sums.{AllPass-from_list_all, list_all-from_AllPass}
use Rattle.vec_exact.specs.declared.Vec3.{Vec3}
use Rattle.vec_exact.specs.Vector.{zero_triple, inner}
use Rattle.vec_exact.specs.Cycle.{vector_at}
use Rattle.cone_laws.specs.Cone.{AllPositive}
use Rattle.cover_cells.specs.Cells.{is_positive}

pub lt_true : (z : ℤ) → pos 0 <ℤ z → int_lt (pos 0) z ≡ true
lt_true (pos zero) h = absurd (omega (arith, ints))
lt_true (pos (suc n)) h = lt-ltb 0 (suc n) (omega arith)
lt_true (negsuc n) h = absurd (omega (arith, ints))

pub lt_from : (z : ℤ) → int_lt (pos 0) z ≡ true → pos 0 <ℤ z
lt_from (pos zero) h = cc
lt_from (pos (suc n)) h = omega (arith, ints)
lt_from (negsuc n) h = cc

pub lt_false : (z : ℤ) → z ≤ℤ pos 0 → int_lt (pos 0) z ≡ false
lt_false (pos zero) h = refl
lt_false (pos (suc n)) h = absurd (omega (arith, ints))
lt_false (negsuc n) h = refl

-- no number is on both sides of zero
pub never_both : (z : ℤ) → int_lt (pos 0) z ≡ true → int_lt z (pos 0) ≡ false
never_both (pos zero) h = refl
never_both (pos (suc n)) h = le-ltb (suc n) 0 (omega arith)
never_both (negsuc n) h = cc

pub bool_same : (a b : Bool) → (a ≡ true → b ≡ true) → (b ≡ true → a ≡ true) → a ≡ b
bool_same true b f g = sym (f refl)
bool_same false true f g = g refl
bool_same false false f g = refl

pub positive_from : (d : Vec3) (ns : List Vec3) → list_all (is_positive d) ns ≡ true → AllPositive (length ns) (vector_at ns) d
positive_from d ns h s l = lt_from (inner (vector_at ns s) d) (AllPass-from_list_all (is_positive d) ns h s zero_triple l)

pub positive_to : (d : Vec3) (ns : List Vec3) → AllPositive (length ns) (vector_at ns) d → list_all (is_positive d) ns ≡ true
positive_to d ns h =
    list_all-from_AllPass (is_positive d) ns
    (All-from_get_or (λ (n : Vec3). is_positive d n ≡ true) ns zero_triple (λ s l. lt_true (inner (vector_at ns s) d) (h s l)))
