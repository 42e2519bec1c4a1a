-- The numbers of a field, put part by part and in each target by target.
use Rattle.std.proofs.Common.{◌≡◌, ◌≢◌, ◌⊎◌, ℕ, ◌+◌, ◌-◌, ◌*◌, ◌/◌, ◌%◌, ◌<◌, ◌≤◌, inl, inr, ℤ, pos, set, List, length, map, take, drop, get_or, slice_range, ap, ◌∙◌, sym, refl, arith}
use Rattle.std.proofs.lemmas.List.{ext_get_or, get_or-take, get_or-drop, length-map, length-drop, length-take-le, length-set, get_or-set_same, get_or-set_other}
use Rattle.std.proofs.Math.Seq.{take-length}
use Rattle.std.proofs.lemmas.Bool.{cases_lt}
use Rattle.std.proofs.lemmas.Nat.{div-add-mod'}
use Rattle.vec_exact.proofs.Cycles.{same_or_not}
use Rattle.map_rows.specs.Maps.{MapParts}
use Rattle.map_rows.specs.Application.{WholeAndRest, application_of, share_at}
use Rattle.map_rows.proofs.Masses.{length-application_of, part_in}
use Rattle.apply_map.specs.Parts.{IsFirstSlice, IsTargetPut}

-- the whole parts, or the rests, of the field
abbrev pub numbers : (WholeAndRest → ℤ) → MapParts → ℕ → List ℤ → List ℤ
numbers part m slices values = map part (application_of m slices values)

-- how many there are
pub count_of : (part : WholeAndRest → ℤ) (m : MapParts) (slices : ℕ) (values : List ℤ) → length (numbers part m slices values) ≡ slices * m.n_b
count_of part m slices values = length-map (application_of m slices values) part ∙ length-application_of m slices values

-- the slice of a place
pub slice_below : (n slice target place slices : ℕ) → place ≡ slice * n + target → place < slices * n → slice < slices
slice_below n slice target place slices e l = grind arith

pub values_below : (slice slices n count : ℕ) → slice < slices → count ≡ slices * n → (slice + 1) * n ≤ count
values_below slice slices n count l e = grind arith

-- the number at a place
pub number_here : (part : WholeAndRest → ℤ) (m : MapParts) (slices : ℕ) (values : List ℤ) (slice target place : ℕ) → slice < slices → target < m.n_b → place ≡ slice * m.n_b + target
    → get_or (numbers part m slices values) place (pos 0) ≡ part (share_at m values slice (1 + target))
number_here part m slices values slice target place l t e =
    let at : place ≡ slice * m.n_b + (1 + target - 1) = omega (arith, e) in
    ap (λ (i : ℕ). get_or (numbers part m slices values) i (pos 0)) at
    ∙ part_in m slices values slice (1 + target) part l (omega arith) (omega (arith, t))

-- The places of a target.

step_of : (s q n : ℕ) → s < q → s * n + n ≤ q * n
step_of s q n l = grind arith

next_of : (slice n : ℕ) → (slice + 1) * n ≡ slice * n + n
next_of slice n = grind arith

-- the slice of the place where the part begins, where the target isn't yet behind
pub first_here : (n from target : ℕ) → target < n → from % n ≤ target → IsFirstSlice n from target (from / n)
first_here n from target l le =
    let place : from / n * n + from % n ≡ from = div-add-mod' from n in
    record { reached = omega (arith, place, le); before = λ s b. omega (arith, place, l, step_of s (from / n) n b) }

-- and the one behind it
pub first_next : (n from target : ℕ) → target < n → target < from % n → IsFirstSlice n from target (from / n + 1)
first_next n from target l lt =
    let place : from / n * n + from % n ≡ from = div-add-mod' from n in
    let most : from % n < n = omega (arith, l) in
    record {
      reached = omega (arith, place, most, next_of (from / n) n);
      before = λ s b. omega (arith, place, lt, step_of s (from / n + 1) n b, next_of (from / n) n);
    }

-- no number of the target stands before the first

slice_before : (n s slice target : ℕ) → s * n + target < slice * n + target → s < slice
slice_before n s slice target l = grind arith

none : (n from target slice at : ℕ) → IsFirstSlice n from target slice → from + at ≡ slice * n + target → (k s : ℕ) (P : Type 0) → k < at → from + k ≡ s * n + target → P
none n from target slice at h e k s P l is =
    let below : s < slice = slice_before n s slice target (omega (arith, e, is, l)) in
    absurd (omega (arith, is, h.before s below))

-- between two of its numbers stands none
pub same_place : (n from target slice at k s : ℕ) → from + at ≡ slice * n + target → from + k ≡ s * n + target → at ≤ k → k < at + n → k ≡ at
same_place n from target slice at k s e is low high =
    elim (cases_lt slice s) [
      | inl more ↦ absurd (omega (arith, e, is, high, step_of slice s n more))
      | inr le ↦
          elim (cases_lt s slice) [
            | inl less ↦ absurd (omega (arith, e, is, low, high, step_of s slice n less))
            | inr ge ↦
                let same : s ≡ slice = omega (arith, le, ge) in
                omega (arith, e, is, ap (λ (q : ℕ). q * n) same)
          ]
    ]

-- What is put so far.

-- the numbers of this target before the place `at` of the part
pub record SoFar (n : ℕ) (field : List ℤ) (from target slice at : ℕ) (old new : List ℤ) : Type 0 where
  pub place : from + at ≡ slice * n + target
  pub size : length new ≡ length old
  pub kept : (k : ℕ) → (get_or new k (pos 0) ≡ get_or old k (pos 0)) ⊎ (get_or new k (pos 0) ≡ get_or field (from + k) (pos 0))
  pub done : (k s : ℕ) → k < at → from + k ≡ s * n + target → get_or new k (pos 0) ≡ get_or field (from + k) (pos 0)

pub begun : (n : ℕ) (field : List ℤ) (from target slice at : ℕ) (xs : List ℤ) → IsFirstSlice n from target slice → from + at ≡ slice * n + target → SoFar n field from target slice at xs xs
begun n field from target slice at xs h e = record {
  place = e;
  size = refl;
  kept = λ k. inl refl;
  done = λ k s l is. none n from target slice at h e k s (get_or xs k (pos 0) ≡ get_or field (from + k) (pos 0)) l is;
}

pub one_more : (n : ℕ) (field : List ℤ) (from target slice at : ℕ) (old xs : List ℤ) (x : ℤ) → at < length xs → x ≡ get_or field (from + at) (pos 0) → SoFar n field from target slice at old xs → SoFar n field from target (slice + 1) (at + n) old (set xs at x)
one_more n field from target slice at old xs x l e h =
    let here : (k : ℕ) → k ≡ at → get_or (set xs at x) k (pos 0) ≡ get_or field (from + k) (pos 0) = λ k same. ap (λ (i : ℕ). get_or (set xs at x) i (pos 0)) same ∙ get_or-set_same xs at x (pos 0) l ∙ e ∙ ap (λ (i : ℕ). get_or field (from + i) (pos 0)) (sym same) in
    record {
      place = omega (arith, h.place, next_of slice n);
      size = length-set xs at x ∙ h.size;
      kept = λ k.
          elim (same_or_not k at) [
            | inl same ↦ inr (here k same)
            | inr other ↦
                let there : get_or (set xs at x) k (pos 0) ≡ get_or xs k (pos 0) = get_or-set_other xs at k x (pos 0) other in
                elim (h.kept k) [
                  | inl was ↦ inl (there ∙ was)
                  | inr put ↦ inr (there ∙ put)
                ]
          ];
      done = λ k s below is.
          elim (cases_lt k at) [
            | inl before ↦
                let other : k ≢ at = λ same. absurd (omega (arith, before, same)) in
                get_or-set_other xs at k x (pos 0) other ∙ h.done k s before is
            | inr behind ↦ here k (same_place n from target slice at k s h.place is behind below)
          ];
    }

pub all_of_target : (n : ℕ) (field : List ℤ) (from target slice at : ℕ) (old new : List ℤ) → length old ≤ at → SoFar n field from target slice at old new → IsTargetPut n field from target old new
all_of_target n field from target slice at old new l h = record {
  size = h.size;
  kept = h.kept;
  done = λ k s below is. h.done k s (omega (arith, below, l)) is;
}

-- the numbers of the targets before this one
pub record TargetsSoFar (n : ℕ) (field : List ℤ) (from target : ℕ) (old new : List ℤ) : Type 0 where
  pub size : length new ≡ length old
  pub done : (k s t : ℕ) → k < length old → t < target → from + k ≡ s * n + t → get_or new k (pos 0) ≡ get_or field (from + k) (pos 0)

pub no_target_yet : (n : ℕ) (field : List ℤ) (from : ℕ) (xs : List ℤ) → TargetsSoFar n field from 0 xs xs
no_target_yet n field from xs = record { size = refl; done = λ k s t l below is. absurd (omega (arith, below)) }

pub target_more : (n : ℕ) (field : List ℤ) (from target : ℕ) (old xs new : List ℤ) → TargetsSoFar n field from target old xs → IsTargetPut n field from target xs new → TargetsSoFar n field from (target + 1) old new
target_more n field from target old xs new g h = record {
  size = h.size ∙ g.size;
  done = λ k s t l below is.
      elim (cases_lt t target) [
        | inl before ↦
            elim (h.kept k) [
              | inl same ↦ same ∙ g.done k s t l before is
              | inr put ↦ put
            ]
        | inr le ↦
            let here : t ≡ target = omega (arith, le, below) in
            h.done k s (omega (arith, l, g.size)) (is ∙ ap (λ (i : ℕ). s * n + i) here)
      ];
}

-- a part that is as the numbers from a place on
as_range : (xs all : List ℤ) (from n : ℕ) → length xs ≡ n → from + n ≤ length all → ((i : ℕ) → i < n → get_or xs i (pos 0) ≡ get_or all (from + i) (pos 0)) → xs ≡ slice_range all from (from + n)
as_range xs all from n size within are =
    let width : from + n - from ≡ n = omega arith in
    let count : length (take n (drop from all)) ≡ n = length-take-le n (drop from all) (omega (arith, within, length-drop from all)) in
    ext_get_or (pos 0) xs (take n (drop from all)) (size ∙ sym count)
    (λ i l.
    let below : i < n = omega (arith, l, size) in
    are i below ∙ sym (get_or-take n (drop from all) i (pos 0) below ∙ get_or-drop from all i (pos 0)))
    ∙ ap (λ (k : ℕ). take k (drop from all)) (sym width)

pub all_targets : (n : ℕ) (field : List ℤ) (from : ℕ) (old new : List ℤ) → 1 ≤ n → from + length old ≤ length field → TargetsSoFar n field from n old new → new ≡ slice_range field from (from + length old)
all_targets n field from old new some within h =
    as_range new field from (length old) h.size within
    (λ k l.
    let p = from + k in
    let place : p / n * n + p % n ≡ p = div-add-mod' p n in
    h.done k (p / n) (p % n) l (omega (arith, some)) (sym place))

-- all of the numbers
whole_range : (xs : List ℤ) (n : ℕ) → n ≡ length xs → slice_range xs 0 n ≡ xs
whole_range xs n e =
    let all : n - 0 ≡ length xs = omega (arith, e) in
    ap (λ (k : ℕ). take k xs) all ∙ take-length xs

pub all_numbers : (part : WholeAndRest → ℤ) (m : MapParts) (slices : ℕ) (values old new : List ℤ) → length old ≡ slices * m.n_b → new ≡ slice_range (numbers part m slices values) 0 (0 + length old) → new ≡ numbers part m slices values
all_numbers part m slices values old new size is = is ∙ whole_range (numbers part m slices values) (0 + length old) (omega (arith, size, count_of part m slices values))

pub put_size : (part : WholeAndRest → ℤ) (m : MapParts) (slices : ℕ) (values old new : List ℤ) → length old ≡ slices * m.n_b → new ≡ slice_range (numbers part m slices values) 0 (0 + length old) → length new ≡ slices * m.n_b
put_size part m slices values old new size is = ap (length {A = ℤ}) (all_numbers part m slices values old new size is) ∙ count_of part m slices values
