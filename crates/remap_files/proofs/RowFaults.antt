-- The first row at fault.
use Rattle.std.proofs.Common.{◌≡◌, ◌<◌, ◌≤◌, ◌+◌, ◌*◌, ℕ, suc, ℤ, pos, true, false, cond, List, [], ◌∷◌, length, take, drop, map, ◌≢◌, ◌==◌, if◌then◌else◌, Option, Some, None, Ok, Err, refl, ap, ◌∙◌, arith, unsigned_abs, slice_index_or}
use Rattle.std.specs.List.{range_with_len, sum_by}
use Rattle.std.proofs.lemmas.Bool.{lt-ltb, le-ltb}
use Rattle.std.proofs.lemmas.Bool.Decides.{nat_tests}
use Rattle.std.proofs.lemmas.List.Sums.{sum_by_push}
use Rattle.std.proofs.Math.Seq.{take-suc}
use Rattle.remap_files.specs.declared.vars.OverlapVars.{OverlapVars}
use Rattle.exodus_mesh.specs.declared.faults.FileFault.TheVariants.{Row}
use Rattle.remap_files.specs.OverlapRows.{Columns, columns_of, ring_begin, ring_len, is_good_row, first_fault, rest_fault, row_fault, unless_fault, overlap_at, overlap_from, overlap_of, overlap_lens, piece_at}
use Rattle.remap_files.specs.Rows.{HasLens, HasRowLens, with_corners, piece_with}
use Rattle.exodus_mesh.proofs.FirstNot.{one_more_good as one_more, first_is, none_is, all_good}

-- rows up to a number are at no fault
abbrev pub AreGood : OverlapVars → Columns → ℕ → Type 0
AreGood v c n = (k : ℕ) → k < n → is_good_row v.faces_a v.faces_b c k ≡ true

pub one_more_good : (v : OverlapVars) (c : Columns) (r : ℕ) → AreGood v c r → is_good_row v.faces_a v.faces_b c r ≡ true → AreGood v c (r + 1)
one_more_good v c r before here = one_more (is_good_row v.faces_a v.faces_b c) r before here

pub row_is_bad : (v : OverlapVars) (c : Columns) (r : ℕ) → r < v.pieces → AreGood v c r → is_good_row v.faces_a v.faces_b c r ≡ false → row_fault v c ≡ Some (r + 1)
unfolding row_fault
row_is_bad v c r below before bad = ap (λ o. first_fault v.pieces c o) (first_is (is_good_row v.faces_a v.faces_b c) v.pieces r below before bad)

no_bad_row : (v : OverlapVars) (c : Columns) → AreGood v c v.pieces → row_fault v c ≡ rest_fault v.pieces c
unfolding row_fault
no_bad_row v c all = ap (λ o. first_fault v.pieces c o) (none_is (is_good_row v.faces_a v.faces_b c) v.pieces all)

pub rest_is_bad : (v : OverlapVars) (c : Columns) → AreGood v c v.pieces → ring_begin c.ring_size v.pieces < length c.ring_plane → row_fault v c ≡ Some v.pieces
rest_is_bad v c all past = no_bad_row v c all ∙ ap (λ b. cond b (Some v.pieces) None) (lt-ltb (ring_begin c.ring_size v.pieces) (length c.ring_plane) past)

pub no_fault : (v : OverlapVars) (c : Columns) → AreGood v c v.pieces → length c.ring_plane ≤ ring_begin c.ring_size v.pieces → row_fault v c ≡ None
no_fault v c all whole = no_bad_row v c all ∙ ap (λ b. cond b (Some v.pieces) None) (le-ltb (ring_begin c.ring_size v.pieces) (length c.ring_plane) whole)

-- the test of the rows doesn't look at the corners
pub any_corners : (v : OverlapVars) (c : Columns) (corner : List ℤ) → row_fault v (with_corners c corner) ≡ row_fault v c
unfolding row_fault
any_corners v c corner = refl

-- the piece of a row has its corners from where those of the rows before it end
pub piece_is : (c : Columns) (corner : List ℤ) (r : ℕ) → piece_at (with_corners c corner) r ≡ piece_with c r (drop (3 * ring_begin c.ring_size r) corner)
unfolding piece_at
piece_is c corner r = refl

first_none : (pieces : ℕ) (c : Columns) (o : Option ℕ) → first_fault pieces c o ≡ None → o ≡ None
first_none pieces c (Some r) h = absurd cc
first_none pieces c None h = refl

-- where no row is at fault all rows are good
pub all_are_good : (v : OverlapVars) (c : Columns) → row_fault v c ≡ None → AreGood v c v.pieces
unfolding row_fault
all_are_good v c none = all_good (is_good_row v.faces_a v.faces_b c) v.pieces (first_none v.pieces c _ none)

pub fault_is : (v : OverlapVars) (c : Columns) (r : ℕ) → row_fault v c ≡ Some r → overlap_from v c ≡ Err (Row r)
unfolding overlap_from
fault_is v c r h = ap (λ o. unless_fault o (overlap_at v c)) h

pub overlap_is : (v : OverlapVars) (values : List (List ℤ)) → row_fault v (columns_of values) ≡ None → overlap_of v values ≡ Ok (overlap_at v (columns_of values))
unfolding overlap_from
overlap_is v values h = ap (λ o. unless_fault o (overlap_at v (columns_of values))) h

-- the next ring begins where this one ends
pub next_begin : (ring_size : List ℤ) (r : ℕ) → r < length ring_size → ring_begin ring_size (r + 1) ≡ ring_begin ring_size r + ring_len ring_size r
unfolding ring_begin
next_begin ring_size r below =
    let at : r + 1 ≡ suc r = omega arith in
    ap (λ k. sum_by unsigned_abs (take k ring_size)) at
    ∙ ap (sum_by unsigned_abs) (take-suc ring_size r (pos 0) below)
    ∙ sum_by_push unsigned_abs (take r ring_size) (slice_index_or ring_size r (pos 0))

pub first_begin : (ring_size : List ℤ) → ring_begin ring_size 0 ≡ 0
unfolding ring_begin
first_begin ring_size = refl

-- without a row there is no fault and no piece
pub no_rows : (v : OverlapVars) (values : List (List ℤ)) → v.pieces ≡ 0 → map length values ≡ overlap_lens v → overlap_of v values ≡ Ok (record { faces_a = v.faces_a; faces_b = v.faces_b; pieces = [] })
no_rows v values none lens =
    let empty : values ≡ [] = no_lists values (lens ∙ ap (λ b. if b then [] else (v.pieces ∷ v.pieces ∷ v.pieces ∷ v.corners ∷ 3 * v.corners ∷ [])) (is_zero v.pieces none)) in
    let all : AreGood v (columns_of values) v.pieces = λ k below. absurd (omega (arith, below, none)) in
    let whole : length (columns_of values).ring_plane ≤ ring_begin (columns_of values).ring_size v.pieces = rw empty (omega arith) in
    overlap_is v values (no_fault v (columns_of values) all whole)
    ∙ ap (λ n. Ok (record { faces_a = v.faces_a; faces_b = v.faces_b; pieces = map (piece_at (columns_of values)) (range_with_len 0 n) })) none
  where
    no_lists : (l : List (List ℤ)) → map length l ≡ [] → l ≡ []
    no_lists [] h = refl
    no_lists (x ∷ xs) h = absurd cc

    is_zero : (n : ℕ) → n ≡ 0 → (n == 0) ≡ true
    is_zero n h = grind (arith, nat_tests)

some_rows : (n : ℕ) → n ≢ 0 → (n == 0) ≡ false
some_rows n h = grind (arith, nat_tests)

-- five lists, with the lengths of the five columns
pub record HasFive (v : OverlapVars) (values : List (List ℤ)) : Type 0 where
  pub count : length values ≡ 5
  pub lens : HasLens v (columns_of values)

pub row_lens : (v : OverlapVars) (c : Columns) (corner : List ℤ) → HasLens v c → HasRowLens v (with_corners c corner)
row_lens v c corner h = record { source = h.source; target = h.target; ring_size = h.ring_size; ring_plane = h.ring_plane }

five : (v : OverlapVars) (values : List (List ℤ)) → map length values ≡ v.pieces ∷ v.pieces ∷ v.pieces ∷ v.corners ∷ 3 * v.corners ∷ [] → HasFive v values
five v [] h = absurd cc
five v (a ∷ []) h = absurd cc
five v (a ∷ b ∷ []) h = absurd cc
five v (a ∷ b ∷ c ∷ []) h = absurd cc
five v (a ∷ b ∷ c ∷ d ∷ []) h = absurd cc
five v (a ∷ b ∷ c ∷ d ∷ e ∷ []) h = record {
  count = refl;
  lens = record {
    source = ap (λ l. slice_index_or l 0 0) h;
    target = ap (λ l. slice_index_or l 1 0) h;
    ring_size = ap (λ l. slice_index_or l 2 0) h;
    ring_plane = ap (λ l. slice_index_or l 3 0) h;
    corner = ap (λ l. slice_index_or l 4 0) h;
  };
}
five v (a ∷ b ∷ c ∷ d ∷ e ∷ f ∷ more) h = absurd cc

-- with a piece there are five lists
pub five_lists : (v : OverlapVars) (values : List (List ℤ)) → v.pieces ≢ 0 → map length values ≡ overlap_lens v → HasFive v values
five_lists v values some lens = five v values (lens ∙ ap (λ b. if b then [] else (v.pieces ∷ v.pieces ∷ v.pieces ∷ v.corners ∷ 3 * v.corners ∷ [])) (some_rows v.pieces some))
