-- A step of the sums of areas: one row more.
use Rattle.std.proofs.Common.{◌≡◌, ℕ, ◌-◌, ◌<◌, ◌≤◌, ◌^◌, ℤ, pos, ◌+ℤ◌, ◌≤ℤ◌, ◌<ℤ◌, List, ◌++◌, length, get_or, take, to_z, of_z, w64, ap, ◌∙◌, arith}
use Rattle.std.specs.List.{All}
use Rattle.std.proofs.lemmas.Int.{ints}
use Rattle.std.proofs.lemmas.List.{take_at, length-take-le}
use Rattle.std.proofs.lemmas.List.Elements.{All-take, All-weaker}
use Rattle.map_rows.specs.declared.rows.MapRow.{MapRow}
use Rattle.map_rows.specs.Maps.{IsSoundRow, measure_of, sum_at, areas_of, HasMeasure}
use Rattle.map_rows.proofs.FaceSums.{area_bounds, get_or-sums_of}

pub measures : (n_a n_b : ℕ) (rows : List MapRow) → All (IsSoundRow n_a n_b) rows → All HasMeasure rows
measures n_a n_b rows h = All-weaker (IsSoundRow n_a n_b) HasMeasure (λ r s. (s.least, s.greatest)) rows h

-- a measure fits 64 bits with sign
pub kept : (s : ℤ) → (pos 1 ≤ℤ s) × (s ≤ℤ pos 1099511627775) → to_z w64 (of_z w64 s) ≡ s
kept s h = omega (arith, ints, h.0, h.1)

-- the row at place k, whose measure x is, keeps the area of its face within 64 bits with sign
pub sum_bounds : (face_of : MapRow → ℕ) (n : ℕ) (rows : List MapRow) (k : ℕ) (r : MapRow) (x : ℤ) (areas : List ℤ) → areas ≡ areas_of face_of n (take k rows) → All HasMeasure rows → HasMeasure r
    → x ≡ r.s → 1 ≤ face_of r → face_of r ≤ n → k < length rows → length rows ≤ 8388608
    → (pos 0 ≤ℤ (get_or areas (face_of r - 1) (pos 0) +ℤ x)) × ((get_or areas (face_of r - 1) (pos 0) +ℤ x) <ℤ pos (2 ^ 63))
sum_bounds face_of n rows k r x areas e all here same least most within few =
    let p = face_of r - 1 in
    let bounds = area_bounds face_of (take k rows) (face_of r) (All-take HasMeasure k rows all) in
    let size : length (take k rows) ≡ k = length-take-le k rows (omega arith) in
    let value : get_or areas p (pos 0) ≡ sum_at face_of measure_of (take k rows) (face_of r) =
    ap (λ (xs : List ℤ). get_or xs p (pos 0)) e ∙ get_or-sums_of face_of measure_of n (take k rows) p (face_of r) (pos 0) (omega arith) (omega arith)
    in
    (omega (arith, ints, value, bounds.0, here.0, same), omega (arith, ints, value, bounds.1, here.1, size, same))

-- what a list of n numbers holds once its whole length is written
pub written : (n : ℕ) (new rest : List ℤ) → length new ≡ n → take n (new ++ rest) ≡ new
written n new rest e = take_at new rest n e
