use Rattle.std.proofs.Common.{◌≡◌, ◌∙◌, ◌⊎◌, inl, inr, ◌<◌, ◌+◌, ◌*◌, ℕ, [], true, slice_get, slice_range, IsSomeAnd, ap, sym, subst, arith}
use Rattle.nc_write.specs.Kinds.{size_of}
use Rattle.nc_format.specs.declared.NcVar.{NcVar}
use Rattle.nc_format.specs.Numbers.{is_int}
use Rattle.remap_files.specs.OverlapRows.{Columns, ring_begin}
use Rattle.remap_io.specs.Folder.{OnFile}
use Rattle.remap_load.specs.Pieces.{numbers_at, bytes_at, count_at}
use Rattle.overlap_load.specs.Windows.{Reading, without_corners, columns, begin_of, corner_place, width_of, InOnePiece}
use Rattle.overlap_load.proofs.Reader.{begin_inside}
use Rattle.overlap_load.proofs.Windowed.{begin_bound, corner_var, corner_ints, some_within, var_there, whole_next, part_next, whole_cost, part_cost}
use Rattle.overlap_load.proofs.windows.corners_from.Goals as goal

pub corner_place-place-requires : goal.corner_place-place-requires
corner_place-place-requires g c = (corner_var c.args.head.now c.args.vars.now c.requires.reader.head c.requires.reader.found (omega (arith, c.requires.some))).0

pub in_one_piece-requires : goal.in_one_piece-requires
in_one_piece-requires g c =
    let file = c.args.head.now.file in
    let ints = corner_ints c.args.head.now c.args.vars.now c.requires.reader.head c.requires.reader.found (omega (arith, c.requires.some)) in
    omega (arith, c.corner_place-place.ensures, some_within (λ (v : NcVar). is_int v.kind ≡ true) file.vars (corner_place c.args.vars.now) ints)

pub load_ints-requires-clause-var : goal.load_ints-requires-clause-var
load_ints-requires-clause-var g c =
    let file = c.args.head.now.file in
    subst (λ (k : ℕ). IsSomeAnd (slice_get file.vars k) (λ (v : NcVar). is_int v.kind ≡ true)) (sym c.corner_place-place.ensures)
    (corner_ints c.args.head.now c.args.vars.now c.requires.reader.head c.requires.reader.found (omega (arith, c.requires.some)))

pub load_part-requires-clause-var : goal.load_part-requires-clause-var
load_part-requires-clause-var g c =
    let file = c.args.head.now.file in
    subst (λ (k : ℕ). IsSomeAnd (slice_get file.vars k) (λ (v : NcVar). is_int v.kind ≡ true)) (sym c.corner_place-place.ensures)
    (corner_ints c.args.head.now c.args.vars.now c.requires.reader.head c.requires.reader.found (omega (arith, c.requires.some)))

many_first : (r : Reading) → (InOnePiece r → ⊥) → r.end < r.vars.pieces → (r.end ≡ 0) ⊎ (r.end < r.vars.pieces → InOnePiece r) → r.end ≡ 0
many_first r many more (inl first) = first
many_first r many more (inr one) = absurd (many (one more))

pub returns-then-not-in_one_piece-clause-corners : goal.returns-then-not-in_one_piece-clause-corners
returns-then-not-in_one_piece-clause-corners g c =
    let file = c.args.head.now.file in
    let name = c.args.name.now in
    let folder = (g.F.Files.seen c.args.files.now).folder in
    let r = without_corners c.args.head.now c.args.vars.now c.args.values.now c.args.begin c.args.end in
    let place = c.corner_place-place.ensures in
    let many : InOnePiece r → ⊥ = subst (λ (k : ℕ). IsSomeAnd (slice_get file.vars k) (λ (v : NcVar). v.parts ≡ 1) → ⊥) place (c.in_one_piece.ensures.many c.if-not-in_one_piece.true) in
    whole_next folder name r c.in_ok-corners.corners c.requires.reader c.requires.some (many_first r many c.requires.some c.requires.reader.one)
    (subst (λ (k : ℕ). OnFile folder name (λ bytes. c.in_ok-corners.corners ≡ numbers_at file bytes k)) place c.in_ok-corners.ensures.values)
    (c.in_ok-corners.ensures.len ∙ ap (count_at file) place)

pub returns-then-not-in_one_piece-clause-asked : goal.returns-then-not-in_one_piece-clause-asked
returns-then-not-in_one_piece-clause-asked g c =
    let file = c.args.head.now.file in
    let r = without_corners c.args.head.now c.args.vars.now c.args.values.now c.args.begin c.args.end in
    let place = c.corner_place-place.ensures in
    let many : InOnePiece r → ⊥ = subst (λ (k : ℕ). IsSomeAnd (slice_get file.vars k) (λ (v : NcVar). v.parts ≡ 1) → ⊥) place (c.in_one_piece.ensures.many c.if-not-in_one_piece.true) in
    omega (arith, whole_cost r c.requires.reader (many_first r many c.requires.some c.requires.reader.one) (omega (arith, c.requires.some)), c.in_ok-corners.ensures.reads.asked, ap (bytes_at file) place)

-- the rows of the next window
pub rings_between-count-requires-clause-few : goal.rings_between-count-requires-clause-few
rings_between-count-requires-clause-few g c =
    let r = without_corners c.args.head.now c.args.vars.now c.args.values.now c.args.begin c.args.end in
    let last = c.min-last.result in
    let rows : c.rows_of-rows.result ≡ columns r [] = c.rows_of-rows.ensures in
    omega (arith, begin_bound r last c.requires.reader (omega (arith, c.requires.some)) (omega (arith, c.min-last.ensures)), ap (λ (x : Columns). ring_begin x.ring_size last) rows)

pub overflow_mul-from : goal.overflow_mul-from
overflow_mul-from g c =
    let r = without_corners c.args.head.now c.args.vars.now c.args.values.now c.args.begin c.args.end in
    omega (arith, begin_bound r r.end c.requires.reader (omega (arith, c.requires.some)) c.requires.reader.end, c.requires.reader.begin)

pub overflow_mul-part : goal.overflow_mul-part
overflow_mul-part g c =
    let r = without_corners c.args.head.now c.args.vars.now c.args.values.now c.args.begin c.args.end in
    let last = c.min-last.result in
    let rows : c.rows_of-rows.result ≡ columns r [] = c.rows_of-rows.ensures in
    omega (arith, begin_bound r last c.requires.reader (omega (arith, c.requires.some)) (omega (arith, c.min-last.ensures)), ap (λ (x : Columns). ring_begin x.ring_size last) rows, c.rings_between-count.ensures)

pub load_part-requires-clause-inside : goal.load_part-requires-clause-inside
load_part-requires-clause-inside g c =
    let file = c.args.head.now.file in
    let r = without_corners c.args.head.now c.args.vars.now c.args.values.now c.args.begin c.args.end in
    let last = c.min-last.result in
    let rows : c.rows_of-rows.result ≡ columns r [] = c.rows_of-rows.ensures in
    let some : 0 < r.vars.pieces = omega (arith, c.requires.some) in
    omega (
      arith,
      begin_inside r.vars (columns r []) last (c.requires.reader.lens some) c.requires.reader.good (omega (arith, c.min-last.ensures)),
      (corner_var r.head r.vars c.requires.reader.head c.requires.reader.found some).1,
      ap (λ (x : Columns). ring_begin x.ring_size last) rows,
      ap (λ (x : Columns). ring_begin x.ring_size r.end) rows,
      c.rings_between-count.ensures,
      c.requires.reader.begin,
      ap (count_at file) c.corner_place-place.ensures,
    )

pub returns-in_err-corners-2-clause-reads : goal.returns-in_err-corners-2-clause-reads
returns-in_err-corners-2-clause-reads g c =
    let file = c.args.head.now.file in
    let ints = corner_ints c.args.head.now c.args.vars.now c.requires.reader.head c.requires.reader.found (omega (arith, c.requires.some)) in
    let there = var_there (slice_get file.vars (corner_place c.args.vars.now)) (λ (v : NcVar). is_int v.kind ≡ true) ints in
    (c.load_part.ensures.reads there.0 (ap (slice_get file.vars) c.corner_place-place.ensures ∙ there.1)).reads

pub returns-clause-reads : goal.returns-clause-reads
returns-clause-reads g c =
    let file = c.args.head.now.file in
    let ints = corner_ints c.args.head.now c.args.vars.now c.requires.reader.head c.requires.reader.found (omega (arith, c.requires.some)) in
    let there = var_there (slice_get file.vars (corner_place c.args.vars.now)) (λ (v : NcVar). is_int v.kind ≡ true) ints in
    (c.load_part.ensures.reads there.0 (ap (slice_get file.vars) c.corner_place-place.ensures ∙ there.1)).reads

pub returns-clause-corners : goal.returns-clause-corners
returns-clause-corners g c =
    let file = c.args.head.now.file in
    let name = c.args.name.now in
    let folder = (g.F.Files.seen c.args.files.now).folder in
    let r = without_corners c.args.head.now c.args.vars.now c.args.values.now c.args.begin c.args.end in
    let last = c.min-last.result in
    let place = c.corner_place-place.ensures in
    let rows : c.rows_of-rows.result ≡ columns r [] = c.rows_of-rows.ensures in
    let one : InOnePiece r = subst (λ (k : ℕ). IsSomeAnd (slice_get file.vars k) (λ (v : NcVar). v.parts ≡ 1)) place (c.in_one_piece.ensures.one c.if-not-in_one_piece.false) in
    let sum : begin_of r r.end + c.rings_between-count.result ≡ begin_of r last = omega (arith, c.rings_between-count.ensures, ap (λ (x : Columns). ring_begin x.ring_size last) rows, ap (λ (x : Columns). ring_begin x.ring_size r.end) rows) in
    part_next folder name r c.in_ok-corners-2.corners last c.rings_between-count.result c.requires.reader (omega arith) one (omega (arith, c.min-last.ensures, c.requires.some)) (omega (arith, c.min-last.ensures)) sum
    (subst (λ (k : ℕ). OnFile folder name (λ bytes. c.in_ok-corners-2.corners ≡ slice_range (numbers_at file bytes k) (3 * r.begin) (3 * r.begin + 3 * c.rings_between-count.result))) place c.in_ok-corners-2.ensures.values)
    c.in_ok-corners-2.ensures.len

pub returns-clause-asked : goal.returns-clause-asked
returns-clause-asked g c =
    let file = c.args.head.now.file in
    let r = without_corners c.args.head.now c.args.vars.now c.args.values.now c.args.begin c.args.end in
    let last = c.min-last.result in
    let count = c.rings_between-count.result in
    let rows : c.rows_of-rows.result ≡ columns r [] = c.rows_of-rows.ensures in
    let ints = corner_ints c.args.head.now c.args.vars.now c.requires.reader.head c.requires.reader.found (omega (arith, c.requires.some)) in
    let there = var_there (slice_get file.vars (corner_place c.args.vars.now)) (λ (v : NcVar). is_int v.kind ≡ true) ints in
    let reads = c.load_part.ensures.reads there.0 (ap (slice_get file.vars) c.corner_place-place.ensures ∙ there.1) in
    let sum : begin_of r r.end + count ≡ begin_of r last = omega (arith, c.rings_between-count.ensures, ap (λ (x : Columns). ring_begin x.ring_size last) rows, ap (λ (x : Columns). ring_begin x.ring_size r.end) rows) in
    let wide : (3 * count) * width_of (slice_get file.vars (corner_place r.vars)) ≡ (3 * count) * size_of (there.0).kind = ap (λ o. (3 * count) * width_of o) there.1 in
    omega (arith, part_cost r last count c.requires.reader (omega (arith, c.min-last.ensures, c.requires.some)) (omega (arith, c.min-last.ensures)) sum, reads.asked, wide)
