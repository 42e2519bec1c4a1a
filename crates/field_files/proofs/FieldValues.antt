-- A variable that fits a map has a value for each source of each slice.
use Rattle.std.proofs.Common.{◌≡◌, ◌≢◌, ℕ, zero, suc, ◌+◌, ◌-◌, ◌*◌, ◌/◌, ◌<◌, ◌≤◌, Bool, true, false, nat_lt, ◌==◌, ◌&&◌, if◌then◌else◌, inl, inr, List, [], ◌∷◌, ◌++◌, length, take, drop, get_or, All, Option, Some, None, Result, Ok, slice_get, slice_index, refl, ap, ap₂, sym, subst, ◌∙◌, arith}
use Rattle.std.specs.List.{sum_by}
use Rattle.std.proofs.Math.Nat.{mul_assoc, mul_comm, one-mul, suc-mul, mul-le-mul_left, mul-div_cancel}
use Rattle.std.proofs.lemmas.Bool.{cases_lt, ltb-true, lt-ltb, eqb-true}
use Rattle.std.proofs.lemmas.Bool.Decides.{nat_tests}
use Rattle.std.proofs.lemmas.Option.{slice_get-get_or, get_or_from_slice_get, slice_get_within}
use Rattle.std.proofs.lemmas.List.{get_or-map, get_or_past, length-map, take-append-drop, drop_more, drop_all}
use Rattle.std.proofs.lemmas.List.Elements.{All-head, All-tail}
use Rattle.std.proofs.lemmas.List.FromFn.{length-map-range_with_len}
use Rattle.std.proofs.lemmas.List.Sums.{get_or-le-sum_by}
use Rattle.nc_write.specs.declared.DocDim.{DocDim}
use Rattle.nc_write.specs.declared.NcKind.{NcKind}
use Rattle.nc_write.specs.Kinds.{size_of}
use Rattle.nc_write.specs.Extents.{lens_of, product_of, has_records, has_several, piece_count, piece_len, piece_total, share_of}
use Rattle.nc_format.specs.declared.NcVar.{NcVar}
use Rattle.nc_format.specs.declared.NcFile.{NcFile}
use Rattle.nc_format.specs.Numbers.{HasWholePieces, gathered, number_in, numbers_in}
use Rattle.nc_format.specs.Sound.{IsSoundVar}
use Rattle.nc_format.specs.Placing.{is_record_var, var_piece_len, step_from, part_of, own_step, IsPlaced}
use Rattle.nc_format.specs.Header.{IsHeader}
use Rattle.nc_format.proofs.Pieces.{header_has_pieces, header_is_placed}
use Rattle.nc_format.proofs.SoundParts.{header_is_sound}
use Rattle.field_files.specs.declared.FieldVar.{FieldVar}
use Rattle.exodus_mesh.specs.MeshIn.{numbers_of_var, values_in}
use Rattle.field_files.specs.declared.NoFit.{NoFit}
use Rattle.field_files.specs.FileHeader.{IsFileHeader, dims_of, dims_at}
use Rattle.field_files.specs.FieldNames.{len_by, last_len, IsFieldPlace}
use Rattle.field_files.specs.FieldShapes.{len_before_last, is_product, trailing_by, trailing_count, whole_lens, slices_of, led_by, fitted, field_over}
use Rattle.exodus_mesh.proofs.VarValues.{got, bytes_len, has_pieces}
use Rattle.field_files.proofs.ShortHeaders.{IsShortVar, header_is_short}
use Rattle.field_files.proofs.FoundFields.{field_place_ok}
use Rattle.field_files.proofs.SomeBytes.{some_bytes}

-- Lengths by their places.

not_zero : (n : ℕ) → n ≢ 0 → (n == 0) ≡ false
not_zero n h = grind (arith, nat_tests)

if_false : {A : Type 0} (b : Bool) (x y : A) → b ≡ false → (if b then x else y) ≡ y
if_false b x y h = ap (λ c. if c then x else y) h

pub whole_at : (records id : ℕ) (lens : List ℕ) → id < length lens → slice_index (whole_lens records lens) id ≡ (if slice_index lens id == 0 then records else slice_index lens id)
whole_at records id lens within = get_or-map (λ n. if n == 0 then records else n) lens id 0 0 within

-- a length that is not 0 is that of a dimension, and stays
pub whole_apart : (records id : ℕ) (lens : List ℕ) → slice_index lens id ≢ 0 → slice_index (whole_lens records lens) id ≡ slice_index lens id
whole_apart records id lens apart = elim (cases_lt id (length lens)) [
  | inl within ↦ whole_at records id lens within ∙ if_false (slice_index lens id == 0) records (slice_index lens id) (not_zero (slice_index lens id) apart)
  | inr past ↦ absurd (apart (get_or_past lens id 0 past))
]

pub product_apart : (records : ℕ) (lens ids : List ℕ) → All (λ id. slice_index lens id ≢ 0) ids → product_of (whole_lens records lens) ids ≡ product_of lens ids
unfolding product_of
product_apart records lens [] apart = refl
product_apart records lens (id ∷ ids) apart =
    ap₂ (λ (a b : ℕ). a * b) (whole_apart records id lens (All-head (λ (i : ℕ). slice_index lens i ≢ 0) id ids apart))
    (product_apart records lens ids (All-tail (λ (i : ℕ). slice_index lens i ≢ 0) id ids apart))

-- the product of all lengths is that of all pieces
pub product_pieces : (records : ℕ) (lens ids : List ℕ) → All (λ id. id < length lens) ids → All (λ id. slice_index lens id ≢ 0) (drop 1 ids)
    → product_of (whole_lens records lens) ids ≡ piece_total records (has_records lens ids) * piece_count lens ids
unfolding product_of has_records piece_count
product_pieces records lens [] within apart = refl
product_pieces records lens (id ∷ ids) within apart =
    let n = slice_index lens id in
    let p = product_of lens ids in
    let here : slice_index (whole_lens records lens) id ≡ (if n == 0 then records else n) = whole_at records id lens (All-head (λ (i : ℕ). i < length lens) id ids within) in
    let rest : product_of (whole_lens records lens) ids ≡ p = product_apart records lens ids apart in
    ap₂ (λ (a b : ℕ). a * b) here rest ∙ split records n p (n == 0)
  where
    split : (r n p : ℕ) (b : Bool) → (if b then r else n) * p ≡ (if b then r else 1) * (if b then p else n * p)
    split r n p true = refl
    split r n p false = sym (one-mul (n * p))

pub product_append : (lens xs ys : List ℕ) → product_of lens (xs ++ ys) ≡ product_of lens xs * product_of lens ys
unfolding product_of
product_append lens [] ys = sym (one-mul (product_of lens ys))
product_append lens (x ∷ xs) ys = ap (λ (n : ℕ). slice_index lens x * n) (product_append lens xs ys) ∙ sym (mul_assoc (slice_index lens x) (product_of lens xs) (product_of lens ys))

-- Trailing dimensions.

len_along : (lens ids : List ℕ) (k : ℕ) → k < length ids → len_by lens (slice_get ids k) ≡ slice_index lens (get_or ids k 0)
len_along lens ids k within = ap (len_by lens) (slice_get-get_or ids k 0 within)

one_left : (ids : List ℕ) → 0 < length ids → drop (length ids - 1) ids ≡ get_or ids (length ids - 1) 0 ∷ []
one_left ids some = drop_more ids (length ids - 1) 0 (omega arith) ∙ ap (λ l. get_or ids (length ids - 1) 0 ∷ l) (drop_all (length ids - 1 + 1) ids (omega arith))

two_left : (ids : List ℕ) → 1 < length ids → drop (length ids - 2) ids ≡ get_or ids (length ids - 2) 0 ∷ get_or ids (length ids - 1) 0 ∷ []
two_left ids some =
    let next : length ids - 2 + 1 ≡ length ids - 1 = omega arith in
    drop_more ids (length ids - 2) 0 (omega arith) ∙ ap (λ (k : ℕ). get_or ids (length ids - 2) 0 ∷ drop k ids) next ∙ ap (λ l. get_or ids (length ids - 2) 0 ∷ l) (one_left ids (omega arith))

-- what trails has the product n_a, and there are that many dimensions and sources
pub record Trails (records n_a : ℕ) (lens ids : List ℕ) (trailing : ℕ) : Type 0 where
  pub some : 1 ≤ trailing
  pub within : trailing ≤ length ids
  pub sources : 1 ≤ n_a
  pub product : product_of (whole_lens records lens) (drop (length ids - trailing) ids) ≡ n_a

last_some : (lens ids : List ℕ) → 0 < last_len lens ids → 0 < length ids
last_some lens [] h = absurd (omega arith)
last_some lens (id ∷ ids) h = omega arith

one_trails : (records n_a : ℕ) (lens ids : List ℕ) → 0 < last_len lens ids → last_len lens ids ≡ n_a → Trails records n_a lens ids 1
unfolding product_of
one_trails records n_a lens ids last h =
    let some = last_some lens ids last in
    let id = get_or ids (length ids - 1) 0 in
    let len : slice_index lens id ≡ n_a = sym (len_along lens ids (length ids - 1) (omega arith)) ∙ h in
    let apart : slice_index lens id ≢ 0 = λ e. absurd (omega (arith, e, len, h, last)) in
    record {
      some = omega arith;
      within = some;
      sources = omega (arith, h, last);
      product = ap (product_of (whole_lens records lens)) (one_left ids some) ∙ ap (λ (n : ℕ). n * 1) (whole_apart records id lens apart ∙ len) ∙ omega arith;
    }

both_true : (a b : Bool) → (a && b) ≡ true → (a ≡ true) × (b ≡ true)
both_true true b h = (refl, h)
both_true false b h = absurd cc

pub some_times : (a b : ℕ) → 0 < a → 0 < b → 1 ≤ a * b
some_times zero b some_a some_b = absurd (omega arith)
some_times (suc a) b some_a some_b = omega (arith, suc-mul a b)

two_parts : (n first second : ℕ) → is_product n first second ≡ true → (0 < first) × (0 < second) × (first * second ≡ n)
two_parts n first second h =
    let p = both_true (nat_lt 0 first && nat_lt 0 second) (first * second == n) h in
    let q = both_true (nat_lt 0 first) (nat_lt 0 second) p.0 in
    (ltb-true 0 first q.0, ltb-true 0 second q.1, eqb-true (first * second) n p.1)

guarded : (b : Bool) (n : ℕ) → 0 < (if b then n else 0) → b ≡ true
guarded true n h = refl
guarded false n h = absurd (omega arith)

before_is : (lens ids : List ℕ) → 1 < length ids → len_before_last lens ids ≡ slice_index lens (get_or ids (length ids - 2) 0)
before_is lens ids some =
    ap (λ (b : Bool). if b then len_by lens (slice_get ids (length ids - 2)) else 0) (lt-ltb 1 (length ids) some) ∙ len_along lens ids (length ids - 2) (omega arith)

before_some : (lens ids : List ℕ) → 0 < len_before_last lens ids → 1 < length ids
before_some lens ids h = ltb-true 1 (length ids) (guarded (nat_lt 1 (length ids)) (len_by lens (slice_get ids (length ids - 2))) h)

two_trail : (records n_a : ℕ) (lens ids : List ℕ) → is_product n_a (len_before_last lens ids) (last_len lens ids) ≡ true → Trails records n_a lens ids 2
unfolding product_of
two_trail records n_a lens ids h =
    let parts = two_parts n_a (len_before_last lens ids) (last_len lens ids) h in
    let some = before_some lens ids parts.0 in
    let first = get_or ids (length ids - 2) 0 in
    let second = get_or ids (length ids - 1) 0 in
    let one : len_before_last lens ids ≡ slice_index lens first = before_is lens ids some in
    let two : last_len lens ids ≡ slice_index lens second = len_along lens ids (length ids - 1) (omega (arith, some)) in
    let apart_one : slice_index lens first ≢ 0 = λ e. absurd (omega (arith, e, one, parts.0)) in
    let apart_two : slice_index lens second ≢ 0 = λ e. absurd (omega (arith, e, two, parts.1)) in
    let whole : slice_index lens first * slice_index lens second ≡ n_a = ap₂ (λ (a b : ℕ). a * b) (sym one) (sym two) ∙ parts.2 in
    record {
      some = omega arith;
      within = some;
      sources = omega (arith, some_times (len_before_last lens ids) (last_len lens ids) parts.0 parts.1, parts.2);
      product = ap (product_of (whole_lens records lens)) (two_left ids some)
          ∙ ap₂ (λ (a b : ℕ). a * (b * 1)) (whole_apart records first lens apart_one) (whole_apart records second lens apart_two)
          ∙ ap (λ (n : ℕ). slice_index lens first * n) (let e : slice_index lens second * 1 ≡ slice_index lens second = omega arith in e)
          ∙ whole;
    }

some_same : {A : Type 0} (x y : A) → (let o : Option A = Some x in o ≡ Some y) → x ≡ y
some_same x y h = cc

pub trails : (records n_a : ℕ) (lens ids : List ℕ) (trailing : ℕ) → 0 < last_len lens ids → trailing_count n_a lens ids ≡ Some trailing → Trails records n_a lens ids trailing
trails records n_a lens ids trailing last h = by_last (last_len lens ids == n_a) refl h
  where
    by_product : (b : Bool) → is_product n_a (len_before_last lens ids) (last_len lens ids) ≡ b → (let o : Option ℕ = if b then Some 2 else None in o ≡ Some trailing) → Trails records n_a lens ids trailing
    by_product true is e = subst (Trails records n_a lens ids) (some_same 2 trailing e) (two_trail records n_a lens ids is)
    by_product false is e = absurd cc

    by_last : (b : Bool) → (last_len lens ids == n_a) ≡ b → (if b then Some 1 else (if is_product n_a (len_before_last lens ids) (last_len lens ids) then Some 2 else None)) ≡ Some trailing → Trails records n_a lens ids trailing
    by_last true is e = subst (Trails records n_a lens ids) (some_same 1 trailing e) (one_trails records n_a lens ids last (grind (arith, nat_tests, is)))
    by_last false is e = by_product (is_product n_a (len_before_last lens ids) (last_len lens ids)) refl e

-- Values of a variable in a file.

-- all pieces together are no longer than the file
all_within : (parts part step begin len : ℕ) → (1 < parts → part ≤ step) → ((r : ℕ) → r < parts → begin + r * step + part ≤ len) → parts * part ≤ len
all_within zero part step begin len wide inside = omega arith
all_within (suc zero) part step begin len wide inside = omega (arith, inside 0 (omega arith))
all_within (suc (suc n)) part step begin len wide inside =
    let before : suc n * part ≤ suc n * step = mul-le-mul_left (suc n) (wide (omega arith)) in
    omega (arith, before, inside (suc n) (omega arith), suc-mul (suc n) part)

share_wide : (several : Bool) (piece : ℕ) → piece ≤ share_of several true piece
share_wide true piece = omega arith
share_wide false piece = omega arith

step_wide : (f : NcFile) (place : ℕ) (v : NcVar) → slice_get f.vars place ≡ Some v → is_record_var f.dims v ≡ true → var_piece_len f.dims v ≤ step_from f.dims f.vars
step_wide f place v there is =
    let several = has_several (is_record_var f.dims) f.vars in
    let share : NcVar → ℕ = λ w. share_of several (is_record_var f.dims w) (var_piece_len f.dims w) in
    let within = slice_get_within f.vars place v there in
    let same : get_or f.vars place v ≡ v = get_or_from_slice_get f.vars place v v there in
    let one : share (get_or f.vars place v) ≤ sum_by share f.vars = get_or-le-sum_by share f.vars place v within in
    let here : share v ≡ share_of several true (var_piece_len f.dims v) = ap (λ (b : Bool). share_of several b (var_piece_len f.dims v)) is in
    omega (arith, one, ap share same, here, share_wide several (var_piece_len f.dims v))

pub bytes_within : (b : List ℕ) (len : ℕ) (f : NcFile) (place : ℕ) (v : NcVar) → IsHeader b len f → slice_get f.vars place ≡ Some v → v.parts * v.part ≤ len
bytes_within b len f place v h there =
    let pieces = got (HasWholePieces len) f.vars place v (header_has_pieces b len f h) there in
    let placed = got (IsPlaced f) f.vars place v (header_is_placed b len f h) there in
    all_within v.parts v.part v.step v.begin len (wide f v placed (λ is. step_wide f place v there is) (is_record_var f.dims v) refl) pieces.inside
  where
    part_below : (parts part step piece total : ℕ) → 1 < parts → part ≡ part_of parts piece → step ≡ own_step parts total → piece ≤ total → part ≤ step
    part_below parts part step piece total several is_part is_step le =
        let none : (parts == 0) ≡ false = not_zero parts (λ e. absurd (omega (arith, e, several))) in
        let one : part_of parts piece ≡ piece = ap (λ (c : Bool). if c then 0 else piece) none in
        let own : own_step parts total ≡ total = ap (λ (c : Bool). if c then total else 0) (lt-ltb 1 parts several) in
        omega (arith, is_part, is_step, one, own, le)

    wide : (f : NcFile) (v : NcVar) → IsPlaced f v → (is_record_var f.dims v ≡ true → var_piece_len f.dims v ≤ step_from f.dims f.vars) → (b : Bool) → is_record_var f.dims v ≡ b → 1 < v.parts → v.part ≤ v.step
    wide f v placed step true is several = part_below v.parts v.part v.step (var_piece_len f.dims v) (step_from f.dims f.vars) several placed.part placed.step (step is)
    wide f v placed step false is several =
        let one : v.parts ≡ 1 = placed.parts ∙ ap (λ (c : Bool). piece_total f.records c) is in
        absurd (omega (arith, one, several))

count_bytes : (parts size count : ℕ) → parts * part_of parts (size * count) ≡ parts * count * size
count_bytes zero size count = omega arith
count_bytes (suc n) size count =
    let none : (suc n == 0) ≡ false = grind (arith, nat_tests) in
    ap (λ (c : Bool). suc n * (if c then 0 else size * count)) none ∙ ap (λ (k : ℕ). suc n * k) (mul_comm size count) ∙ sym (mul_assoc (suc n) count size)

-- the bytes of a variable are those of as many values as the product of its lengths says
pub bytes_are : (b : List ℕ) (len : ℕ) (f : NcFile) (place : ℕ) (v : NcVar) → IsHeader b len f → slice_get f.vars place ≡ Some v → v.parts * v.part ≡ product_of (whole_lens f.records (lens_of f.dims)) v.dims * size_of v.kind
unfolding piece_len
bytes_are b len f place v h there =
    let lens = lens_of f.dims in
    let placed = got (IsPlaced f) f.vars place v (header_is_placed b len f h) there in
    let sound = got (IsSoundVar (length f.dims)) f.vars place v (header_is_sound b len f h).vars there in
    let short = got (IsShortVar lens (length b)) f.vars place v (header_is_short b len (length b) f (omega arith) h).vars there in
    let count : length lens ≡ length f.dims = length-map f.dims (λ d. d.len) in
    let within : All (λ id. id < length lens) v.dims = subst (λ (n : ℕ). All (λ id. id < n) v.dims) (sym count) sound.ids in
    let product = product_pieces f.records lens v.dims within short.record_first in
    ap (λ (p : ℕ). v.parts * p) placed.part
    ∙ count_bytes v.parts (size_of v.kind) (piece_count lens v.dims)
    ∙ ap (λ (n : ℕ). n * piece_count lens v.dims * size_of v.kind) placed.parts
    ∙ ap (λ (n : ℕ). n * size_of v.kind) (sym product)

-- the lengths of the leading dimensions and those of the trailing ones
pub led_product : (records n_a : ℕ) (lens ids : List ℕ) (trailing : ℕ) → Trails records n_a lens ids trailing → product_of (whole_lens records lens) ids ≡ product_of (whole_lens records lens) (take (length ids - trailing) ids) * n_a
led_product records n_a lens ids trailing h =
    let k = length ids - trailing in
    ap (product_of (whole_lens records lens)) (sym (take-append-drop k ids))
    ∙ product_append (whole_lens records lens) (take k ids) (drop k ids)
    ∙ ap (λ (n : ℕ). product_of (whole_lens records lens) (take k ids) * n) h.product

-- What a variable that fits a map has.
pub record HasSlices (file : NcFile) (n_a : ℕ) (v : NcVar) (trailing : ℕ) : Type 0 where
  pub sources : 1 ≤ n_a
  pub within : trailing ≤ length v.dims
  pub short : v.parts * v.part ≤ 2147483647
  pub pieces : v.parts * v.part ≡ slices_of file (take (length v.dims - trailing) v.dims) * n_a * size_of v.kind

pub has_slices : (file : NcFile) (place n_a : ℕ) (v : NcVar) (trailing : ℕ) → IsFileHeader file → IsFieldPlace file place → slice_get file.vars place ≡ Some v → trailing_count n_a (lens_of file.dims) v.dims ≡ Some trailing → HasSlices file n_a v trailing
has_slices file place n_a v trailing h found there h_trailing =
    let lens = lens_of file.dims in
    let ok = field_place_ok file place found in
    let dims : dims_at file place ≡ v.dims = ap dims_of there in
    let last : 0 < last_len lens v.dims = subst (λ (ids : List ℕ). 0 < last_len lens ids) dims ok.last in
    let t = trails file.records n_a lens v.dims trailing last h_trailing in
    record {
      sources = t.sources;
      within = t.within;
      short = omega (arith, h.short, bytes_within h.front h.len file place v h.header there);
      pieces = bytes_are h.front h.len file place v h.header there ∙ ap (λ (n : ℕ). n * size_of v.kind) (led_product file.records n_a lens v.dims trailing t);
    }

-- as many slices as the values go into the sources
pub slices_are : (bytes size n_a slices : ℕ) → 0 < size → 1 ≤ n_a → bytes ≡ slices * n_a * size → bytes / size / n_a ≡ slices
slices_are bytes size n_a slices some_size some_source h =
    ap (λ (n : ℕ). n / size / n_a) h ∙ ap (λ (n : ℕ). n / n_a) (mul-div_cancel (slices * n_a) some_size) ∙ mul-div_cancel slices some_source

-- the answer for a variable that fits
pub fitted_is : (file : NcFile) (place n_a : ℕ) (v : NcVar) (trailing count slices : ℕ) → slice_get file.vars place ≡ Some v → trailing_count n_a (lens_of file.dims) v.dims ≡ Some trailing → count ≡ length v.dims → slices ≡ slices_of file (take (length v.dims - trailing) v.dims)
    → (let r : Result FieldVar NoFit = Ok (record { var = place; leading = count - trailing; slices = slices }) in r ≡ field_over file place n_a)
unfolding field_over
fitted_is file place n_a v trailing count slices there fits len is =
    let dims : dims_at file place ≡ v.dims = ap dims_of there in
    let trails : trailing_count n_a (lens_of file.dims) (dims_at file place) ≡ Some trailing = ap (trailing_count n_a (lens_of file.dims)) dims ∙ fits in
    let over : fitted file place (trailing_count n_a (lens_of file.dims) (dims_at file place)) ≡ Ok (led_by file place (length (dims_at file place) - trailing)) = ap (fitted file place) trails in
    let leading : count - trailing ≡ length (dims_at file place) - trailing = ap (λ (n : ℕ). n - trailing) (len ∙ ap length (sym dims)) in
    let here : slices ≡ slices_of file (take (length (dims_at file place) - trailing) (dims_at file place)) = is ∙ ap (λ (l : List ℕ). slices_of file (take (length l - trailing) l)) (sym dims) in
    ap₂ (λ (k n : ℕ). let r : Result FieldVar NoFit = Ok (record { var = place; leading = k; slices = n }) in r) leading here ∙ sym over

numbers_len : (kind : NcKind) (bytes : List ℕ) (count : ℕ) → length bytes ≡ count * size_of kind → length (numbers_in kind bytes) ≡ count
unfolding numbers_in
numbers_len kind bytes count h =
    length-map-range_with_len (λ k. number_in kind (drop (k * size_of kind) bytes)) 0 (length bytes / size_of kind)
    ∙ ap (λ n. n / size_of kind) h
    ∙ mul-div_cancel count (some_bytes kind)

-- how many values the variable has in each file with this header
pub values_are : (file : NcFile) (place count : ℕ) (v : NcVar) → slice_get file.vars place ≡ Some v → v.parts * v.part ≡ count * size_of v.kind → (bytes : List ℕ) → IsHeader bytes (length bytes) file → length (values_in file bytes place) ≡ count
values_are file place count v there pieces bytes h =
    let inside = has_pieces bytes file place v h there in
    ap (λ o. length (numbers_of_var bytes o)) there ∙ numbers_len v.kind (gathered v bytes) count (bytes_len v bytes inside ∙ pieces)

-- the same, by what was read of the header
pub record IsHere (file : NcFile) (n_a : ℕ) (v : NcVar) (trailing : ℕ) : Type 0 where
  pub count : trailing_count n_a (lens_of file.dims) v.dims ≡ Some trailing
  pub slices : HasSlices file n_a v trailing

pub is_here : (file : NcFile) (place n_a : ℕ) (v : NcVar) (trailing last before : ℕ) (dims : List DocDim) (ids : List ℕ) → IsFileHeader file → IsFieldPlace file place → (let o : Option NcVar = Some v in o ≡ slice_get file.vars place)
    → dims ≡ file.dims → ids ≡ v.dims → last ≡ last_len (lens_of dims) ids → before ≡ len_before_last (lens_of dims) ids → (let o : Option ℕ = Some trailing in o ≡ trailing_by n_a before last) → IsHere file n_a v trailing
is_here file place n_a v trailing last before dims ids h found there same_dims same_ids is_last is_before is =
    let count : trailing_count n_a (lens_of file.dims) v.dims ≡ Some trailing =
    ap₂ (λ (a : List DocDim) (b : List ℕ). trailing_count n_a (lens_of a) b) (sym same_dims) (sym same_ids) ∙ ap₂ (λ (a b : ℕ). trailing_by n_a a b) (sym is_before) (sym is_last) ∙ sym is in
    record { count = count; slices = has_slices file place n_a v trailing h found (sym there) count }
