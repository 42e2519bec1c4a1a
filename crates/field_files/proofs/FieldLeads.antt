-- What a variable that fits a map brings into a field file.
use Rattle.std.proofs.Common.{◌≡◌, ◌≢◌, ℕ, zero, suc, ◌+◌, ◌-◌, ◌*◌, ◌<◌, ◌≤◌, ◌^◌, List, [], ◌∷◌, length, take, drop, All, Option, Some, None, Ok, slice_index, refl, ap, sym, subst, ◌∙◌, arith}
use Rattle.std.proofs.Math.Nat.{mul-le-mul_left}
use Rattle.std.proofs.lemmas.List.{length-take, length-map}
use Rattle.std.proofs.lemmas.List.Elements.{All-nil, All-take, All-weaker}
use Rattle.nc_write.specs.declared.DocDim.{DocDim}
use Rattle.nc_write.specs.Kinds.{size_of}
use Rattle.nc_write.specs.Extents.{lens_of}
use Rattle.nc_format.specs.declared.NcFile.{NcFile}
use Rattle.nc_format.specs.Sound.{IsSoundVar}
use Rattle.nc_format.proofs.SoundParts.{header_is_sound}
use Rattle.exodus_mesh.proofs.VarValues.{got}
use Rattle.field_files.specs.declared.FieldVar.{FieldVar}
use Rattle.field_files.specs.FileHeader.{IsFileHeader, dims_of, dims_at}
use Rattle.field_files.specs.FieldShapes.{trailing_count, slices_of, led_by, fitted, field_over, Fits}
use Rattle.field_files.specs.FieldDocument.{leading_ids, name_of_var, field_name}
use Rattle.field_files.proofs.SomeBytes.{some_bytes}
use Rattle.field_files.proofs.ShortHeaders.{IsShortDim, IsShortVar, header_is_short}
use Rattle.field_files.proofs.FoundFields.{field_place_ok}
use Rattle.field_files.proofs.FieldValues.{has_slices, trails}
use Rattle.field_files.proofs.FieldFrames.{IsLed}

-- how many dimensions trail
pub record HasTrailing (file : NcFile) (n_a : ℕ) (field : FieldVar) : Type 0 where
  pub trailing : ℕ
  pub count : trailing_count n_a (lens_of file.dims) (dims_at file field.var) ≡ Some trailing
  pub leading : field.leading ≡ length (dims_at file field.var) - trailing
  pub slices : field.slices ≡ slices_of file (take (length (dims_at file field.var) - trailing) (dims_at file field.var))

over_ok : (file : NcFile) (n_a : ℕ) (field : FieldVar) (o : Option ℕ) → trailing_count n_a (lens_of file.dims) (dims_at file field.var) ≡ o → fitted file field.var o ≡ Ok field → HasTrailing file n_a field
over_ok file n_a field None is h = absurd cc
over_ok file n_a field (Some trailing) is h =
    let same : led_by file field.var (length (dims_at file field.var) - trailing) ≡ field = cc in
    record { trailing = trailing; count = is; leading = ap (λ (x : FieldVar). x.leading) (sym same); slices = ap (λ (x : FieldVar). x.slices) (sym same) }

has_trailing : (file : NcFile) (n_a : ℕ) (field : FieldVar) → field_over file field.var n_a ≡ Ok field → HasTrailing file n_a field
unfolding field_over
has_trailing file n_a field h = over_ok file n_a field (trailing_count n_a (lens_of file.dims) (dims_at file field.var)) refl h

first_taken : (P : ℕ → Type 0) (n : ℕ) (ids : List ℕ) → All P (drop 1 ids) → All P (drop 1 (take n ids))
first_taken P zero ids all = All-nil P
first_taken P (suc n) [] all = All-nil P
first_taken P (suc n) (id ∷ ids) all = All-take P n ids all

slices_within : (slices n_a size bytes : ℕ) → 1 ≤ n_a → 1 ≤ size → bytes ≡ slices * n_a * size → slices ≤ bytes
slices_within slices n_a size bytes some_source some_size h =
    let once : slices * 1 ≤ slices * n_a = mul-le-mul_left slices some_source in
    let twice : slices * n_a * 1 ≤ slices * n_a * size = mul-le-mul_left (slices * n_a) some_size in
    omega (arith, once, twice, h)

-- the leading dimensions of a variable that fits a map
pub record HasLeading (file : NcFile) (field : FieldVar) : Type 0 where
  pub within_var : field.leading + 1 ≤ length (dims_at file field.var)
  pub within : All (λ id. id < length file.dims) (leading_ids file field)
  pub record_first : All (λ id. slice_index (lens_of file.dims) id ≢ 0) (drop 1 (leading_ids file field))
  pub few : length (leading_ids file field) + 1 < 2 ^ 31
  pub product : slices_of file (leading_ids file field) ≡ field.slices
  pub few_slices : field.slices ≤ 2147483647
  pub dims : All (IsShortDim 2147483639) file.dims
  pub name : length (field_name file field) + 5 < 2 ^ 31

pub has_leading : (file : NcFile) (n_a : ℕ) (field : FieldVar) → IsFileHeader file → Fits file n_a field → HasLeading file field
has_leading file n_a field h fits =
    let lens = lens_of file.dims in
    let place = field.var in
    let ok = field_place_ok file place fits.place in
    let v = ok.var in
    let dims : dims_at file place ≡ v.dims = ap dims_of ok.there in
    let t = has_trailing file n_a field fits.over in
    let tr = trails file.records n_a lens (dims_at file place) t.trailing ok.last t.count in
    let sound = got (IsSoundVar (length file.dims)) file.vars place v (header_is_sound h.front h.len file h.header).vars ok.there in
    let all_short = header_is_short h.front h.len 2147483639 file (omega (arith, h.within, h.short)) h.header in
    let short = got (IsShortVar lens 2147483639) file.vars place v all_short.vars ok.there in
    let count : trailing_count n_a lens v.dims ≡ Some t.trailing = ap (trailing_count n_a lens) (sym dims) ∙ t.count in
    let has = has_slices file place n_a v t.trailing h fits.place ok.there count in
    let taken : leading_ids file field ≡ take (length (dims_at file place) - t.trailing) (dims_at file place) = ap (λ (n : ℕ). take n (dims_at file place)) t.leading in
    let slices : field.slices ≡ slices_of file (take (length v.dims - t.trailing) v.dims) = t.slices ∙ ap (λ (ids : List ℕ). slices_of file (take (length ids - t.trailing) ids)) dims in
    let pieces : v.parts * v.part ≡ field.slices * n_a * size_of v.kind = has.pieces ∙ ap (λ (n : ℕ). n * n_a * size_of v.kind) (sym slices) in
    let same_name : field_name file field ≡ v.name = ap name_of_var ok.there in
    let few : length (dims_at file place) ≤ 2147483639 = omega (arith, ap length dims, short.ids) in
    record {
      within_var = omega (arith, t.leading, tr.some, tr.within);
      within = All-take (λ (id : ℕ). id < length file.dims) field.leading (dims_at file place) (subst (All (λ (id : ℕ). id < length file.dims)) (sym dims) sound.ids);
      record_first = first_taken (λ (id : ℕ). slice_index lens id ≢ 0) field.leading (dims_at file place) (subst (λ (ids : List ℕ). All (λ (id : ℕ). slice_index lens id ≢ 0) (drop 1 ids)) (sym dims) short.record_first);
      few = omega (arith, few, length-take field.leading (dims_at file place));
      product = ap (slices_of file) taken ∙ sym t.slices;
      few_slices = omega (arith, has.short, slices_within field.slices n_a (size_of v.kind) (v.parts * v.part) has.sources (some_bytes v.kind) pieces);
      dims = all_short.dims;
      name = omega (arith, ap length same_name, short.name);
    }

pub is_led : (file : NcFile) (field : FieldVar) (n_b : ℕ) → 1 ≤ n_b → n_b ≤ 1048576 → HasLeading file field → IsLed file (leading_ids file field) field.slices n_b
is_led file field n_b least most h = record {
  within = All-weaker (λ (id : ℕ). id < length file.dims) (λ (id : ℕ). id < length (lens_of file.dims)) (λ id lt. omega (arith, lt, length-map file.dims (λ (d : DocDim). d.len))) (leading_ids file field) h.within;
  record_first = h.record_first;
  product = h.product;
  few_slices = h.few_slices;
  few = h.few;
  dim_names = All-weaker (IsShortDim 2147483639) (λ (d : DocDim). length d.name < 2 ^ 31) (λ d s. omega (arith, s.name)) file.dims h.dims;
  dim_lens = All-weaker (IsShortDim 2147483639) (λ (d : DocDim). d.len ≤ 4294967295) (λ d s. s.len) file.dims h.dims;
  least_target = least;
  most_targets = most;
}
