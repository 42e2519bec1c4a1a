-- The documents of the tests are well formed.
use Rattle.std.proofs.Common.{◌≡◌, ◌≢◌, ◌<◌, ◌≤◌, ◌^◌, ◌==◌, ℕ, [], All, length, drop, slice_index, refl, arith, rules}
use Rattle.std.specs.List.{AllByRecursion, count_by}
use Rattle.std.proofs.lemmas.List.Elements.{All-from_recursion, All-weaker}
use Rattle.nc_write.specs.declared.NcDoc.{NcDoc}
use Rattle.nc_write.specs.declared.DocDim.{DocDim}
use Rattle.nc_write.specs.declared.DocAtt.{DocAtt}
use Rattle.nc_write.specs.declared.DocVar.{DocVar}
use Rattle.nc_write.specs.Kinds.{value}
use Rattle.nc_write.specs.Widths.{width, begin_width, number_bytes, offset, code}
use Rattle.nc_write.specs.Extents.{lens_of, has_several, piece_len, product_of, has_records, piece_count}
use Rattle.nc_write.specs.File.{version_of, name_bytes, tagged, dimension, attribute, vsize, shape, variable, header, header_len, fixed_data, record_data, record_of, data_of, file_of, numbers_of}
use Rattle.nc_write.specs.Form.{IsWellFormed, full_lens}
use Rattle.file_rows.specs.Samples.{one_record_variable, two_record_variables, smallest_cubed_sphere, no_pieces, without_records}

-- the rules by recursion over the lists of a document
record Rules (doc : NcDoc) : Type 0 where
  lens : AllByRecursion (λ d. d.len ≤ 4294967295) doc.dims
  ids : AllByRecursion (λ v. AllByRecursion (λ id. id < length doc.dims) v.dims) doc.vars
  record_dim_first : AllByRecursion (λ v. AllByRecursion (λ id. slice_index (lens_of doc.dims) id ≢ 0) (drop 1 v.dims)) doc.vars
  values : AllByRecursion (λ v. length (numbers_of v.values) ≡ product_of (full_lens doc) v.dims) doc.vars
  dim_names : AllByRecursion (λ d. length d.name < 2 ^ 31) doc.dims
  att_names : AllByRecursion (λ a. length a.name < 2 ^ 31) doc.atts
  var_names : AllByRecursion (λ v. length v.name < 2 ^ 31) doc.vars
  id_lists : AllByRecursion (λ v. length v.dims < 2 ^ 31) doc.vars
  few_dims : length doc.dims < 2 ^ 31
  few_atts : length doc.atts < 2 ^ 31
  few_vars : length doc.vars < 2 ^ 31
  one_record_dim : count_by (λ d. d.len == 0) doc.dims ≤ 1
  records : doc.records < 4294967295
  no_records : All (λ d. d.len ≢ 0) doc.dims → doc.records ≡ 0

well_formed : (doc : NcDoc) (n : ℕ) → Rules doc → length (file_of doc) ≡ n → n < 2 ^ 63 → IsWellFormed doc
well_formed doc n r len short = record {
  lens = All-from_recursion (λ (d : DocDim). d.len ≤ 4294967295) doc.dims r.lens;
  one_record_dim = r.one_record_dim;
  ids = All-weaker (λ (v : DocVar). AllByRecursion (λ id. id < length doc.dims) v.dims) (λ (v : DocVar). All (λ id. id < length doc.dims) v.dims) (λ v h. All-from_recursion (λ (id : ℕ). id < length doc.dims) v.dims h) doc.vars
      (All-from_recursion (λ (v : DocVar). AllByRecursion (λ id. id < length doc.dims) v.dims) doc.vars r.ids);
  record_dim_first = All-weaker (λ (v : DocVar). AllByRecursion (λ id. slice_index (lens_of doc.dims) id ≢ 0) (drop 1 v.dims)) (λ (v : DocVar). All (λ id. slice_index (lens_of doc.dims) id ≢ 0) (drop 1 v.dims)) (λ v h. All-from_recursion (λ (id : ℕ). slice_index (lens_of doc.dims) id ≢ 0) (drop 1 v.dims) h) doc.vars
      (All-from_recursion (λ (v : DocVar). AllByRecursion (λ id. slice_index (lens_of doc.dims) id ≢ 0) (drop 1 v.dims)) doc.vars r.record_dim_first);
  values = All-from_recursion (λ (v : DocVar). length (numbers_of v.values) ≡ product_of (full_lens doc) v.dims) doc.vars r.values;
  records = r.records;
  no_records = r.no_records;
  short_lists = record {
    dims = r.few_dims;
    dim_names = All-from_recursion (λ (d : DocDim). length d.name < 2 ^ 31) doc.dims r.dim_names;
    atts = r.few_atts;
    att_names = All-from_recursion (λ (a : DocAtt). length a.name < 2 ^ 31) doc.atts r.att_names;
    vars = r.few_vars;
    var_names = All-from_recursion (λ (v : DocVar). length v.name < 2 ^ 31) doc.vars r.var_names;
    ids = All-from_recursion (λ (v : DocVar). length v.dims < 2 ^ 31) doc.vars r.id_lists;
  };
  file = omega (arith, len);
}

one_length : length (file_of one_record_variable) ≡ 109
unfolding one_record_variable value width begin_width number_bytes offset code product_of has_records piece_count version_of has_several piece_len name_bytes tagged dimension attribute vsize shape variable header header_len fixed_data record_data record_of data_of file_of
one_length = refl

one_rules : Rules one_record_variable
unfolding one_record_variable product_of
one_rules = record {
  lens = search rules;
  ids = search rules;
  record_dim_first = search rules;
  values = search rules;
  dim_names = search rules;
  att_names = search rules;
  var_names = search rules;
  id_lists = search rules;
  few_dims = omega arith;
  few_atts = omega arith;
  few_vars = omega arith;
  one_record_dim = omega arith;
  records = omega arith;
  no_records = λ h. absurd (h 0 (record { name = []; len = 1 }) (omega arith) refl);
}

pub one_form : IsWellFormed one_record_variable
one_form = well_formed one_record_variable 109 one_rules one_length (omega arith)

two_length : length (file_of two_record_variables) ≡ 168
unfolding two_record_variables value width begin_width number_bytes offset code product_of has_records piece_count version_of has_several piece_len name_bytes tagged dimension attribute vsize shape variable header header_len fixed_data record_data record_of data_of file_of
two_length = refl

two_rules : Rules two_record_variables
unfolding two_record_variables product_of
two_rules = record {
  lens = search rules;
  ids = search rules;
  record_dim_first = search rules;
  values = search rules;
  dim_names = search rules;
  att_names = search rules;
  var_names = search rules;
  id_lists = search rules;
  few_dims = omega arith;
  few_atts = omega arith;
  few_vars = omega arith;
  one_record_dim = omega arith;
  records = omega arith;
  no_records = λ h. absurd (h 0 (record { name = []; len = 1 }) (omega arith) refl);
}

pub two_form : IsWellFormed two_record_variables
two_form = well_formed two_record_variables 168 two_rules two_length (omega arith)

mesh_length : length (file_of smallest_cubed_sphere) ≡ 440
unfolding smallest_cubed_sphere value width begin_width number_bytes offset code product_of has_records piece_count version_of has_several piece_len name_bytes tagged dimension attribute vsize shape variable header header_len fixed_data record_data record_of data_of file_of
mesh_length = refl

mesh_rules : Rules smallest_cubed_sphere
unfolding smallest_cubed_sphere product_of
mesh_rules = record {
  lens = search rules;
  ids = search rules;
  record_dim_first = search rules;
  values = search rules;
  dim_names = search rules;
  att_names = search rules;
  var_names = search rules;
  id_lists = search rules;
  few_dims = omega arith;
  few_atts = omega arith;
  few_vars = omega arith;
  one_record_dim = omega arith;
  records = omega arith;
  no_records = λ _. refl;
}

pub mesh_form : IsWellFormed smallest_cubed_sphere
mesh_form = well_formed smallest_cubed_sphere 440 mesh_rules mesh_length (omega arith)

none_length : length (file_of no_pieces) ≡ 104
unfolding no_pieces value width begin_width number_bytes offset code product_of has_records piece_count version_of has_several piece_len name_bytes tagged dimension attribute vsize shape variable header header_len fixed_data record_data record_of data_of file_of
none_length = refl

none_rules : Rules no_pieces
unfolding no_pieces product_of
none_rules = record {
  lens = search rules;
  ids = search rules;
  record_dim_first = search rules;
  values = search rules;
  dim_names = search rules;
  att_names = search rules;
  var_names = search rules;
  id_lists = search rules;
  few_dims = omega arith;
  few_atts = omega arith;
  few_vars = omega arith;
  one_record_dim = omega arith;
  records = omega arith;
  no_records = λ _. refl;
}

pub none_form : IsWellFormed no_pieces
none_form = well_formed no_pieces 104 none_rules none_length (omega arith)

long_length : length (file_of without_records) ≡ 268
unfolding without_records value width begin_width number_bytes offset code product_of has_records piece_count version_of has_several piece_len name_bytes tagged dimension attribute vsize shape variable header header_len fixed_data record_data record_of data_of file_of
long_length = refl

long_rules : Rules without_records
unfolding without_records product_of
long_rules = record {
  lens = search rules;
  ids = search rules;
  record_dim_first = search rules;
  values = search rules;
  dim_names = search rules;
  att_names = search rules;
  var_names = search rules;
  id_lists = search rules;
  few_dims = omega arith;
  few_atts = omega arith;
  few_vars = omega arith;
  one_record_dim = omega arith;
  records = omega arith;
  no_records = λ _. refl;
}

pub long_form : IsWellFormed without_records
long_form = well_formed without_records 268 long_rules long_length (omega arith)
