use Rattle.std.proofs.Common.{◌≡◌, ◌<◌, ◌/◌, ℕ, List, [], Bool, true, false, if◌then◌else◌, rules, arith, sym, ap, ◌∙◌}
use Rattle.nc_write.specs.Extents.{lens_of, piece_count}
use Rattle.nc_write.specs.File.{kind_of, numbers_of, value_bytes, padded_if, record_data, record_numbers, is_record, pads_records}
use Rattle.nc_write.specs.Made.{made_var, made_doc}
use Rattle.nc_write.proofs.Appending.{appends_none, appends_same, values_record}
use Rattle.nc_write.proofs.Records.{values_of_record}
use Rattle.nc_write.proofs.data.write_record_part.Goals as goal

pub returns-then-not-is_record_var : goal.returns-then-not-is_record_var
unfolding record_data
returns-then-not-is_record_var g c =
    let f = g.M.MadeNumbers.numbers c.args.made.now in
    let doc = made_doc f c.args.doc.now in
    let v = made_var f c.args.var.now in
    let not : is_record doc v ≡ false = search rules in
    appends_none _ _ (ap (λ (b : Bool). if b then padded_if (pads_records doc) (value_bytes (kind_of v.values) (record_numbers doc c.args.r v)) else []) not)

pub returns : goal.returns
unfolding record_data
returns g c =
    let f = g.M.MadeNumbers.numbers c.args.made.now in
    let doc = made_doc f c.args.doc.now in
    let v = made_var f c.args.var.now in
    let r = c.args.r in
    let is : is_record doc v ≡ true = search rules in
    let some : 0 < doc.records = omega (arith, c.requires.record) in
    let many : c.values_len.result / doc.records ≡ piece_count (lens_of doc.dims) v.dims = ap (λ (n : ℕ). n / doc.records) c.values_len.ensures ∙ values_of_record doc v is some c.requires.values in
    let bytes = value_bytes (kind_of v.values) (record_numbers doc r v) in
    appends_same _ _ _ _ c.in_ok-write_piece.ensures
    (ap (λ (bs : List ℕ). padded_if c.args.several bs) (values_record (kind_of v.values) (numbers_of v.values) r (c.values_len.result / doc.records) (piece_count (lens_of doc.dims) v.dims) many)
    ∙ ap (λ (b : Bool). padded_if b bytes) c.requires.several
    ∙ sym (ap (λ (b : Bool). if b then padded_if (pads_records doc) bytes else []) is))
