use Rattle.std.proofs.Common.{◌≡◌, ℕ, List, [], Bool, true, false, slice_range, if◌then◌else◌, rules, sym, ap, ◌∙◌}
use Rattle.nc_write.specs.File.{kind_of, numbers_of, value_bytes, padded_bytes, fixed_data, is_record}
use Rattle.nc_write.specs.Made.{made_var, made_doc}
use Rattle.nc_write.proofs.Appending.{appends_none, appends_same, values_whole}
use Rattle.nc_write.proofs.data.write_fixed.Goals as goal

pub returns-then-is_record_var : goal.returns-then-is_record_var
unfolding fixed_data
returns-then-is_record_var g c =
    let f = g.M.MadeNumbers.numbers c.args.made.now in
    let v = made_var f c.args.var.now in
    let is : is_record (made_doc f c.args.doc.now) v ≡ true = search rules in
    appends_none _ _ (ap (λ (b : Bool). if b then [] else padded_bytes 0x81 (value_bytes (kind_of v.values) (numbers_of v.values))) is)

pub returns : goal.returns
unfolding fixed_data
returns g c =
    let f = g.M.MadeNumbers.numbers c.args.made.now in
    let v = made_var f c.args.var.now in
    let not : is_record (made_doc f c.args.doc.now) v ≡ false = search rules in
    appends_same _ _ (padded_bytes 0x81 (value_bytes (kind_of v.values) (slice_range (numbers_of v.values) 0 c.values_len-count.result))) _ c.in_ok-write_piece.ensures
    (ap (λ (bytes : List ℕ). padded_bytes 0x81 bytes) (values_whole (kind_of v.values) (numbers_of v.values) c.values_len-count.result c.values_len-count.ensures)
    ∙ sym (ap (λ (b : Bool). if b then [] else padded_bytes 0x81 (value_bytes (kind_of v.values) (numbers_of v.values))) not))
