use Rattle.std.proofs.Common.{◌≡◌, ◌-◌, ◌*◌, ◌++◌, ℕ, Bool, true, length, replicate, slice_range, rules, sym, ap, ◌∙◌}
use Rattle.nc_write.specs.Kinds.{size_of}
use Rattle.nc_write.specs.Extents.{pad_len}
use Rattle.nc_write.specs.File.{kind_of, numbers_of, value_bytes, padded_if}
use Rattle.nc_write.specs.Made.{made_values}
use Rattle.nc_write.proofs.Appending.{appends_more, length_range}
use Rattle.nc_write.proofs.Places.{length_value_bytes}
use Rattle.nc_write.proofs.data.write_piece.Goals as goal

pub returns : goal.returns
returns g c =
    let f = g.M.MadeNumbers.numbers c.args.made.now in
    let values = made_values f c.args.values.now in
    let kind = kind_of values in
    let zs = slice_range (numbers_of values) c.args.from c.args.to in
    let bytes = value_bytes kind zs in
    let len : length bytes ≡ size_of kind * (c.args.to - c.args.from) =
    length_value_bytes kind zs ∙ ap (λ (n : ℕ). size_of kind * n) (length_range (numbers_of values) c.args.from c.args.to c.requires.within) in
    let missing : pad_len c.odd_bytes.result ≡ pad_len (length bytes) = c.odd_bytes.ensures f ∙ sym (ap (λ (n : ℕ). pad_len n) len) in
    let wanted : c.args.is_padded ≡ true = search rules in
    appends_more _ _ _ _ _ _ c.in_ok-write_values.ensures c.in_ok-write_padding.ensures
    (ap (λ (n : ℕ). bytes ++ replicate n 0x81) missing ∙ ap (λ (b : Bool). padded_if b bytes) (sym wanted))
