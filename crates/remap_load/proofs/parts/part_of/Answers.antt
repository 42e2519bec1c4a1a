use Rattle.std.proofs.Common.{◌≡◌, ◌∙◌, ◌+◌, ◌*◌, ◌++◌, length, ap, arith, slice_range}
use Rattle.nc_write.specs.Kinds.{size_of}
use Rattle.nc_format.specs.Numbers.{numbers_in, gathered}
use Rattle.remap_load.specs.Heads.{IsHeadOfBytes}
use Rattle.remap_load.proofs.Fronts.{on_file}
use Rattle.remap_load.proofs.PartValues.{part_read, length_part}
use Rattle.remap_load.proofs.parts.part_of.Goals as goal

pub returns-clause-values : goal.returns-clause-values
returns-clause-values g c =
    let v = c.args.var.now in
    let from = c.args.from in
    let count = c.args.count in
    let size = c.size_of-size.result in
    let old = c.in_ok-bytes.bytes.items in
    let new = c.put_piece.new.bytes.items in
    let numbers = g.N.Numbers.numbers c.in_ok-spelled.field-0 in
    let spelled : numbers ≡ numbers_in v.kind new = c.in_ok-spelled.ensures ∙ ap (numbers_in v.kind) c.deref.ensures.value in
    on_file (g.F.Files.seen c.args.files.now).folder c.args.name.now (IsHeadOfBytes c.args.head.now) (λ all. new ≡ old ++ slice_range all (v.begin + from * size) (v.begin + from * size + count * size))
    (λ all. numbers ≡ slice_range (numbers_in v.kind (gathered v all)) from (from + count))
    (λ all h read. spelled ∙ part_read v all from count size c.args.head.now.len old new c.requires.one c.requires.inside c.requires.pieces.inside h.len c.size_of-size.ensures.is c.in_ok-bytes.ensures.items read)
    c.requires.of_file c.in_ok-put_piece.ensures.piece

pub returns-clause-len : goal.returns-clause-len
returns-clause-len g c =
    let v = c.args.var.now in
    let none : length c.in_ok-bytes.bytes.items ≡ 0 = ap length c.in_ok-bytes.ensures.items in
    let wide : c.args.count * c.size_of-size.result ≡ c.args.count * size_of v.kind = ap (λ s. c.args.count * s) c.size_of-size.ensures.is in
    let long : length c.deref.result.now ≡ c.args.count * size_of v.kind = ap length c.deref.ensures.value ∙ omega (arith, c.in_ok-put_piece.ensures.len, none, wide) in
    ap length c.in_ok-spelled.ensures ∙ length_part v c.args.count c.deref.result.now long
