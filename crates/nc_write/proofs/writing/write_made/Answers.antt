use Rattle.std.proofs.Common.{◌≡◌, ◌++◌, ℕ, List, sym, ap, arith, ◌∙◌}
use Rattle.nc_write.specs.File.{file_of, header, header_len, data_of}
use Rattle.nc_write.specs.Made.{made_doc}
use Rattle.nc_write.proofs.Appending.{appends_more}
use Rattle.nc_write.proofs.Made.{made_header, made_header_len, made_fixed_total, made_firsts, made_short}
use Rattle.nc_write.proofs.Places.{has_its_values, length_file_of, first_within}
use Rattle.nc_write.proofs.writing.write_made.Goals as goal

pub write_header-requires-clause-short : goal.write_header-requires-clause-short
write_header-requires-clause-short g c = made_short (g.M.MadeNumbers.numbers c.args.made.now) c.args.doc.now c.requires.short_lists

pub write_header-requires-clause-room : goal.write_header-requires-clause-room
write_header-requires-clause-room g c =
    let f = g.M.MadeNumbers.numbers c.args.made.now in
    let doc = c.args.doc.now in
    let m = made_doc f doc in
    omega (
      arith,
      length_file_of m (has_its_values m c.requires),
      first_within m,
      c.requires.file,
      made_header_len f doc,
      made_fixed_total f doc,
      made_firsts f doc,
    )

pub write_data-requires : goal.write_data-requires
write_data-requires g c =
    has_its_values (made_doc (g.M.MadeNumbers.numbers c.args.made.now) c.args.doc.now) c.requires

pub returns : goal.returns
unfolding file_of
returns g c =
    let f = g.M.MadeNumbers.numbers c.args.made.now in
    let doc = c.args.doc.now in
    let m = made_doc f doc in
    let front : header doc (header_len doc) ≡ header m (header_len m) = sym (made_header f doc (header_len doc)) ∙ ap (header m) (sym (made_header_len f doc)) in
    appends_more _ _ _ _ _ _ c.in_ok-write_header.ensures c.in_ok-write_data.ensures (ap (λ (bytes : List ℕ). bytes ++ data_of m) front)
