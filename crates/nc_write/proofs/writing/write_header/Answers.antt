use Rattle.std.proofs.Common.{◌≡◌, ◌++◌, ℕ, List, arith, ap, ◌∙◌}
use Rattle.nc_write.specs.File.{header, header_len}
use Rattle.nc_write.proofs.Appending.{appends_same}
use Rattle.nc_write.proofs.writing.write_header.Goals as goal

pub put_header-requires-clause-room : goal.put_header-requires-clause-room
put_header-requires-clause-room g c = omega (arith, c.header_len.ensures, c.requires.room)

pub returns : goal.returns
returns g c =
    let doc = c.args.doc.now in
    let begin : c.header_len.result ≡ header_len doc = omega (arith, c.header_len.ensures, c.requires.room) in
    appends_same _ _ _ _ c.in_ok-write_all.ensures.bytes
    (c.deref.ensures.value ∙ c.in_ok-put_header.ensures ∙ ap (λ (front : List ℕ). front ++ header doc c.header_len.result) c.clear.ensures.items ∙ ap (header doc) begin)
