use Rattle.std.proofs.Common.{◌≡◌, ◌*◌, ℕ, arith, ap}
use Rattle.nc_write.specs.File.{doc_step}
use Rattle.nc_write.specs.Made.{made_doc}
use Rattle.nc_write.proofs.Made.{made_header_len, made_fixed_total, made_step}
use Rattle.nc_write.proofs.Places.{has_its_values, length_file_of}
use Rattle.nc_write.proofs.writing.length_of_made.Goals as goal

pub returns : goal.returns
returns c = λ f formed.
    let doc = c.args.doc.now in
    let m = made_doc f doc in
    let steps : doc.records * doc_step m ≡ doc.records * doc_step doc = ap (λ (n : ℕ). doc.records * n) (made_step f doc) in
    omega (
      arith,
      length_file_of m (has_its_values m formed),
      formed.file,
      made_header_len f doc,
      made_fixed_total f doc,
      steps,
      c.header_len.ensures,
      c.data_len.ensures,
      c.plus.ensures,
    )
