use Rattle.std.proofs.Common.{◌≡◌, ◌∙◌, ap, sym, subst, length, Ok}
use Rattle.nc_write.specs.File.{file_of}
use Rattle.nc_write.specs.Form.{IsWellFormed}
use Rattle.nc_write.specs.declared.NcDoc.{NcDoc}
use Rattle.nc_format.specs.declared.NcFile.{NcFile}
use Rattle.nc_format.specs.Header.{IsHeader}
use Rattle.map_files.specs.MapIn.{map_in}
use Rattle.map_files.proofs.MapAgain.{map_again}
use Rattle.map_files.proofs.MapLength.{length_map_file, map_document_form}
use Rattle.map_files.proofs.document.map_doc.Goals as goal

pub returns-clause-well_formed : goal.returns-clause-well_formed
returns-clause-well_formed c = subst IsWellFormed (sym c.in_ok-doc.ensures.document) (map_document_form c.args.map.now c.make_document.ensures.kept)

pub returns-clause-file_length : goal.returns-clause-file_length
returns-clause-file_length c = ap (λ doc. length (file_of doc)) c.in_ok-doc.ensures.document ∙ length_map_file c.args.map.now c.make_document.ensures.kept

pub returns-clause-read_again : goal.returns-clause-read_again
returns-clause-read_again c =
    let m = c.args.map.now in
    subst (λ (doc : NcDoc). (f : NcFile) → IsHeader (file_of doc) (length (file_of doc)) f → map_in f (file_of doc) ≡ Ok m) (sym c.in_ok-doc.ensures.document)
    (λ f h. map_again m f c.make_document.ensures.kept h)
