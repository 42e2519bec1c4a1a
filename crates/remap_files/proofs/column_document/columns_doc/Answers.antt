use Rattle.std.proofs.Common.{subst, sym}
use Rattle.nc_write.specs.Form.{IsWellFormed}
use Rattle.remap_files.proofs.OverlapLength.{overlap_document_form}
use Rattle.remap_files.proofs.column_document.columns_doc.Goals as goal

pub returns-clause-well_formed : goal.returns-clause-well_formed
returns-clause-well_formed c =
    let held = c.requires.held in
    subst IsWellFormed (sym (c.in_ok-doc.ensures held.0 held.1)) (overlap_document_form held.0 held.1.sound)
