use Rattle.std.proofs.Common.{ap, length, subst, sym, ◌∙◌}
use Rattle.nc_write.specs.File.{file_of}
use Rattle.nc_write.specs.Form.{IsWellFormed}
use Rattle.nc_write.specs.Made.{listed}
use Rattle.nc_write.proofs.Made.{listed_doc}
use Rattle.nc_write.proofs.writing.length_of.Goals as goal

pub returns : goal.returns
returns c =
    let doc = c.args.doc.now in
    record { len = c.length_of_made.ensures listed (subst IsWellFormed (sym (listed_doc doc)) c.requires) ∙ ap (λ d. length (file_of d)) (listed_doc doc) }
