use Rattle.std.proofs.Common.{ap, subst, sym}
use Rattle.nc_write.specs.File.{file_of}
use Rattle.nc_write.specs.Form.{IsWellFormed}
use Rattle.nc_write.proofs.Appending.{appends_same}
use Rattle.nc_write.proofs.Made.{listed_doc}
use Rattle.nc_write.proofs.writing.write_document.Goals as goal

pub write_made-requires : goal.write_made-requires
write_made-requires g c = subst IsWellFormed (sym (listed_doc c.args.doc.now)) c.requires

pub returns : goal.returns
returns g c = appends_same _ _ _ _ c.in_ok-write_made.ensures (ap file_of (listed_doc c.args.doc.now))
