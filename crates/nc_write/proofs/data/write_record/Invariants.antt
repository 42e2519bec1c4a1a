use Rattle.std.proofs.Common.{take}
use Rattle.std.specs.Io.KnownBytes.{Appends}
use Rattle.std.specs.List.{flat_map}
use Rattle.nc_write.specs.File.{record_data}
use Rattle.nc_write.specs.Made.{made_var, made_doc}
use Rattle.nc_write.proofs.data.write_record.Given as goal

abbrev pub invariant-loop-var : goal.invariant-loop-var
invariant-loop-var g l = Appends (g.W.Write.contents l.fn.out) (g.W.Write.contents l.out) (flat_map (λ v. record_data (made_doc (g.M.MadeNumbers.numbers l.made) l.doc) l.r (made_var (g.M.MadeNumbers.numbers l.made) v)) (take l.var-index l.doc.vars))
