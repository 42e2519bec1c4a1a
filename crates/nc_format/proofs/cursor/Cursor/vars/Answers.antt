use Rattle.std.proofs.Common.{◌≡◌, Ok}
use Rattle.nc_format.specs.declared.fault.NcFault.TheVariants.{NoMemory}
use Rattle.nc_format.specs.Grammar.{tag, count, var, var_list}
use Rattle.nc_write.specs.Widths.{variable_tag}
use Rattle.nc_format.proofs.Answered.{value_is}
use Rattle.nc_format.proofs.Loop.{listed_from}
use Rattle.nc_format.proofs.cursor.Cursor.vars.Goals as goal

pub returns-clause-read : goal.returns-clause-read
unfolding var_list
returns-clause-read c =
    let v : c.count.new.self.version ≡ c.args.self.now.version = cc in
    let b : c.count.new.self.bytes ≡ c.args.self.now.bytes = cc in
    let t : (tag variable_tag).read c.args.self.now.bytes.now c.args.self.now.at ≡ Ok (c.in_ok-tag.tag, c.tag.new.self.at) = value_is c.in_ok-tag.tag (c.in_ok-tag.tag, c.tag.new.self.at) NoMemory _ c.in_ok-tag.ensures.read in
    let n : (count c.args.self.now.version variable_tag c.in_ok-tag.tag).read c.args.self.now.bytes.now c.tag.new.self.at ≡ Ok (c.in_ok-count.count, c.count.new.self.at) = rw (← c.tag.ensures.version, ← c.tag.ensures.bytes) (value_is c.in_ok-count.count (c.in_ok-count.count, c.count.new.self.at) NoMemory _ c.in_ok-count.ensures.read) in
    rw (listed_from _ _ (λ _. var c.args.self.now.version c.args.dims.now) _ _ _ _ _ _ t n, ← v, ← b) c.some_vars.ensures.read
