use Rattle.std.proofs.Common.{◌≡◌, length, [], ◌-◌}
use Rattle.nc_format.specs.Parts.{items}
use Rattle.nc_format.specs.Grammar.{var}
use Rattle.nc_format.proofs.cursor.Cursor.some_vars.Given as goal

abbrev pub invariant-loop : goal.invariant-loop
invariant-loop l = record {
  bytes : l.self.bytes ≡ l.fn.self.bytes;
  version : l.self.version ≡ l.fn.self.version;
  few : length l.items.items ≡ l.counter;
  so_far : (items (λ _. var l.fn.self.version l.dims) (l.count - l.counter) l.items.items).read l.fn.self.bytes.now l.self.at ≡ (items (λ _. var l.fn.self.version l.dims) l.count []).read l.fn.self.bytes.now l.fn.self.at;
}
