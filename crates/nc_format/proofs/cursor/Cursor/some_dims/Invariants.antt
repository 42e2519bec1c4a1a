use Rattle.std.proofs.Common.{◌≡◌, length, [], ◌-◌}
use Rattle.std.specs.List.{list_any}
use Rattle.nc_format.specs.Parts.{items}
use Rattle.nc_format.specs.Grammar.{next_dim, is_record_dim}
use Rattle.nc_format.proofs.cursor.Cursor.some_dims.Given as goal

abbrev pub invariant-loop : goal.invariant-loop
invariant-loop l = record {
  bytes : l.self.bytes ≡ l.fn.self.bytes;
  version : l.self.version ≡ l.fn.self.version;
  few : length l.items.items ≡ l.counter;
  seen : l.seen ≡ list_any is_record_dim l.items.items;
  so_far : (items (next_dim l.fn.self.version) (l.count - l.counter) l.items.items).read l.fn.self.bytes.now l.self.at ≡ (items (next_dim l.fn.self.version) l.count []).read l.fn.self.bytes.now l.fn.self.at;
}
