use Rattle.std.proofs.Common.{◌≡◌, length, [], ◌-◌}
use Rattle.nc_format.specs.Parts.{items}
use Rattle.nc_format.specs.Grammar.{next_id}
use Rattle.nc_format.proofs.cursor.Cursor.some_ids.Given as goal

abbrev pub invariant-loop-place : goal.invariant-loop-place
invariant-loop-place l = record {
  bytes : l.self.bytes ≡ l.fn.self.bytes;
  version : l.self.version ≡ l.fn.self.version;
  few : length l.items.items ≡ l.place;
  so_far : (items (next_id l.fn.self.version l.dims) (l.count - l.place) l.items.items).read l.fn.self.bytes.now l.self.at ≡ (items (next_id l.fn.self.version l.dims) l.count []).read l.fn.self.bytes.now l.fn.self.at;
}
