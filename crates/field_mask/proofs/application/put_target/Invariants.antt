use Rattle.std.proofs.Common.{◌+◌}
use Rattle.map_rows.specs.Places.{IsPut}
use Rattle.field_mask.specs.Masked.{masked_whole, masked_rest, masked_part}
use Rattle.field_mask.specs.Present.{masked_number}
use Rattle.field_mask.proofs.application.put_target.Given as goal

abbrev pub invariant-loop-slice : goal.invariant-loop-slice
invariant-loop-slice l = record {
  whole : IsPut l.map.n_b (masked_number masked_whole l.map l.fill l.values) l.fn.block.from l.slice l.j (l.j + 1) l.fn.columns.whole.items l.columns.whole.items;
  rest : IsPut l.map.n_b (masked_number masked_rest l.map l.fill l.values) l.fn.block.from l.slice l.j (l.j + 1) l.fn.columns.rest.items l.columns.rest.items;
  part : IsPut l.map.n_b (masked_number masked_part l.map l.fill l.values) l.fn.block.from l.slice l.j (l.j + 1) l.fn.columns.part.items l.columns.part.items;
}
