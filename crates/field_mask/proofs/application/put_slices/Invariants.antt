use Rattle.std.proofs.Common.{◌≤◌, ◌-◌}
use Rattle.map_rows.specs.Places.{IsPut}
use Rattle.field_mask.specs.Masked.{masked_whole, masked_rest, masked_part}
use Rattle.field_mask.specs.Present.{masked_number}
use Rattle.field_mask.proofs.application.put_slices.Given as goal

abbrev pub invariant-loop-from : goal.invariant-loop-from
invariant-loop-from l = record {
  within : l.from ≤ l.slices;
  whole : IsPut l.map.n_b (masked_number masked_whole l.map l.fill l.values) 0 l.from 0 l.map.n_b l.fn.columns.whole.items l.columns.whole.items;
  rest : IsPut l.map.n_b (masked_number masked_rest l.map l.fill l.values) 0 l.from 0 l.map.n_b l.fn.columns.rest.items l.columns.rest.items;
  part : IsPut l.map.n_b (masked_number masked_part l.map l.fill l.values) 0 l.from 0 l.map.n_b l.fn.columns.part.items l.columns.part.items;
}

abbrev pub decreases-loop-from : goal.decreases-loop-from
decreases-loop-from l = l.slices - l.from
