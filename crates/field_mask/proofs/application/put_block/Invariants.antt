use Rattle.map_rows.specs.Places.{IsPut}
use Rattle.field_mask.specs.Masked.{masked_whole, masked_rest, masked_part}
use Rattle.field_mask.specs.Present.{masked_number}
use Rattle.field_mask.proofs.application.put_block.Given as goal

abbrev pub invariant-loop-j : goal.invariant-loop-j
invariant-loop-j l = record {
  whole : IsPut l.map.n_b (masked_number masked_whole l.map l.fill l.values) l.block.from l.block.to 0 l.j l.fn.columns.whole.items l.columns.whole.items;
  rest : IsPut l.map.n_b (masked_number masked_rest l.map l.fill l.values) l.block.from l.block.to 0 l.j l.fn.columns.rest.items l.columns.rest.items;
  part : IsPut l.map.n_b (masked_number masked_part l.map l.fill l.values) l.block.from l.block.to 0 l.j l.fn.columns.part.items l.columns.part.items;
}
