use Rattle.std.proofs.Common.{◌≡◌, length, slice_index}
use Rattle.block_workers.specs.InPlace.{AllInPlace}
use Rattle.field_rows.proofs.workers.numbers_in_order.Given as goal

abbrev pub invariant-loop-block : goal.invariant-loop-block
invariant-loop-block l = record {
  count : length l.outputs.items ≡ l.block-index;
  each : AllInPlace (λ s x. x ≡ slice_index l.numbers s) l.outputs.items;
}
