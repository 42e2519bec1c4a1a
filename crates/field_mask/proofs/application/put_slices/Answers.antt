use Rattle.std.proofs.Common.{ℕ, arith, subst}
use Rattle.map_rows.specs.Places.{IsPut}
use Rattle.map_rows.proofs.Places.{more_slices}
use Rattle.field_mask.specs.Masked.{masked_whole, masked_rest, masked_part}
use Rattle.field_mask.specs.Present.{masked_number}
use Rattle.field_mask.proofs.application.put_slices.Goals as goal

pub loop-from-preserved : goal.loop-from-preserved
loop-from-preserved c =
    let m = c.args.map.now in
    let fill = c.args.fill in
    let values = c.args.values.now in
    let from = c.loop-from.from in
    let to = c.block_from-block.result.to in
    let begun = c.block_from-block.ensures.from in
    let whole = subst (λ (k : ℕ). IsPut m.n_b (masked_number masked_whole m fill values) k to 0 m.n_b c.loop-from.columns.whole.items c.put_block.new.columns.whole.items) begun c.put_block.ensures.whole in
    let rest = subst (λ (k : ℕ). IsPut m.n_b (masked_number masked_rest m fill values) k to 0 m.n_b c.loop-from.columns.rest.items c.put_block.new.columns.rest.items) begun c.put_block.ensures.rest in
    let part = subst (λ (k : ℕ). IsPut m.n_b (masked_number masked_part m fill values) k to 0 m.n_b c.loop-from.columns.part.items c.put_block.new.columns.part.items) begun c.put_block.ensures.part in
    record {
      within = c.block_from-block.ensures.within;
      whole = more_slices m.n_b (masked_number masked_whole m fill values) 0 from to 0 m.n_b c.args.columns.now.whole.items c.loop-from.columns.whole.items c.put_block.new.columns.whole.items (omega arith) c.loop-from.invariant.whole whole;
      rest = more_slices m.n_b (masked_number masked_rest m fill values) 0 from to 0 m.n_b c.args.columns.now.rest.items c.loop-from.columns.rest.items c.put_block.new.columns.rest.items (omega arith) c.loop-from.invariant.rest rest;
      part = more_slices m.n_b (masked_number masked_part m fill values) 0 from to 0 m.n_b c.args.columns.now.part.items c.loop-from.columns.part.items c.put_block.new.columns.part.items (omega arith) c.loop-from.invariant.part part;
    }
