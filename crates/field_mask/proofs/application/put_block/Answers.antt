use Rattle.std.proofs.Common.{rules, ◌+◌, ◌<◌, List, length, ap, arith}
use Rattle.map_rows.specs.declared.rows.MapRow.{MapRow}
use Rattle.map_rows.proofs.Groups.{length-groups_of}
use Rattle.map_rows.proofs.Places.{more_targets}
use Rattle.field_mask.specs.Masked.{masked_whole, masked_rest, masked_part}
use Rattle.field_mask.specs.Present.{masked_number}
use Rattle.field_mask.proofs.application.put_block.Goals as goal

pub of-rows-requires : goal.of-rows-requires
of-rows-requires c =
    let m = c.args.map.now in
    let j = c.loop-j.j in
    let l : j < m.n_b = search rules in
    (omega arith, omega (arith, l, ap (length {A = List MapRow}) c.requires.rows, length-groups_of m.n_b m.rows))

pub loop-j-preserved : goal.loop-j-preserved
loop-j-preserved c =
    let m = c.args.map.now in
    let j = c.loop-j.j in
    let l : j < m.n_b = search rules in
    let from = c.args.block.from in
    let to = c.args.block.to in
    record {
      whole = more_targets m.n_b (masked_number masked_whole m c.args.fill c.args.values.now) from to 0 j (j + 1) c.args.columns.now.whole.items c.loop-j.columns.whole.items c.put_target.new.columns.whole.items (omega (arith, l)) c.loop-j.invariant.whole c.put_target.ensures.whole;
      rest = more_targets m.n_b (masked_number masked_rest m c.args.fill c.args.values.now) from to 0 j (j + 1) c.args.columns.now.rest.items c.loop-j.columns.rest.items c.put_target.new.columns.rest.items (omega (arith, l)) c.loop-j.invariant.rest c.put_target.ensures.rest;
      part = more_targets m.n_b (masked_number masked_part m c.args.fill c.args.values.now) from to 0 j (j + 1) c.args.columns.now.part.items c.loop-j.columns.part.items c.put_target.new.columns.part.items (omega (arith, l)) c.loop-j.invariant.part c.put_target.ensures.part;
    }
