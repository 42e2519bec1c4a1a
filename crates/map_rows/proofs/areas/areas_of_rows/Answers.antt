use Rattle.std.proofs.Common.{◌≡◌, length, pos, get_or, arith, ◌∙◌}
use Rattle.std.proofs.lemmas.List.Elements.{All-get_or}
use Rattle.map_rows.specs.declared.rows.MapRow.{MapRow}
use Rattle.map_rows.specs.Maps.{IsSoundRow, measure_of, source_of, target_of}
use Rattle.map_rows.proofs.FaceSums.{no_sums, sums_more}
use Rattle.map_rows.proofs.AreaSums.{kept, measures, sum_bounds, written}
use Rattle.map_rows.proofs.areas.areas_of_rows.Goals as goal

abbrev no_row : MapRow
no_row = record { col = 0; row = 0; s = pos 0 }

pub loop-row-init : goal.loop-row-init
loop-row-init c = (
  no_sums source_of measure_of c.args.n_a c.in_ok-source.source.items (c.in_ok-source.ensures.items_if_clones_equal (λ y e. e)),
  no_sums target_of measure_of c.args.n_b c.in_ok-target.target.items (c.in_ok-target.ensures.items_if_clones_equal (λ y e. e)),
)

pub add_measure-requires-clause-least : goal.add_measure-requires-clause-least
add_measure-requires-clause-least c =
    let rows = c.args.rows.now in
    let k = c.loop-row.row-index in
    let r = get_or rows k no_row in
    let sound = All-get_or (IsSoundRow c.args.n_a c.args.n_b) rows k no_row (omega arith) c.requires.rows in
    (sum_bounds source_of c.args.n_a rows k r _ c.deref_mut.result.now (c.deref_mut.ensures.value ∙ c.loop-row.invariant.0) (measures c.args.n_a c.args.n_b rows c.requires.rows)
    (sound.least, sound.greatest) (kept r.s (sound.least, sound.greatest)) sound.source.0 sound.source.1 (omega arith) c.requires.count).0

pub add_measure-requires-clause-greatest : goal.add_measure-requires-clause-greatest
add_measure-requires-clause-greatest c =
    let rows = c.args.rows.now in
    let k = c.loop-row.row-index in
    let r = get_or rows k no_row in
    let sound = All-get_or (IsSoundRow c.args.n_a c.args.n_b) rows k no_row (omega arith) c.requires.rows in
    (sum_bounds source_of c.args.n_a rows k r _ c.deref_mut.result.now (c.deref_mut.ensures.value ∙ c.loop-row.invariant.0) (measures c.args.n_a c.args.n_b rows c.requires.rows)
    (sound.least, sound.greatest) (kept r.s (sound.least, sound.greatest)) sound.source.0 sound.source.1 (omega arith) c.requires.count).1

pub add_measure-requires-in-loop-row-clause-least :
    goal.add_measure-requires-in-loop-row-clause-least
add_measure-requires-in-loop-row-clause-least c =
    let rows = c.args.rows.now in
    let k = c.loop-row.row-index in
    let r = get_or rows k no_row in
    let sound = All-get_or (IsSoundRow c.args.n_a c.args.n_b) rows k no_row (omega arith) c.requires.rows in
    (sum_bounds target_of c.args.n_b rows k r _ c.deref_mut-in-loop-row.result.now (c.deref_mut-in-loop-row.ensures.value ∙ c.loop-row.invariant.1)
    (measures c.args.n_a c.args.n_b rows c.requires.rows) (sound.least, sound.greatest) (kept r.s (sound.least, sound.greatest)) sound.target.0 sound.target.1 (omega arith) c.requires.count).0

pub add_measure-requires-in-loop-row-clause-greatest :
    goal.add_measure-requires-in-loop-row-clause-greatest
add_measure-requires-in-loop-row-clause-greatest c =
    let rows = c.args.rows.now in
    let k = c.loop-row.row-index in
    let r = get_or rows k no_row in
    let sound = All-get_or (IsSoundRow c.args.n_a c.args.n_b) rows k no_row (omega arith) c.requires.rows in
    (sum_bounds target_of c.args.n_b rows k r _ c.deref_mut-in-loop-row.result.now (c.deref_mut-in-loop-row.ensures.value ∙ c.loop-row.invariant.1)
    (measures c.args.n_a c.args.n_b rows c.requires.rows) (sound.least, sound.greatest) (kept r.s (sound.least, sound.greatest)) sound.target.0 sound.target.1 (omega arith) c.requires.count).1

pub loop-row-preserved : goal.loop-row-preserved
loop-row-preserved c =
    let rows = c.args.rows.now in
    let k = c.loop-row.row-index in
    let r = get_or rows k no_row in
    let sound = All-get_or (IsSoundRow c.args.n_a c.args.n_b) rows k no_row (omega arith) c.requires.rows in
    let same = kept r.s (sound.least, sound.greatest) in
    let source = sums_more source_of measure_of c.args.n_a rows k no_row _ c.deref_mut.result.now c.add_measure.new.areas (c.deref_mut.ensures.value ∙ c.loop-row.invariant.0) (omega arith)
    same sound.source.0 sound.source.1 c.add_measure.ensures
    in
    let target = sums_more target_of measure_of c.args.n_b rows k no_row _ c.deref_mut-in-loop-row.result.now c.add_measure-in-loop-row.new.areas
    (c.deref_mut-in-loop-row.ensures.value ∙ c.loop-row.invariant.1) (omega arith) same sound.target.0 sound.target.1 c.add_measure-in-loop-row.ensures
    in
    let a : length c.add_measure.new.areas ≡ c.loop-row.source.len = omega (arith, c.deref_mut.ensures.len) in
    let b : length c.add_measure-in-loop-row.new.areas ≡ c.loop-row.target.len = omega (arith, c.deref_mut-in-loop-row.ensures.len) in
    (written c.loop-row.source.len c.add_measure.new.areas _ a ∙ source, written c.loop-row.target.len c.add_measure-in-loop-row.new.areas _ b ∙ target)
