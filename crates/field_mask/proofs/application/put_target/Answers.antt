use Rattle.std.proofs.Common.{rules, ◌≡◌, ◌+◌, ◌*◌, ◌≤ℤ◌, pos, ap, subst, sym, refl, ◌∙◌, length, get_or, set, ℕ, ℤ, List, arith}
use mir.Syntax.{w32, w64}
use mir.Val.{SFits, to_z, of_z}
use Rattle.std.proofs.lemmas.Int.{to_z-of_z}
use Rattle.std.proofs.lemmas.List.Elements.{All-get_or}
use Rattle.map_rows.specs.Maps.{IsSoundMap}
use Rattle.map_rows.proofs.Masses.{place_within}
use Rattle.map_rows.proofs.Places.{no_slices, one_put, more_slices}
use Rattle.apply_map.proofs.Slices.{size_of_areas, rows_at}
use Rattle.field_mask.specs.Masked.{masked_whole, masked_rest, masked_part}
use Rattle.field_mask.specs.Present.{masked_number}
use Rattle.field_mask.proofs.MaskedSlices.{share_is, slice_within}
use Rattle.field_mask.proofs.application.put_target.Goals as goal

pub bounds-areas-j : goal.bounds-areas-j
bounds-areas-j c =
    let m = c.args.map.now in
    let areas : c.deref-areas.result.now ≡ m.area_b = search rules in
    let sound : IsSoundMap m = subst IsSoundMap c.map.view_is c.map.invariant in
    omega (arith, c.requires.target, ap (length {A = ℤ}) areas, size_of_areas m sound)

pub divisor_of-divisor-requires : goal.divisor_of-divisor-requires
divisor_of-divisor-requires c =
    let m = c.args.map.now in
    let j = c.args.j in
    let areas : c.deref-areas.result.now ≡ m.area_b = search rules in
    let sound : IsSoundMap m = subst IsSoundMap c.map.view_is c.map.invariant in
    let f : SFits w64 (get_or c.deref-areas.result.now j (pos 0)) = search rules in
    let same = to_z-of_z w64 (get_or c.deref-areas.result.now j (pos 0)) f ∙ ap (λ (xs : List ℤ). get_or xs j (pos 0)) areas in
    subst (λ (x : ℤ). pos 1 ≤ℤ x) (sym same) (All-get_or (λ (area : ℤ). pos 1 ≤ℤ area) m.area_b j (pos 0) (omega (arith, c.requires.target, size_of_areas m sound)) sound.covered)

pub loop-slice-init : goal.loop-slice-init
loop-slice-init c = record {
  whole = no_slices _ _ c.args.block.from c.args.j (c.args.j + 1) c.args.columns.now.whole.items;
  rest = no_slices _ _ c.args.block.from c.args.j (c.args.j + 1) c.args.columns.now.rest.items;
  part = no_slices _ _ c.args.block.from c.args.j (c.args.j + 1) c.args.columns.now.part.items;
}

pub present_sums-present-requires-clause-count : goal.present_sums-present-requires-clause-count
present_sums-present-requires-clause-count c =
    let m = c.args.map.now in
    let j = c.args.j in
    let slice = c.loop-slice.slice in
    let values = c.args.values.now in
    let sound : IsSoundMap m = subst IsSoundMap c.map.view_is c.map.invariant in
    let first : slice * c.map-inside.inside.0.0 ≡ slice * m.n_a = search rules in
    let h = rows_at m values slice (slice * c.map-inside.inside.0.0) j c.args.rows.now (get_or m.area_b j (pos 0)) sound
    (slice_within slice c.args.block.to m.n_a (length values) c.loop-slice-test.true c.requires.values) first c.requires.target c.requires.rows refl
    in
    h.count

pub present_sums-present-requires-clause-measures : goal.present_sums-present-requires-clause-measures
present_sums-present-requires-clause-measures c =
    let m = c.args.map.now in
    let j = c.args.j in
    let slice = c.loop-slice.slice in
    let values = c.args.values.now in
    let sound : IsSoundMap m = subst IsSoundMap c.map.view_is c.map.invariant in
    let first : slice * c.map-inside.inside.0.0 ≡ slice * m.n_a = search rules in
    let h = rows_at m values slice (slice * c.map-inside.inside.0.0) j c.args.rows.now (get_or m.area_b j (pos 0)) sound
    (slice_within slice c.args.block.to m.n_a (length values) c.loop-slice-test.true c.requires.values) first c.requires.target c.requires.rows refl
    in
    h.measures

pub present_sums-present-requires-clause-values : goal.present_sums-present-requires-clause-values
present_sums-present-requires-clause-values c =
    let m = c.args.map.now in
    let j = c.args.j in
    let slice = c.loop-slice.slice in
    let values = c.args.values.now in
    let sound : IsSoundMap m = subst IsSoundMap c.map.view_is c.map.invariant in
    let first : slice * c.map-inside.inside.0.0 ≡ slice * m.n_a = search rules in
    let h = rows_at m values slice (slice * c.map-inside.inside.0.0) j c.args.rows.now (get_or m.area_b j (pos 0)) sound
    (slice_within slice c.args.block.to m.n_a (length values) c.loop-slice-test.true c.requires.values) first c.requires.target c.requires.rows refl
    in
    h.read

pub loop-slice-preserved : goal.loop-slice-preserved
loop-slice-preserved c =
    let m = c.args.map.now in
    let j = c.args.j in
    let slice = c.loop-slice.slice in
    let values = c.args.values.now in
    let sound : IsSoundMap m = subst IsSoundMap c.map.view_is c.map.invariant in
    let first : slice * c.map-inside.inside.0.0 ≡ slice * m.n_a = search rules in
    let h = rows_at m values slice (slice * c.map-inside.inside.0.0) j c.args.rows.now (get_or m.area_b j (pos 0)) sound
    (slice_within slice c.args.block.to m.n_a (length values) c.loop-slice-test.true c.requires.values) first c.requires.target c.requires.rows refl
    in
    let fill = c.args.fill in
    let from = c.args.block.from in
    let n : c.map-inside.inside.0.1.0 ≡ m.n_b = search rules in
    let within = place_within c.args.block.to m.n_b slice j c.loop-slice-test.true c.requires.target in
    let share = share_is m fill values slice (slice * c.map-inside.inside.0.0) (1 + j) c.args.rows.now c.present_sums-present.result.part c.present_sums-present.result.sum first h.are c.present_sums-present.ensures.part
    c.present_sums-present.ensures.sum
    in
    let w : SFits w32 c.present_share-share.result.whole = search rules in
    let r : SFits w64 c.present_share-share.result.rest = search rules in
    let p : SFits w64 c.present_share-share.result.part = search rules in
    let whole = to_z-of_z w32 c.present_share-share.result.whole w ∙ c.present_share-share.ensures.whole ∙ ap masked_whole share in
    let rest = to_z-of_z w64 c.present_share-share.result.rest r ∙ c.present_share-share.ensures.rest ∙ ap masked_rest share in
    let part = to_z-of_z w64 c.present_share-share.result.part p ∙ c.present_share-share.ensures.part ∙ ap masked_part share in
    record {
      whole = more_slices m.n_b (masked_number masked_whole m fill values) from slice (slice + 1) j (j + 1) c.args.columns.now.whole.items c.loop-slice.columns.whole.items _ (omega (arith, c.requires.target)) c.loop-slice.invariant.whole
          (one_put m.n_b (masked_number masked_whole m fill values) slice j c.loop-slice.columns.whole.items _ _ c.requires.target (omega (arith, within, c.requires.whole, c.loop-slice.invariant.whole.size))
          (ap (λ (k : ℕ). set c.loop-slice.columns.whole.items (slice * k + j) (to_z w32 (of_z w32 c.present_share-share.result.whole))) n) whole);
      rest = more_slices m.n_b (masked_number masked_rest m fill values) from slice (slice + 1) j (j + 1) c.args.columns.now.rest.items c.loop-slice.columns.rest.items _ (omega (arith, c.requires.target)) c.loop-slice.invariant.rest
          (one_put m.n_b (masked_number masked_rest m fill values) slice j c.loop-slice.columns.rest.items _ _ c.requires.target (omega (arith, within, c.requires.rest, c.loop-slice.invariant.rest.size))
          (ap (λ (k : ℕ). set c.loop-slice.columns.rest.items (slice * k + j) (to_z w64 (of_z w64 c.present_share-share.result.rest))) n) rest);
      part = more_slices m.n_b (masked_number masked_part m fill values) from slice (slice + 1) j (j + 1) c.args.columns.now.part.items c.loop-slice.columns.part.items _ (omega (arith, c.requires.target)) c.loop-slice.invariant.part
          (one_put m.n_b (masked_number masked_part m fill values) slice j c.loop-slice.columns.part.items _ _ c.requires.target (omega (arith, within, c.requires.part, c.loop-slice.invariant.part.size))
          (ap (λ (k : ℕ). set c.loop-slice.columns.part.items (slice * k + j) (to_z w64 (of_z w64 c.present_share-share.result.part))) n) part);
    }
