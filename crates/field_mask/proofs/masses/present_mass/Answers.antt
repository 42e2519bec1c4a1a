use Rattle.std.proofs.Common.{rules, ◌≡◌, ◌≤◌, ◌<ℤ◌, ◌+◌, ◌*◌, ◌≤ℤ◌, ◌+ℤ◌, pos, unsigned_abs, All, ap, ap₂, subst, sym, refl, ◌∙◌, length, ℕ, ℤ, List, arith}
use mir.Syntax.{w128}
use mir.Val.{to_z}
use Rattle.map_rows.specs.Maps.{IsSoundMap, total}
use Rattle.map_rows.specs.Application.{sum_over, area_at, value_at}
use Rattle.apply_map.proofs.MassSteps.{below_limit, added, source_areas, counts_fit, nonneg_sources, more_size}
use Rattle.field_mask.specs.Masked.{present_product}
use Rattle.field_mask.proofs.MaskedMasses.{no_present_mass, present_mass_more}
use Rattle.field_mask.proofs.masses.present_mass.Goals as goal

pub loop-slice-init : goal.loop-slice-init
loop-slice-init c = (no_present_mass c.args.map.now c.args.fill c.args.values.now, omega arith)

pub slice_mass-mass-requires-clause-counts : goal.slice_mass-mass-requires-clause-counts
slice_mass-mass-requires-clause-counts c =
    let m = c.args.map.now in
    let areas : c.deref-areas.result.now ≡ m.area_a = search rules in
    let sound : IsSoundMap m = subst IsSoundMap c.map.view_is c.map.invariant in
    let size : length c.deref-areas.result.now ≡ m.n_a = ap (length {A = ℤ}) areas ∙ (source_areas m sound).0 in
    subst (λ (n : ℕ). (c.loop-slice.slice + 1) * n ≤ length c.args.values.now) (sym size) (omega (arith, c.requires, counts_fit c.loop-slice.slice c.args.slices m.n_a c.loop-slice-test.true))

pub slice_mass-mass-requires-clause-areas : goal.slice_mass-mass-requires-clause-areas
slice_mass-mass-requires-clause-areas c =
    let m = c.args.map.now in
    let areas : c.deref-areas.result.now ≡ m.area_a = search rules in
    let sound : IsSoundMap m = subst IsSoundMap c.map.view_is c.map.invariant in
    subst (All (λ (area : ℤ). pos 0 ≤ℤ area)) (sym areas) (nonneg_sources m sound)

pub slice_mass-mass-requires-clause-fit : goal.slice_mass-mass-requires-clause-fit
slice_mass-mass-requires-clause-fit c =
    let m = c.args.map.now in
    let areas : c.deref-areas.result.now ≡ m.area_a = search rules in
    let sound : IsSoundMap m = subst IsSoundMap c.map.view_is c.map.invariant in
    subst (λ (xs : List ℤ). total xs <ℤ pos 9223372036854775808) (sym areas) (source_areas m sound).1

pub loop-slice-preserved : goal.loop-slice-preserved
loop-slice-preserved c =
    let m = c.args.map.now in
    let values = c.args.values.now in
    let slice = c.loop-slice.slice in
    let areas : c.deref-areas.result.now ≡ m.area_a = search rules in
    let sound : IsSoundMap m = subst IsSoundMap c.map.view_is c.map.invariant in
    let size : length c.deref-areas.result.now ≡ m.n_a = ap (length {A = ℤ}) areas ∙ (source_areas m sound).0 in
    let mass = to_z w128 c.loop-slice.mass-bits in
    let part = c.slice_mass-mass.result in
    let step = (added c.loop-slice.mass-bits mass part refl (below_limit (unsigned_abs mass) slice c.args.slices c.loop-slice.invariant.1 c.loop-slice-test.true c.ranges.slices.fits) c.slice_mass-mass.ensures.size).1 in
    let here : part ≡ sum_over 1 m.n_a (λ (i : ℕ). present_product c.args.fill (area_at m.area_a i) (value_at values m.n_a slice i)) =
    c.slice_mass-mass.ensures.value ∙ ap₂ (λ (n : ℕ) (xs : List ℤ). sum_over 1 n (λ (i : ℕ). present_product c.args.fill (area_at xs i) (value_at values n slice i))) size areas
    in (
      step ∙ ap₂ ◌+ℤ◌ c.loop-slice.invariant.0 here ∙ sym (present_mass_more m c.args.fill values slice),
      subst (λ (x : ℤ). unsigned_abs x ≤ 19807040628566084398385987584 * (slice + 1)) (sym step) (more_size mass part slice c.loop-slice.invariant.1 c.slice_mass-mass.ensures.size),
    )
