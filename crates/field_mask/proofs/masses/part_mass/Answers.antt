use Rattle.std.proofs.Common.{rules, ◌≡◌, ◌≤◌, ◌+◌, ◌*◌, ◌+ℤ◌, ◌*ℤ◌, unsigned_abs, ap, ap₂, subst, sym, refl, ◌∙◌, length, ℕ, ℤ, List, arith}
use mir.Syntax.{w128}
use mir.Val.{to_z}
use Rattle.std.specs.List.{slice_range}
use Rattle.map_rows.specs.Maps.{IsSoundMap}
use Rattle.map_rows.specs.Application.{sum_over, area_at, value_at}
use Rattle.apply_map.specs.Values.{HasRestsWithin}
use Rattle.apply_map.proofs.MassSteps.{below_limit, added, more_size}
use Rattle.field_mask.proofs.MaskedMasses.{no_part_mass, part_mass_more, room_for_parts, are_parts, parts_mass}
use Rattle.field_mask.proofs.masses.part_mass.Goals as goal

pub loop-slice-init : goal.loop-slice-init
loop-slice-init c = (no_part_mass c.args.map.now c.args.field.now, omega arith)

pub parts_of_slice-parts-requires : goal.parts_of_slice-parts-requires
parts_of_slice-parts-requires c =
    let m = c.args.map.now in
    let n : c.map.inside.n_b ≡ m.n_b = search rules in
    let part : c.deref-part.result.now ≡ c.args.field.now.part = search rules in
    subst (λ (k : ℕ). c.loop-slice.slice * k + k ≤ length c.deref-part.result.now) (sym n)
    (omega (arith, ap (length {A = ℤ}) part, room_for_parts c.args.slices c.loop-slice.slice m.n_b (length c.args.field.now.part) c.requires.part_count c.loop-slice-test.true))

pub mass_of_slice-mass-requires-clause-whole : goal.mass_of_slice-mass-requires-clause-whole
mass_of_slice-mass-requires-clause-whole c =
    let m = c.args.map.now in
    let slice = c.loop-slice.slice in
    let sound : IsSoundMap m = subst IsSoundMap c.map.view_is c.map.invariant in
    let n : c.map.inside.n_b ≡ m.n_b = search rules in
    let part : c.deref-part.result.now ≡ c.args.field.now.part = search rules in
    let whole : c.deref-whole.result.now ≡ c.args.field.now.whole = search rules in
    let rest : c.deref-rest.result.now ≡ c.args.field.now.rest = search rules in
    let parts = c.parts_of_slice-parts.result.now in
    let is : parts ≡ slice_range c.args.field.now.part (slice * c.map.inside.n_b) (slice * c.map.inside.n_b + m.n_b) =
    c.parts_of_slice-parts.ensures ∙ ap₂ (λ (xs : List ℤ) (k : ℕ). slice_range xs (slice * c.map.inside.n_b) (slice * c.map.inside.n_b + k)) part n
    in
    let h = are_parts m c.args.slices slice (slice * c.map.inside.n_b) c.args.field.now parts sound c.requires c.loop-slice-test.true (ap (λ (k : ℕ). slice * k) n) is in
    subst (λ (xs : List ℤ). (slice + 1) * length parts ≤ length xs) (sym whole) h.wholes

pub mass_of_slice-mass-requires-clause-rest : goal.mass_of_slice-mass-requires-clause-rest
mass_of_slice-mass-requires-clause-rest c =
    let m = c.args.map.now in
    let slice = c.loop-slice.slice in
    let sound : IsSoundMap m = subst IsSoundMap c.map.view_is c.map.invariant in
    let n : c.map.inside.n_b ≡ m.n_b = search rules in
    let part : c.deref-part.result.now ≡ c.args.field.now.part = search rules in
    let whole : c.deref-whole.result.now ≡ c.args.field.now.whole = search rules in
    let rest : c.deref-rest.result.now ≡ c.args.field.now.rest = search rules in
    let parts = c.parts_of_slice-parts.result.now in
    let is : parts ≡ slice_range c.args.field.now.part (slice * c.map.inside.n_b) (slice * c.map.inside.n_b + m.n_b) =
    c.parts_of_slice-parts.ensures ∙ ap₂ (λ (xs : List ℤ) (k : ℕ). slice_range xs (slice * c.map.inside.n_b) (slice * c.map.inside.n_b + k)) part n
    in
    let h = are_parts m c.args.slices slice (slice * c.map.inside.n_b) c.args.field.now parts sound c.requires c.loop-slice-test.true (ap (λ (k : ℕ). slice * k) n) is in
    subst (λ (xs : List ℤ). (slice + 1) * length parts ≤ length xs) (sym rest) h.rest_count

pub mass_of_slice-mass-requires-clause-areas : goal.mass_of_slice-mass-requires-clause-areas
mass_of_slice-mass-requires-clause-areas c =
    let m = c.args.map.now in
    let slice = c.loop-slice.slice in
    let sound : IsSoundMap m = subst IsSoundMap c.map.view_is c.map.invariant in
    let n : c.map.inside.n_b ≡ m.n_b = search rules in
    let part : c.deref-part.result.now ≡ c.args.field.now.part = search rules in
    let whole : c.deref-whole.result.now ≡ c.args.field.now.whole = search rules in
    let rest : c.deref-rest.result.now ≡ c.args.field.now.rest = search rules in
    let parts = c.parts_of_slice-parts.result.now in
    let is : parts ≡ slice_range c.args.field.now.part (slice * c.map.inside.n_b) (slice * c.map.inside.n_b + m.n_b) =
    c.parts_of_slice-parts.ensures ∙ ap₂ (λ (xs : List ℤ) (k : ℕ). slice_range xs (slice * c.map.inside.n_b) (slice * c.map.inside.n_b + k)) part n
    in
    let h = are_parts m c.args.slices slice (slice * c.map.inside.n_b) c.args.field.now parts sound c.requires c.loop-slice-test.true (ap (λ (k : ℕ). slice * k) n) is in
    h.nonneg

pub mass_of_slice-mass-requires-clause-fit : goal.mass_of_slice-mass-requires-clause-fit
mass_of_slice-mass-requires-clause-fit c =
    let m = c.args.map.now in
    let slice = c.loop-slice.slice in
    let sound : IsSoundMap m = subst IsSoundMap c.map.view_is c.map.invariant in
    let n : c.map.inside.n_b ≡ m.n_b = search rules in
    let part : c.deref-part.result.now ≡ c.args.field.now.part = search rules in
    let whole : c.deref-whole.result.now ≡ c.args.field.now.whole = search rules in
    let rest : c.deref-rest.result.now ≡ c.args.field.now.rest = search rules in
    let parts = c.parts_of_slice-parts.result.now in
    let is : parts ≡ slice_range c.args.field.now.part (slice * c.map.inside.n_b) (slice * c.map.inside.n_b + m.n_b) =
    c.parts_of_slice-parts.ensures ∙ ap₂ (λ (xs : List ℤ) (k : ℕ). slice_range xs (slice * c.map.inside.n_b) (slice * c.map.inside.n_b + k)) part n
    in
    let h = are_parts m c.args.slices slice (slice * c.map.inside.n_b) c.args.field.now parts sound c.requires c.loop-slice-test.true (ap (λ (k : ℕ). slice * k) n) is in
    h.fit

pub mass_of_slice-mass-requires-clause-rests : goal.mass_of_slice-mass-requires-clause-rests
mass_of_slice-mass-requires-clause-rests c =
    let m = c.args.map.now in
    let slice = c.loop-slice.slice in
    let sound : IsSoundMap m = subst IsSoundMap c.map.view_is c.map.invariant in
    let n : c.map.inside.n_b ≡ m.n_b = search rules in
    let part : c.deref-part.result.now ≡ c.args.field.now.part = search rules in
    let whole : c.deref-whole.result.now ≡ c.args.field.now.whole = search rules in
    let rest : c.deref-rest.result.now ≡ c.args.field.now.rest = search rules in
    let parts = c.parts_of_slice-parts.result.now in
    let is : parts ≡ slice_range c.args.field.now.part (slice * c.map.inside.n_b) (slice * c.map.inside.n_b + m.n_b) =
    c.parts_of_slice-parts.ensures ∙ ap₂ (λ (xs : List ℤ) (k : ℕ). slice_range xs (slice * c.map.inside.n_b) (slice * c.map.inside.n_b + k)) part n
    in
    let h = are_parts m c.args.slices slice (slice * c.map.inside.n_b) c.args.field.now parts sound c.requires c.loop-slice-test.true (ap (λ (k : ℕ). slice * k) n) is in
    subst (HasRestsWithin parts slice) (sym rest) h.rests

pub loop-slice-preserved : goal.loop-slice-preserved
loop-slice-preserved c =
    let m = c.args.map.now in
    let slice = c.loop-slice.slice in
    let sound : IsSoundMap m = subst IsSoundMap c.map.view_is c.map.invariant in
    let n : c.map.inside.n_b ≡ m.n_b = search rules in
    let part : c.deref-part.result.now ≡ c.args.field.now.part = search rules in
    let whole : c.deref-whole.result.now ≡ c.args.field.now.whole = search rules in
    let rest : c.deref-rest.result.now ≡ c.args.field.now.rest = search rules in
    let parts = c.parts_of_slice-parts.result.now in
    let is : parts ≡ slice_range c.args.field.now.part (slice * c.map.inside.n_b) (slice * c.map.inside.n_b + m.n_b) =
    c.parts_of_slice-parts.ensures ∙ ap₂ (λ (xs : List ℤ) (k : ℕ). slice_range xs (slice * c.map.inside.n_b) (slice * c.map.inside.n_b + k)) part n
    in
    let h = are_parts m c.args.slices slice (slice * c.map.inside.n_b) c.args.field.now parts sound c.requires c.loop-slice-test.true (ap (λ (k : ℕ). slice * k) n) is in
    let mass = to_z w128 c.loop-slice.mass-bits in
    let here = c.mass_of_slice-mass.result in
    let step = (added c.loop-slice.mass-bits mass here refl (below_limit (unsigned_abs mass) slice c.args.slices c.loop-slice.invariant.1 c.loop-slice-test.true c.ranges.slices.fits) c.mass_of_slice-mass.ensures.size).1 in
    let value = c.mass_of_slice-mass.ensures.value
    ∙ ap₂ (λ (xs ys : List ℤ). sum_over 1 (length parts) (λ (j : ℕ). (area_at parts j *ℤ value_at xs (length parts) slice j) +ℤ value_at ys (length parts) slice j)) whole rest
    ∙ parts_mass m c.args.field.now slice parts h
    in (
      step ∙ ap₂ ◌+ℤ◌ c.loop-slice.invariant.0 value ∙ sym (part_mass_more m c.args.field.now slice),
      subst (λ (x : ℤ). unsigned_abs x ≤ 19807040628566084398385987584 * (slice + 1)) (sym step) (more_size mass here slice c.loop-slice.invariant.1 c.mass_of_slice-mass.ensures.size),
    )
