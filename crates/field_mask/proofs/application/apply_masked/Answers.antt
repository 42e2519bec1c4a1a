use Rattle.std.proofs.Common.{rules, ◌≡◌, ◌*◌, length, ap, subst, sym, ◌∙◌}
use Rattle.map_rows.specs.Maps.{IsSoundMap}
use Rattle.field_mask.specs.Masked.{masked_whole, masked_rest, masked_part, part_mass_of}
use Rattle.field_mask.specs.Laws.{IsMaskedFieldOf, KeepsPresentConstants, KeepsPresentBounds, IsPlainWithoutAbsent}
use Rattle.field_mask.proofs.MaskedSlices.{field_is}
use Rattle.field_mask.proofs.MaskedLaws.{masked_masses, masked_constants, masked_bounds, masked_parts, masked_plain, all_masked}
use Rattle.field_mask.proofs.application.apply_masked.Goals as goal

pub returns-clause-field : goal.returns-clause-field
returns-clause-field c =
    let m = c.args.map.now in
    let slices = c.args.slices in
    let fill = c.args.fill in
    let values = c.args.values.now in
    let sound : IsSoundMap m = subst IsSoundMap c.map.view_is c.map.invariant in
    let wholes : length c.in_ok-vec.field-0.items ≡ slices * m.n_b = search rules in
    let rests : length c.in_ok-vec-2.field-0.items ≡ slices * m.n_b = search rules in
    let parts : length c.in_ok-vec-3.field-0.items ≡ slices * m.n_b = search rules in
    let whole = all_masked m slices fill values masked_whole c.in_ok-vec.field-0.items c.put_slices.new.columns.whole.items sound wholes c.put_slices.ensures.whole in
    let rest = all_masked m slices fill values masked_rest c.in_ok-vec-2.field-0.items c.put_slices.new.columns.rest.items sound rests c.put_slices.ensures.rest in
    let part = all_masked m slices fill values masked_part c.in_ok-vec-3.field-0.items c.put_slices.new.columns.part.items sound parts c.put_slices.ensures.part in
    let field = field_is m slices fill values _ _ _ whole rest part in
    field

pub returns-clause-masses : goal.returns-clause-masses
returns-clause-masses c =
    let m = c.args.map.now in
    let slices = c.args.slices in
    let fill = c.args.fill in
    let values = c.args.values.now in
    let sound : IsSoundMap m = subst IsSoundMap c.map.view_is c.map.invariant in
    let wholes : length c.in_ok-vec.field-0.items ≡ slices * m.n_b = search rules in
    let rests : length c.in_ok-vec-2.field-0.items ≡ slices * m.n_b = search rules in
    let parts : length c.in_ok-vec-3.field-0.items ≡ slices * m.n_b = search rules in
    let whole = all_masked m slices fill values masked_whole c.in_ok-vec.field-0.items c.put_slices.new.columns.whole.items sound wholes c.put_slices.ensures.whole in
    let rest = all_masked m slices fill values masked_rest c.in_ok-vec-2.field-0.items c.put_slices.new.columns.rest.items sound rests c.put_slices.ensures.rest in
    let part = all_masked m slices fill values masked_part c.in_ok-vec-3.field-0.items c.put_slices.new.columns.part.items sound parts c.put_slices.ensures.part in
    let field = field_is m slices fill values _ _ _ whole rest part in
    ap (part_mass_of m slices) field ∙ masked_masses m slices fill values sound

pub returns-clause-constants : goal.returns-clause-constants
returns-clause-constants c =
    let m = c.args.map.now in
    let slices = c.args.slices in
    let fill = c.args.fill in
    let values = c.args.values.now in
    let sound : IsSoundMap m = subst IsSoundMap c.map.view_is c.map.invariant in
    let wholes : length c.in_ok-vec.field-0.items ≡ slices * m.n_b = search rules in
    let rests : length c.in_ok-vec-2.field-0.items ≡ slices * m.n_b = search rules in
    let parts : length c.in_ok-vec-3.field-0.items ≡ slices * m.n_b = search rules in
    let whole = all_masked m slices fill values masked_whole c.in_ok-vec.field-0.items c.put_slices.new.columns.whole.items sound wholes c.put_slices.ensures.whole in
    let rest = all_masked m slices fill values masked_rest c.in_ok-vec-2.field-0.items c.put_slices.new.columns.rest.items sound rests c.put_slices.ensures.rest in
    let part = all_masked m slices fill values masked_part c.in_ok-vec-3.field-0.items c.put_slices.new.columns.part.items sound parts c.put_slices.ensures.part in
    let field = field_is m slices fill values _ _ _ whole rest part in
    subst (KeepsPresentConstants m slices fill values) (sym field) (masked_constants m slices fill values sound)

pub returns-clause-bounds : goal.returns-clause-bounds
returns-clause-bounds c =
    let m = c.args.map.now in
    let slices = c.args.slices in
    let fill = c.args.fill in
    let values = c.args.values.now in
    let sound : IsSoundMap m = subst IsSoundMap c.map.view_is c.map.invariant in
    let wholes : length c.in_ok-vec.field-0.items ≡ slices * m.n_b = search rules in
    let rests : length c.in_ok-vec-2.field-0.items ≡ slices * m.n_b = search rules in
    let parts : length c.in_ok-vec-3.field-0.items ≡ slices * m.n_b = search rules in
    let whole = all_masked m slices fill values masked_whole c.in_ok-vec.field-0.items c.put_slices.new.columns.whole.items sound wholes c.put_slices.ensures.whole in
    let rest = all_masked m slices fill values masked_rest c.in_ok-vec-2.field-0.items c.put_slices.new.columns.rest.items sound rests c.put_slices.ensures.rest in
    let part = all_masked m slices fill values masked_part c.in_ok-vec-3.field-0.items c.put_slices.new.columns.part.items sound parts c.put_slices.ensures.part in
    let field = field_is m slices fill values _ _ _ whole rest part in
    subst (KeepsPresentBounds m slices fill values) (sym field) (masked_bounds m slices fill values sound)

pub returns-clause-parts : goal.returns-clause-parts
returns-clause-parts c =
    let m = c.args.map.now in
    let slices = c.args.slices in
    let fill = c.args.fill in
    let values = c.args.values.now in
    let sound : IsSoundMap m = subst IsSoundMap c.map.view_is c.map.invariant in
    let wholes : length c.in_ok-vec.field-0.items ≡ slices * m.n_b = search rules in
    let rests : length c.in_ok-vec-2.field-0.items ≡ slices * m.n_b = search rules in
    let parts : length c.in_ok-vec-3.field-0.items ≡ slices * m.n_b = search rules in
    let whole = all_masked m slices fill values masked_whole c.in_ok-vec.field-0.items c.put_slices.new.columns.whole.items sound wholes c.put_slices.ensures.whole in
    let rest = all_masked m slices fill values masked_rest c.in_ok-vec-2.field-0.items c.put_slices.new.columns.rest.items sound rests c.put_slices.ensures.rest in
    let part = all_masked m slices fill values masked_part c.in_ok-vec-3.field-0.items c.put_slices.new.columns.part.items sound parts c.put_slices.ensures.part in
    let field = field_is m slices fill values _ _ _ whole rest part in
    subst (IsMaskedFieldOf m slices) (sym field) (masked_parts m slices fill values sound)

pub returns-clause-plain : goal.returns-clause-plain
returns-clause-plain c =
    let m = c.args.map.now in
    let slices = c.args.slices in
    let fill = c.args.fill in
    let values = c.args.values.now in
    let sound : IsSoundMap m = subst IsSoundMap c.map.view_is c.map.invariant in
    let wholes : length c.in_ok-vec.field-0.items ≡ slices * m.n_b = search rules in
    let rests : length c.in_ok-vec-2.field-0.items ≡ slices * m.n_b = search rules in
    let parts : length c.in_ok-vec-3.field-0.items ≡ slices * m.n_b = search rules in
    let whole = all_masked m slices fill values masked_whole c.in_ok-vec.field-0.items c.put_slices.new.columns.whole.items sound wholes c.put_slices.ensures.whole in
    let rest = all_masked m slices fill values masked_rest c.in_ok-vec-2.field-0.items c.put_slices.new.columns.rest.items sound rests c.put_slices.ensures.rest in
    let part = all_masked m slices fill values masked_part c.in_ok-vec-3.field-0.items c.put_slices.new.columns.part.items sound parts c.put_slices.ensures.part in
    let field = field_is m slices fill values _ _ _ whole rest part in
    subst (IsPlainWithoutAbsent m slices fill values) (sym field) (masked_plain m slices fill values sound (search rules))
