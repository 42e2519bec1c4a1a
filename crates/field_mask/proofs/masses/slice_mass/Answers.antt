use Rattle.std.proofs.Common.{rules, ◌+◌, ◌*◌, pos, refl, length, get_or, ℕ}
use mir.Syntax.{w32, w64, w128}
use mir.Val.{SFits, to_z}
use Rattle.map_rows.specs.Application.{area_at, value_at}
use Rattle.apply_map.proofs.MassSteps.{at_most_limit, no_mass, mass_more, mass_size, added, fits32}
use Rattle.field_mask.specs.Masked.{present_product}
use Rattle.field_mask.proofs.MaskedMasses.{read_present}
use Rattle.field_mask.proofs.masses.slice_mass.Goals as goal

pub loop-i-init : goal.loop-i-init
loop-i-init c = no_mass _ c.args.areas.now

pub overflow_add-mass : goal.overflow_add-mass
overflow_add-mass c =
    let size = mass_size _ c.args.areas.now c.loop-i.i (to_z w128 c.loop-i.mass-bits) c.requires.areas c.requires.fit c.loop-i.invariant in
    (added c.loop-i.mass-bits (to_z w128 c.loop-i.mass-bits) c.present_product-mass.result refl (at_most_limit _ size) c.present_product-mass.ensures.size).0

pub loop-i-preserved : goal.loop-i-preserved
loop-i-preserved c =
    let areas = c.args.areas.now in
    let values = c.args.values.now in
    let i = c.loop-i.i in
    let size = mass_size _ areas i (to_z w128 c.loop-i.mass-bits) c.requires.areas c.requires.fit c.loop-i.invariant in
    let step = (added c.loop-i.mass-bits (to_z w128 c.loop-i.mass-bits) c.present_product-mass.result refl (at_most_limit _ size) c.present_product-mass.ensures.size).1 in
    let f : SFits w64 (get_or areas i (pos 0)) = search rules in
    let g : SFits w32 (get_or values (c.args.slice * length areas + i) (pos 0)) = search rules in
    let part = read_present areas values c.args.fill c.args.slice i c.present_product-mass.result (c.requires.areas i (pos 0) c.loop-i-test.true) f (fits32 (get_or values (c.args.slice * length areas + i) (pos 0)) g) c.present_product-mass.ensures.value in
    mass_more (λ (k : ℕ). present_product c.args.fill (area_at areas k) (value_at values (length areas) c.args.slice k)) areas i (to_z w128 c.loop-i.mass-bits) c.present_product-mass.result _ c.loop-i-test.true c.loop-i.invariant step part.0 part.1 part.2
