use Rattle.std.proofs.Common.{rules, ◌≡◌, ◌+◌, ap, ap₂, subst, ◌∙◌, ◌*◌, length, drop, slice_range, arith}
use Rattle.map_rows.specs.Maps.{MapParts, IsSoundMap}
use Rattle.map_rows.specs.Application.{application_of, whole_of, rest_of, wholes_of, rests_of, target_mass_of}
use Rattle.map_rows.specs.Laws.{KeepsConstants, KeepsBounds, IsFieldOf}
use Rattle.map_rows.proofs.AreaSums.{written}
use Rattle.map_rows.proofs.Masses.{equal_masses}
use Rattle.map_rows.proofs.Bounds.{rests_below, constants_kept, bounds_kept}
use Rattle.apply_map.proofs.Parts.{put_size, all_numbers}
use Rattle.apply_map.proofs.Slices.{of_equals}
use Rattle.apply_map.proofs.application.apply.Goals as goal

pub returns-clause-field : goal.returns-clause-field
returns-clause-field c =
    let m = c.args.map.now in
    let slices = c.args.slices in
    let values = c.args.values.now in
    let ready : c.in_ok-targets.targets ≡ m = c.in_ok-targets.ensures in
    let wholes : length c.deref_mut.result.now ≡ slices * m.n_b = search rules in
    let rests : length c.deref_mut-2.result.now ≡ slices * m.n_b = search rules in
    let put_whole = c.put_wholes.ensures ∙ ap (λ (p : MapParts). slice_range (wholes_of (application_of p slices values)) 0 (0 + length c.deref_mut.result.now)) ready in
    let put_rest = c.put_rests.ensures ∙ ap (λ (p : MapParts). slice_range (rests_of (application_of p slices values)) 0 (0 + length c.deref_mut-2.result.now)) ready in
    let a : length c.put_wholes.new.into ≡ c.in_ok-whole.whole.len = omega (arith, put_size whole_of m slices values _ _ wholes put_whole, c.deref_mut.ensures.len) in
    let b : length c.put_rests.new.into ≡ c.in_ok-rest.rest.len = omega (arith, put_size rest_of m slices values _ _ rests put_rest, c.deref_mut-2.ensures.len) in
    let whole = written c.in_ok-whole.whole.len c.put_wholes.new.into (drop (length c.put_wholes.new.into) c.in_ok-whole.whole.items) a ∙ all_numbers whole_of m slices values c.deref_mut.result.now c.put_wholes.new.into wholes put_whole in
    let rest = written c.in_ok-rest.rest.len c.put_rests.new.into (drop (length c.put_rests.new.into) c.in_ok-rest.rest.items) b ∙ all_numbers rest_of m slices values c.deref_mut-2.result.now c.put_rests.new.into rests put_rest in
    λ i. record { whole = whole i; rest = rest i }

pub returns-clause-masses : goal.returns-clause-masses
returns-clause-masses c =
    let m = c.args.map.now in
    let slices = c.args.slices in
    let values = c.args.values.now in
    let ready : c.in_ok-targets.targets ≡ m = c.in_ok-targets.ensures in
    let wholes : length c.deref_mut.result.now ≡ slices * m.n_b = search rules in
    let rests : length c.deref_mut-2.result.now ≡ slices * m.n_b = search rules in
    let put_whole = c.put_wholes.ensures ∙ ap (λ (p : MapParts). slice_range (wholes_of (application_of p slices values)) 0 (0 + length c.deref_mut.result.now)) ready in
    let put_rest = c.put_rests.ensures ∙ ap (λ (p : MapParts). slice_range (rests_of (application_of p slices values)) 0 (0 + length c.deref_mut-2.result.now)) ready in
    let a : length c.put_wholes.new.into ≡ c.in_ok-whole.whole.len = omega (arith, put_size whole_of m slices values _ _ wholes put_whole, c.deref_mut.ensures.len) in
    let b : length c.put_rests.new.into ≡ c.in_ok-rest.rest.len = omega (arith, put_size rest_of m slices values _ _ rests put_rest, c.deref_mut-2.ensures.len) in
    let whole = written c.in_ok-whole.whole.len c.put_wholes.new.into (drop (length c.put_wholes.new.into) c.in_ok-whole.whole.items) a ∙ all_numbers whole_of m slices values c.deref_mut.result.now c.put_wholes.new.into wholes put_whole in
    let rest = written c.in_ok-rest.rest.len c.put_rests.new.into (drop (length c.put_rests.new.into) c.in_ok-rest.rest.items) b ∙ all_numbers rest_of m slices values c.deref_mut-2.result.now c.put_rests.new.into rests put_rest in
    let sound : IsSoundMap m = subst IsSoundMap c.map.view_is c.map.invariant in
    ap₂ (target_mass_of m slices) whole rest ∙ equal_masses m slices values sound

pub returns-clause-constants : goal.returns-clause-constants
returns-clause-constants c =
    let m = c.args.map.now in
    let slices = c.args.slices in
    let values = c.args.values.now in
    let ready : c.in_ok-targets.targets ≡ m = c.in_ok-targets.ensures in
    let wholes : length c.deref_mut.result.now ≡ slices * m.n_b = search rules in
    let rests : length c.deref_mut-2.result.now ≡ slices * m.n_b = search rules in
    let put_whole = c.put_wholes.ensures ∙ ap (λ (p : MapParts). slice_range (wholes_of (application_of p slices values)) 0 (0 + length c.deref_mut.result.now)) ready in
    let put_rest = c.put_rests.ensures ∙ ap (λ (p : MapParts). slice_range (rests_of (application_of p slices values)) 0 (0 + length c.deref_mut-2.result.now)) ready in
    let a : length c.put_wholes.new.into ≡ c.in_ok-whole.whole.len = omega (arith, put_size whole_of m slices values _ _ wholes put_whole, c.deref_mut.ensures.len) in
    let b : length c.put_rests.new.into ≡ c.in_ok-rest.rest.len = omega (arith, put_size rest_of m slices values _ _ rests put_rest, c.deref_mut-2.ensures.len) in
    let whole = written c.in_ok-whole.whole.len c.put_wholes.new.into (drop (length c.put_wholes.new.into) c.in_ok-whole.whole.items) a ∙ all_numbers whole_of m slices values c.deref_mut.result.now c.put_wholes.new.into wholes put_whole in
    let rest = written c.in_ok-rest.rest.len c.put_rests.new.into (drop (length c.put_rests.new.into) c.in_ok-rest.rest.items) b ∙ all_numbers rest_of m slices values c.deref_mut-2.result.now c.put_rests.new.into rests put_rest in
    let sound : IsSoundMap m = subst IsSoundMap c.map.view_is c.map.invariant in
    of_equals (KeepsConstants m slices values) _ _ _ _ whole rest (constants_kept m slices values sound)

pub returns-clause-bounds : goal.returns-clause-bounds
returns-clause-bounds c =
    let m = c.args.map.now in
    let slices = c.args.slices in
    let values = c.args.values.now in
    let ready : c.in_ok-targets.targets ≡ m = c.in_ok-targets.ensures in
    let wholes : length c.deref_mut.result.now ≡ slices * m.n_b = search rules in
    let rests : length c.deref_mut-2.result.now ≡ slices * m.n_b = search rules in
    let put_whole = c.put_wholes.ensures ∙ ap (λ (p : MapParts). slice_range (wholes_of (application_of p slices values)) 0 (0 + length c.deref_mut.result.now)) ready in
    let put_rest = c.put_rests.ensures ∙ ap (λ (p : MapParts). slice_range (rests_of (application_of p slices values)) 0 (0 + length c.deref_mut-2.result.now)) ready in
    let a : length c.put_wholes.new.into ≡ c.in_ok-whole.whole.len = omega (arith, put_size whole_of m slices values _ _ wholes put_whole, c.deref_mut.ensures.len) in
    let b : length c.put_rests.new.into ≡ c.in_ok-rest.rest.len = omega (arith, put_size rest_of m slices values _ _ rests put_rest, c.deref_mut-2.ensures.len) in
    let whole = written c.in_ok-whole.whole.len c.put_wholes.new.into (drop (length c.put_wholes.new.into) c.in_ok-whole.whole.items) a ∙ all_numbers whole_of m slices values c.deref_mut.result.now c.put_wholes.new.into wholes put_whole in
    let rest = written c.in_ok-rest.rest.len c.put_rests.new.into (drop (length c.put_rests.new.into) c.in_ok-rest.rest.items) b ∙ all_numbers rest_of m slices values c.deref_mut-2.result.now c.put_rests.new.into rests put_rest in
    let sound : IsSoundMap m = subst IsSoundMap c.map.view_is c.map.invariant in
    of_equals (KeepsBounds m slices values) _ _ _ _ whole rest (bounds_kept m slices values sound)

pub returns-clause-rests : goal.returns-clause-rests
returns-clause-rests c =
    let m = c.args.map.now in
    let slices = c.args.slices in
    let values = c.args.values.now in
    let ready : c.in_ok-targets.targets ≡ m = c.in_ok-targets.ensures in
    let wholes : length c.deref_mut.result.now ≡ slices * m.n_b = search rules in
    let rests : length c.deref_mut-2.result.now ≡ slices * m.n_b = search rules in
    let put_whole = c.put_wholes.ensures ∙ ap (λ (p : MapParts). slice_range (wholes_of (application_of p slices values)) 0 (0 + length c.deref_mut.result.now)) ready in
    let put_rest = c.put_rests.ensures ∙ ap (λ (p : MapParts). slice_range (rests_of (application_of p slices values)) 0 (0 + length c.deref_mut-2.result.now)) ready in
    let a : length c.put_wholes.new.into ≡ c.in_ok-whole.whole.len = omega (arith, put_size whole_of m slices values _ _ wholes put_whole, c.deref_mut.ensures.len) in
    let b : length c.put_rests.new.into ≡ c.in_ok-rest.rest.len = omega (arith, put_size rest_of m slices values _ _ rests put_rest, c.deref_mut-2.ensures.len) in
    let whole = written c.in_ok-whole.whole.len c.put_wholes.new.into (drop (length c.put_wholes.new.into) c.in_ok-whole.whole.items) a ∙ all_numbers whole_of m slices values c.deref_mut.result.now c.put_wholes.new.into wholes put_whole in
    let rest = written c.in_ok-rest.rest.len c.put_rests.new.into (drop (length c.put_rests.new.into) c.in_ok-rest.rest.items) b ∙ all_numbers rest_of m slices values c.deref_mut-2.result.now c.put_rests.new.into rests put_rest in
    let sound : IsSoundMap m = subst IsSoundMap c.map.view_is c.map.invariant in
    of_equals (IsFieldOf m slices) _ _ _ _ whole rest (rests_below m slices values sound)
