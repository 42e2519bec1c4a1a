use Rattle.std.proofs.Common.{rules, ◌≡◌, ◌∙◌, ℕ, ap, subst, arith}
use Rattle.map_rows.specs.Maps.{MapParts, IsSoundMap}
use Rattle.map_rows.specs.Application.{whole_of}
use Rattle.apply_map.proofs.Parts.{numbers, count_of, no_target_yet, target_more, all_targets, TargetsSoFar}
use Rattle.apply_map.proofs.numbers.put_wholes.Goals as goal

pub loop-j-init : goal.loop-j-init
loop-j-init c =
    let m = c.args.targets.now in
    no_target_yet m.n_b (numbers whole_of m c.args.slices c.args.values.now) c.args.from c.args.into.now

pub put_target_wholes-requires-clause-within : goal.put_target_wholes-requires-clause-within
put_target_wholes-requires-clause-within c = omega (arith, c.requires.within, c.loop-j.invariant.size)

pub loop-j-preserved : goal.loop-j-preserved
loop-j-preserved c =
    let m = c.args.targets.now in
    target_more m.n_b (numbers whole_of m c.args.slices c.args.values.now) c.args.from c.loop-j.j c.args.into.now c.loop-j.into c.put_target_wholes.new.into c.loop-j.invariant c.put_target_wholes.ensures

pub returns : goal.returns
returns c =
    let m = c.args.targets.now in
    let all = numbers whole_of m c.args.slices c.args.values.now in
    let n : c.map.inside.n_b ≡ m.n_b = ap (λ (p : MapParts). p.n_b) (c.map.view_is ∙ c.map-map.ensures) in
    let sound : IsSoundMap m = subst IsSoundMap (c.map.view_is ∙ c.map-map.ensures) c.map.invariant in
    let last : c.loop-j.j ≡ m.n_b = search rules in
    all_targets m.n_b all c.args.from c.args.into.now c.loop-j.into sound.target_faces.0 (omega (arith, c.requires.within, count_of whole_of m c.args.slices c.args.values.now))
    (subst (λ (k : ℕ). TargetsSoFar m.n_b all c.args.from k c.args.into.now c.loop-j.into) last c.loop-j.invariant)
