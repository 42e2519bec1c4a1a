use Rattle.std.proofs.Common.{◌≡◌, IsTrue, refl, ℕ, ◌+◌, sym, subst, arith, Bool, true, false, length, slice_index}
use Rattle.cone_laws.specs.Ring.{plane, planes_of_pair, IsRingOfFirst, IsCycle}
use Rattle.clip.specs.Usable.{HaveSigns}
use Rattle.clip.specs.Narrow.{wide}
use Rattle.clip.specs.Outlines.{nodes_of}
use Rattle.clip.proofs.Gap.{turned_cycle}
use Rattle.clip.proofs.OneMore.{ring_inside, kept_ring, nothing_inside}
use Rattle.clip.proofs.CutFacts.{none_zero, before, numbers_of, signs_here}
use Rattle.clip.proofs.cuts.cut_outline.Goals as goal

both : {b : Bool} → b ≡ true → b ≡ false → ⊥
both {b} t f = cc

untrue : IsTrue false → ⊥
untrue e = cc

pub signs_on-all_sides-requires-clause-numbers : goal.signs_on-all_sides-requires-clause-numbers
signs_on-all_sides-requires-clause-numbers c = numbers_of c.args.f.now c.args.g.now c.args.u c.args.ring.now.items c.requires.f c.requires.g c.requires.place c.requires.ring

stays : (c : goal.Then-not-has_negative) → IsRingOfFirst (planes_of_pair (nodes_of c.args.f.now) (nodes_of c.args.g.now)) (length (nodes_of c.args.f.now) + c.args.u + 1) c.args.ring.now.items
stays c =
    let f = nodes_of c.args.f.now in let g = nodes_of c.args.g.now in
    kept_ring (planes_of_pair f g) (length f + c.args.u + 1) c.args.ring.now.items c.as_slice-sides.result.now (omega arith) (before f g c.args.u c.args.ring.now.items c.requires.ring)
    (signs_here f g c.args.u c.args.ring.now.items (wide c.plane_of.result) c.signs_on-all_sides.result.items c.as_slice-sides.result.now c.requires.place c.plane_of.ensures.value c.as_slice-sides.ensures.value c.signs_on-all_sides.ensures)
    (λ h. both (c.has_negative.ensures.1 h) c.if-not-has_negative.true)

pub returns-then-not-has_negative-clause-ring : goal.returns-then-not-has_negative-clause-ring
returns-then-not-has_negative-clause-ring c = λ e. stays c

pub returns-then-not-has_negative-clause-decided : goal.returns-then-not-has_negative-clause-decided
returns-then-not-has_negative-clause-decided c =
    let f = nodes_of c.args.f.now in let g = nodes_of c.args.g.now in
    (λ e. ring_inside (planes_of_pair f g) (length f + c.args.u + 1) c.args.ring.now.items (none_zero f g c.args.u c.requires.f.accepted c.requires.g.accepted c.requires.place) (stays c), λ h. refl)

pub returns-in-None-clause-decided : goal.returns-in-None-clause-decided
returns-in-None-clause-decided c =
    let f = nodes_of c.args.f.now in let g = nodes_of c.args.g.now in (
      λ e. absurd (untrue e),
      λ h. absurd (nothing_inside (planes_of_pair f g) (length f + c.args.u + 1) c.args.ring.now.items c.as_slice-sides.result.now (omega arith) (before f g c.args.u c.args.ring.now.items c.requires.ring)
          (signs_here f g c.args.u c.args.ring.now.items (wide c.plane_of.result) c.signs_on-all_sides.result.items c.as_slice-sides.result.now c.requires.place c.plane_of.ensures.value c.as_slice-sides.ensures.value c.signs_on-all_sides.ensures)
          (c.has_negative.ensures.0 c.if-not-has_negative.false) c.in-None.ensures h),
    )

pub fill_outline_gap-requires-clause-sides : goal.fill_outline_gap-requires-clause-sides
fill_outline_gap-requires-clause-sides c =
    let f = nodes_of c.args.f.now in let g = nodes_of c.args.g.now in
    subst (λ (k : ℕ). HaveSigns (planes_of_pair f g) c.args.ring.now.items (plane (planes_of_pair f g) (k + c.args.u + 1)) c.as_slice-sides.result.now) (sym c.count_of.ensures.count)
    (signs_here f g c.args.u c.args.ring.now.items (wide c.plane_of.result) c.signs_on-all_sides.result.items c.as_slice-sides.result.now c.requires.place c.plane_of.ensures.value c.as_slice-sides.ensures.value c.signs_on-all_sides.ensures)

filled : (c : goal.After-begin_with_least) → IsRingOfFirst (planes_of_pair (nodes_of c.args.f.now) (nodes_of c.args.g.now)) (length (nodes_of c.args.f.now) + c.args.u + 1) c.begin_with_least.new.ring.items
filled c =
    let f = nodes_of c.args.f.now in let g = nodes_of c.args.g.now in
    let d = c.begin_with_least.ensures in
    let r = c.fill_outline_gap.new.ring.items in
    record {
      cycle = turned_cycle (plane (planes_of_pair f g)) (length f + c.args.u + 1) r c.begin_with_least.new.ring.items d.turned.0
          (record { within = omega (arith, d.turned.1); len = d.len; by_index = d.turned.2 })
          (subst (λ (k : ℕ). IsCycle (plane (planes_of_pair f g)) (k + c.args.u + 1) (length r) (slice_index r)) c.count_of.ensures.count c.fill_outline_gap.ensures);
      least_first = d.least_first;
    }

pub returns-in-Some-clause-ring : goal.returns-in-Some-clause-ring
returns-in-Some-clause-ring c = λ e. filled c

pub returns-in-Some-clause-decided : goal.returns-in-Some-clause-decided
returns-in-Some-clause-decided c =
    let f = nodes_of c.args.f.now in let g = nodes_of c.args.g.now in
    (λ e. ring_inside (planes_of_pair f g) (length f + c.args.u + 1) c.begin_with_least.new.ring.items (none_zero f g c.args.u c.requires.f.accepted c.requires.g.accepted c.requires.place) (filled c), λ h. refl)
