use Rattle.std.proofs.Common.{◌≡◌, IsTrue, refl, ℕ, sym, subst, arith, List, Bool, true, false, ℤ}
use Rattle.vec_exact.specs.declared.Vec3.{Vec3}
use Rattle.cone_laws.specs.Ring.{plane, IsRingOfFirst}
use Rattle.clip.specs.Usable.{HaveSigns}
use Rattle.clip.proofs.Gap.{turned_cycle}
use Rattle.clip.proofs.OneMore.{ring_inside, kept_ring, nothing_inside}
use Rattle.clip.proofs.rings.cut.Goals as goal

both : {b : Bool} → b ≡ true → b ≡ false → ⊥
both {b} t f = cc

untrue : IsTrue false → ⊥
untrue e = cc

-- the sides that the code looks at
here : (ps : List Vec3) (m : ℕ) (l : List ℕ) (n : Vec3) (s r : List ℤ) → n ≡ plane ps m → r ≡ s → HaveSigns ps l n s → HaveSigns ps l (plane ps m) r
here ps m l n s r e f a = subst (HaveSigns ps l (plane ps m)) (sym f) (subst (λ (q : Vec3). HaveSigns ps l q s) e a)

stays : (c : goal.Then-not-has_negative) → IsRingOfFirst c.args.planes.now.items c.args.m c.args.ring.now.items
stays c =
    let ps = c.args.planes.now.items in
    let l = c.args.ring.now.items in
    kept_ring ps c.args.m l c.as_slice-sides.result.now (omega (arith, c.requires.least)) c.requires.ring
    (here ps c.args.m l c.plane_at.result c.sides_of-all_sides.result.items c.as_slice-sides.result.now c.plane_at.ensures c.as_slice-sides.ensures.value c.sides_of-all_sides.ensures)
    (λ h. both (c.has_negative.ensures.1 h) c.if-not-has_negative.true)

pub returns-then-not-has_negative-clause-ring : goal.returns-then-not-has_negative-clause-ring
returns-then-not-has_negative-clause-ring c = λ e. stays c

pub returns-then-not-has_negative-clause-decided : goal.returns-then-not-has_negative-clause-decided
returns-then-not-has_negative-clause-decided c = (λ e. ring_inside c.args.planes.now.items c.args.m c.args.ring.now.items c.requires.nonzero (stays c), λ h. refl)

pub returns-in-None-clause-decided : goal.returns-in-None-clause-decided
returns-in-None-clause-decided c =
    let ps = c.args.planes.now.items in
    let l = c.args.ring.now.items in (
      λ e. absurd (untrue e),
      λ h. absurd (nothing_inside ps c.args.m l c.as_slice-sides.result.now (omega (arith, c.requires.least)) c.requires.ring
          (here ps c.args.m l c.plane_at.result c.sides_of-all_sides.result.items c.as_slice-sides.result.now c.plane_at.ensures c.as_slice-sides.ensures.value c.sides_of-all_sides.ensures)
          (c.has_negative.ensures.0 c.if-not-has_negative.false) c.in-None.ensures h),
    )

filled : (c : goal.After-begin_with_least) → IsRingOfFirst c.args.planes.now.items c.args.m c.begin_with_least.new.ring.items
filled c =
    let d = c.begin_with_least.ensures in
    record {
      cycle = turned_cycle (plane c.args.planes.now.items) c.args.m c.fill_gap.new.ring.items c.begin_with_least.new.ring.items d.turned.0
          (record { within = omega (arith, d.turned.1); len = d.len; by_index = d.turned.2 }) c.fill_gap.ensures;
      least_first = d.least_first;
    }

pub returns-in-Some-clause-ring : goal.returns-in-Some-clause-ring
returns-in-Some-clause-ring c = λ e. filled c

pub returns-in-Some-clause-decided : goal.returns-in-Some-clause-decided
returns-in-Some-clause-decided c = (λ e. ring_inside c.args.planes.now.items c.args.m c.begin_with_least.new.ring.items c.requires.nonzero (filled c), λ h. refl)
