use Rattle.std.proofs.Common.{◌≡◌, ℕ, ◌+◌, ◌<◌, length, subst, arith, Bool, false, IsTrue}
use Rattle.cone_laws.specs.Ring.{planes_of_pair, IsRingOfFirst}
use Rattle.clip.specs.Outlines.{nodes_of}
use Rattle.clip.proofs.CutFacts.{left_out, none_of_first, all_of_them}
use Rattle.clip.proofs.cuts.ring_of_cuts.Goals.{then-cuts-u+else-not-cut_outline, else-cuts-u}
use Rattle.clip.proofs.cuts.ring_of_cuts.Goals as goal

both : {b : Bool} → IsTrue b → b ≡ false → ⊥
both {b} t f = cc

pub returns-then-not-cut_outline : goal.returns-then-not-cut_outline
returns-then-not-cut_outline c =
    let f = nodes_of c.args.f.now in let g = nodes_of c.args.g.now in
    let l : c.loop-u.u < length g = omega (arith, c.requires.cuts.len, c.loop-u-test.true) in
    none_of_first f g c.loop-u.u l (λ h. both (c.cut_outline.ensures.decided.1 h) c.if-not-cut_outline.true)

pub loop-u-preserved : goal.loop-u-preserved
loop-u-preserved c =
    let f = nodes_of c.args.f.now in let g = nodes_of c.args.g.now in
    let one : length f + c.loop-u.u + 1 ≡ length f + (c.loop-u.u + 1) = omega arith in
    elim c.if-cuts-u.branch [
      | then-cuts-u+else-not-cut_outline w ↦ rw w.ring-is (subst (λ (m : ℕ). IsRingOfFirst (planes_of_pair f g) m w.cut_outline.new.ring.items) one (w.cut_outline.ensures.ring w.if-not-cut_outline.false))
      | else-cuts-u w ↦ rw w.ring-is (left_out f g c.args.cuts.now c.loop-u.u c.loop-u.ring.items c.requires.f.accepted c.requires.cuts c.loop-u-test.true w.if-cuts-u.false c.loop-u.invariant)
    ]

pub returns : goal.returns
returns c =
    let f = nodes_of c.args.f.now in let g = nodes_of c.args.g.now in
    all_of_them f g c.loop-u.u c.loop-u.ring.items (omega (arith, c.requires.cuts.len)) c.loop-u.invariant
