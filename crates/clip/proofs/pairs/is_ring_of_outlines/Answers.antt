use Rattle.std.proofs.Common.{length, IsTrue, false, subst, sym, ◌∙◌}
use Rattle.std.proofs.lemmas.Slice.Eq.{slice_eq-Decides}
use Rattle.std.proofs.lemmas.Bool.Decides.{Decides-eqb}
use Rattle.vec_exact.proofs.Accepted.{accepted_convex}
use Rattle.cone_laws.specs.Ring.{planes_of_pair, IsRing}
use Rattle.cone_laws.proofs.Pairs.{ring_meets}
use Rattle.cone_laws.proofs.Unique.{unique}
use Rattle.clip.specs.Outlines.{nodes_of}
use Rattle.clip.proofs.pairs.is_ring_of_outlines.Goals as goal

untrue : IsTrue false → ⊥
untrue e = cc

pub returns-in-None : goal.returns-in-None
returns-in-None c =
    let f = nodes_of c.args.f.now in
    let g = nodes_of c.args.g.now in
    (λ t. absurd (untrue t), λ r. absurd (c.in-None.ensures (ring_meets f g c.args.ring.now.items (accepted_convex f c.requires.f.accepted) (accepted_convex g c.requires.g.accepted) r)))

pub returns-in-Some : goal.returns-in-Some
returns-in-Some c =
    let f = nodes_of c.args.f.now in
    let g = nodes_of c.args.g.now in
    let ps = planes_of_pair f g in
    let a = c.as_slice.ensures.value in
    let b = c.as_slice-in-Some.ensures.value in
    let d = slice_eq-Decides Decides-eqb c.as_slice.result.now c.as_slice-in-Some.result.now c.eq.result c.eq.ensures in (
      λ t. subst (IsRing f g) (sym a ∙ d.0 t ∙ b) c.in-Some.ensures,
      λ r. d.1 (a ∙ unique ps (length ps) c.in-Some.found.items c.args.ring.now.items c.in-Some.ensures r ∙ sym b),
    )
