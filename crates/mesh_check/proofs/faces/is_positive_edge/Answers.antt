use Rattle.std.proofs.Common.{◌≡◌, ◌∙◌, ℕ, pos, ◌<ℤ◌, IsTrue, List, length, arith, ap, subst, sym}
use Rattle.vec_exact.specs.declared.Vec3.{Vec3}
use Rattle.vec_exact.specs.Vector.{inner, cross}
use Rattle.vec_exact.specs.Cycle.{after, vector_at, face_plane}
use Rattle.vec_exact.specs.Face.{face_nodes}
use Rattle.vec_exact.proofs.Accepted.{length-face_nodes}
use Rattle.mesh_check.proofs.Edges.{positive_by_plane, plane_positive}
use Rattle.mesh_check.proofs.faces.is_positive_edge.Goals as goal

next_is : (f : List Vec3) (k t next : ℕ) → length f ≡ k → next ≡ after k t → next ≡ after (length f) t
next_is f k t next a b = b ∙ ap (λ (n : ℕ). after n t) (sym a)

plane_is : (f : List Vec3) (t next : ℕ) (plane u v : Vec3) → next ≡ after (length f) t → u ≡ vector_at f t → v ≡ vector_at f next → plane ≡ cross u v → plane ≡ face_plane f t
plane_is f t next plane u v a b c d = d ∙ ap (λ (w : Vec3). cross w v) b ∙ ap (λ (w : Vec3). cross (vector_at f t) w) (c ∙ ap (vector_at f) a)

pub returns-then-not-is_positive-clause-no : goal.returns-then-not-is_positive-clause-no
returns-then-not-is_positive-clause-no c =
    let f = face_nodes c.args.nodes.now c.args.face.now in
    let n = next_is f (length c.args.face.now) c.args.t c.next_place-next.result (length-face_nodes c.args.nodes.now c.args.face.now) c.next_place-next.ensures.value in
    let p = plane_is f c.args.t c.next_place-next.result c.cross-plane.result c.corner.result c.corner-2.result n c.corner.ensures.value c.corner-2.ensures.value c.cross-plane.ensures.value in
    λ _ h.
    let positive = plane_positive f c.args.t h c.loop-s.s (omega (arith, length-face_nodes c.args.nodes.now c.args.face.now)) c.if-s-t.true (λ e. c.if-s-next.true (e ∙ sym n)) in
    let side : inner c.cross-plane.result c.corner-then-s-next.result ≡ inner (face_plane f c.args.t) (vector_at f c.loop-s.s) =
    ap (λ (w : Vec3). inner w c.corner-then-s-next.result) p ∙ ap (λ (w : Vec3). inner (face_plane f c.args.t) w) c.corner-then-s-next.ensures.value in
    let yes : IsTrue c.is_positive.result = c.is_positive.ensures.1 (subst (λ z. pos 0 <ℤ z) (sym side) positive) in
    cc

pub returns-clause-yes : goal.returns-clause-yes
returns-clause-yes c =
    let f = face_nodes c.args.nodes.now c.args.face.now in
    let n = next_is f (length c.args.face.now) c.args.t c.next_place-next.result (length-face_nodes c.args.nodes.now c.args.face.now) c.next_place-next.ensures.value in
    let p = plane_is f c.args.t c.next_place-next.result c.cross-plane.result c.corner.result c.corner-2.result n c.corner.ensures.value c.corner-2.ensures.value c.cross-plane.ensures.value in
    λ _. positive_by_plane f c.args.t (λ s l a b. subst (λ (w : Vec3). pos 0 <ℤ inner w (vector_at f s)) p
    (c.loop-s.invariant s (omega (arith, length-face_nodes c.args.nodes.now c.args.face.now)) a (λ e. b (e ∙ n))))
