-- A corner where neighbouring edges of a face meet is a positive multiple of a node.
use Rattle.std.proofs.Common.{◌≡◌, ℕ, ◌<◌, ◌<ℤ◌, ℤ, pos, negsuc, List, length, arith, refl, ap, sym, ◌∙◌, subst}
use Rattle.std.proofs.lemmas.Int.{ints}
use Rattle.vec_exact.specs.declared.Vec3.{Vec3}
use Rattle.vec_exact.specs.Vector.{cross, det, scaled}
use Rattle.vec_exact.specs.Cycle.{after, vector_at, face_plane}
use Rattle.vec_exact.specs.Face.{IsAcceptedFace}
use Rattle.vec_exact.proofs.Identities.{edges_meet}
use Rattle.vec_exact.proofs.Accepted.{accepted_convex}
use Rattle.cone_laws.specs.Ring.{plane}
use Rattle.cone_laws.proofs.FaceEdges.{face_turn}
use Rattle.clip.specs.declared.forms.CornerForm.{CornerForm}
use Rattle.clip.specs.Forms.{IsFormOf}

as_pos : (z : ℤ) → pos 0 <ℤ z → (k : ℕ) × (0 < k) × (z ≡ pos k)
as_pos (pos n) h = (n, omega (arith, ints), refl)
as_pos (negsuc n) h = absurd (omega (arith, ints))

pub node_form : (f : List Vec3) (t s : ℕ) (v : Vec3) → IsAcceptedFace f → t < length f → after (length f) t ≡ s → v ≡ vector_at f s
    → (k : ℕ) × (0 < k) × (cross (face_plane f t) (face_plane f s) ≡ scaled (pos k) v)
node_form f t s v a lt e q =
    let n = length f in
    let w = vector_at f in
    let d = det (w t) (w (after n t)) (w (after n (after n t))) in
    let p = as_pos d (face_turn n w (accepted_convex f a) t lt) in (
      p.0,
      p.1,
      ap (λ (i : ℕ). cross (face_plane f t) (face_plane f i)) (sym e) ∙ edges_meet (w t) (w (after n t)) (w (after n (after n t)))
          ∙ ap (λ (z : ℤ). scaled z (w (after n t))) p.2 ∙ ap (λ (i : ℕ). scaled (pos p.0) (w i)) e ∙ ap (scaled (pos p.0)) (sym q),
    )

pub form_at : (x : CornerForm) (ps : List Vec3) (i j : ℕ) (p q : Vec3) → plane ps i ≡ p → plane ps j ≡ q → IsFormOf x (cross p q) → IsFormOf x (cross (plane ps i) (plane ps j))
form_at x ps i j p q a b h =
    subst (λ (v : Vec3). IsFormOf x (cross v (plane ps j))) (sym a) (subst (λ (v : Vec3). IsFormOf x (cross p v)) (sym b) h)
