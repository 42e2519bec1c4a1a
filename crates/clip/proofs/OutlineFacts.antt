-- Faces in 64 bits: their nodes and planes by place.
use Rattle.std.proofs.Common.{◌≡◌, ℕ, ◌+◌, ◌<◌, ℤ, pos, ◌≤ℤ◌, List, [], ◌∷◌, ◌++◌, length, take, slice_index_or, arith, ap, sym, ◌∙◌, subst}
use Rattle.std.proofs.lemmas.Int.{ints}
use Rattle.std.proofs.lemmas.List.{get_or-map, length-map, map_push, take_more}
use Rattle.vec_exact.specs.declared.Vec3.{Vec3}
use Rattle.vec_exact.specs.Vector.{zero_triple, inner, cross}
use Rattle.vec_exact.specs.Size.{Is18, Is37}
use Rattle.vec_exact.specs.Cycle.{after, vector_at, face_plane}
use Rattle.vec_exact.specs.Face.{IsAcceptedFace}
use Rattle.vec_exact.proofs.Accepted.{accepted_node, face_plane_is37}
use Rattle.cone_laws.specs.Ring.{face_planes}
use Rattle.cone_laws.proofs.Pairs.{length-face_planes, face_planes_at}
use Rattle.clip.specs.declared.narrow.NarrowVec3.{NarrowVec3}
use Rattle.clip.specs.declared.outlines.Outline.{Outline}
use Rattle.clip.specs.Apart.{KeepsOff}
use Rattle.clip.specs.Narrow.{wide, narrow_zero, AreNodeSized}
use Rattle.clip.specs.Outlines.{wide_list, nodes_of, IsOutline}
use Rattle.clip.proofs.Pair.{first_edges, one_more_edge}

pub length-wide_list : (l : List NarrowVec3) → length (wide_list l) ≡ length l
length-wide_list l = length-map l wide

pub wide_at : (l : List NarrowVec3) (t : ℕ) → t < length l → vector_at (wide_list l) t ≡ wide (slice_index_or l t narrow_zero)
wide_at l t lt = get_or-map wide l t narrow_zero zero_triple lt

-- ---- lists that grow
pub one_more_node : (l : List NarrowVec3) (f : List Vec3) (t : ℕ) (n : NarrowVec3) → wide_list l ≡ take t f → t < length f → wide n ≡ vector_at f t → wide_list (l ++ n ∷ []) ≡ take (t + 1) f
one_more_node l f t n e lt w =
    map_push wide l n ∙ ap (λ (k : List Vec3). k ++ wide n ∷ []) e ∙ ap (λ (v : Vec3). take t f ++ v ∷ []) w ∙ sym (take_more f t zero_triple lt)

-- ---- a face by its parts
pub record AreParts (f : List Vec3) (ns ps : List NarrowVec3) : Type 0 where
  pub accepted : IsAcceptedFace f
  pub nodes : wide_list ns ≡ f
  pub planes : wide_list ps ≡ face_planes f

pub parts_of : (e : Outline) (ns ps : List NarrowVec3) → IsOutline e → ns ≡ e.nodes.items → ps ≡ e.planes.items → AreParts (nodes_of e) ns ps
parts_of e ns ps h n p = record { accepted = h.accepted; nodes = ap wide_list n; planes = ap wide_list p ∙ h.planes }

pub node_count : (f : List Vec3) (ns ps : List NarrowVec3) → AreParts f ns ps → length ns ≡ length f
node_count f ns ps a = sym (length-wide_list ns) ∙ ap (length {A = Vec3}) a.nodes

pub plane_count : (f : List Vec3) (ns ps : List NarrowVec3) → AreParts f ns ps → length ps ≡ length f
plane_count f ns ps a = sym (length-wide_list ps) ∙ ap (length {A = Vec3}) a.planes ∙ length-face_planes f

pub node_is : (f : List Vec3) (ns ps : List NarrowVec3) → AreParts f ns ps → (t : ℕ) → t < length f → wide (slice_index_or ns t narrow_zero) ≡ vector_at f t
node_is f ns ps a t lt = sym (wide_at ns t (omega (arith, node_count f ns ps a))) ∙ ap (λ (l : List Vec3). vector_at l t) a.nodes

pub plane_is : (f : List Vec3) (ns ps : List NarrowVec3) → AreParts f ns ps → (t : ℕ) → t < length f → wide (slice_index_or ps t narrow_zero) ≡ face_plane f t
plane_is f ns ps a t lt = sym (wide_at ps t (omega (arith, plane_count f ns ps a))) ∙ ap (λ (l : List Vec3). vector_at l t) a.planes ∙ face_planes_at f t lt

pub wide_nodes_small : (f : List Vec3) (ns : List NarrowVec3) → IsAcceptedFace f → wide_list ns ≡ f → AreNodeSized ns
wide_nodes_small f ns a e t lt =
    let l : t < length f = omega (arith, length-wide_list ns, ap (length {A = Vec3}) e) in
    subst Is18 (sym (sym (wide_at ns t lt) ∙ ap (λ (l : List Vec3). vector_at l t) e)) (accepted_node f a t l).small

pub nodes_small : (f : List Vec3) (ns ps : List NarrowVec3) → AreParts f ns ps → AreNodeSized ns
nodes_small f ns ps a t lt =
    let l : t < length f = omega (arith, node_count f ns ps a) in
    subst Is18 (sym (node_is f ns ps a t l)) (accepted_node f a.accepted t l).small

pub plane_small : (f : List Vec3) (ns ps : List NarrowVec3) → AreParts f ns ps → (t : ℕ) → t < length ps → Is37 (wide (slice_index_or ps t narrow_zero))
plane_small f ns ps a t lt =
    let l : t < length f = omega (arith, plane_count f ns ps a) in
    subst Is37 (sym (plane_is f ns ps a t l)) (face_plane_is37 f a.accepted t l)

-- ---- the sides of one face's nodes on the other's planes
side_is : (f g : List Vec3) (fn fp gn gp : List NarrowVec3) → AreParts f fn fp → AreParts g gn gp → (t s : ℕ) → t < length f → s < length g
    → inner (wide (slice_index_or fp t narrow_zero)) (wide (slice_index_or gn s narrow_zero)) ≡ inner (face_plane f t) (vector_at g s)
side_is f g fn fp gn gp a b t s lt ls =
    ap (λ (p : Vec3). inner p (wide (slice_index_or gn s narrow_zero))) (plane_is f fn fp a t lt) ∙ ap (inner (face_plane f t)) (node_is g gn gp b s ls)

pub kept_off : (f g : List Vec3) (fn fp gn gp : List NarrowVec3) (t : ℕ) (z : ℤ) → AreParts f fn fp → AreParts g gn gp → t < length fp
    → ((s : ℕ) → s < length gn → inner (wide (slice_index_or fp t narrow_zero)) (wide (slice_index_or gn s narrow_zero)) ≤ℤ z) → z ≤ℤ pos 0 → KeepsOff f g
kept_off f g fn fp gn gp t z a b lt h n =
    let l : t < length f = omega (arith, plane_count f fn fp a) in
    (t, l, λ s ls. subst (λ (y : ℤ). y ≤ℤ pos 0) (side_is f g fn fp gn gp a b t s l ls) (omega (arith, ints, h s (omega (arith, node_count g gn gp b)), n)))

-- the same for nodes that no planes are known of
pub kept_off_nodes : (f : List Vec3) (fn fp gn : List NarrowVec3) (t : ℕ) → AreParts f fn fp → t < length fp
    → ((s : ℕ) → s < length gn → inner (wide (slice_index_or fp t narrow_zero)) (wide (slice_index_or gn s narrow_zero)) ≤ℤ pos 0) → KeepsOff f (wide_list gn)
kept_off_nodes f fn fp gn t a lt h =
    let l : t < length f = omega (arith, plane_count f fn fp a) in (
      t,
      l,
      λ s ls. let lg : s < length gn = omega (arith, length-wide_list gn) in
          subst (λ (y : ℤ). y ≤ℤ pos 0)
          (ap (λ (p : Vec3). inner p (wide (slice_index_or gn s narrow_zero))) (plane_is f fn fp a t l) ∙ ap (inner (face_plane f t)) (sym (wide_at gn s lg)))
          (h s lg),
    )

pub cuts_nothing : (f g : List Vec3) (fn fp gn gp : List NarrowVec3) (t : ℕ) (z : ℤ) → AreParts f fn fp → AreParts g gn gp → t < length gp
    → ((s : ℕ) → s < length fn → z ≤ℤ inner (wide (slice_index_or gp t narrow_zero)) (wide (slice_index_or fn s narrow_zero))) → pos 0 ≤ℤ z
    → (s : ℕ) → s < length f → pos 0 ≤ℤ inner (face_plane g t) (vector_at f s)
cuts_nothing f g fn fp gn gp t z a b lt h n s ls =
    let l : t < length g = omega (arith, plane_count g gn gp b) in
    subst (λ (y : ℤ). pos 0 ≤ℤ y) (side_is g f gn gp fn fp b a t s l ls) (omega (arith, ints, h s (omega (arith, node_count f fn fp a)), n))

pub one_more_plane : (ps ns : List NarrowVec3) (t j : ℕ) (n : NarrowVec3) → wide_list ps ≡ first_edges (wide_list ns) t → t < length ns → j ≡ after (length ns) t → j < length ns
    → wide n ≡ cross (wide (slice_index_or ns t narrow_zero)) (wide (slice_index_or ns j narrow_zero)) → wide_list (ps ++ n ∷ []) ≡ first_edges (wide_list ns) (t + 1)
one_more_plane ps ns t j n e lt f lj q =
    map_push wide ps n ∙ ap (λ (l : List Vec3). l ++ wide n ∷ []) e
    ∙ one_more_edge [] (wide_list ns) t (wide n)
    (q ∙ ap (λ (v : Vec3). cross v (wide (slice_index_or ns j narrow_zero))) (sym (wide_at ns t lt)) ∙ ap (cross (vector_at (wide_list ns) t)) (sym (wide_at ns j lj))
    ∙ ap (λ (i : ℕ). cross (vector_at (wide_list ns) t) (vector_at (wide_list ns) i)) (f ∙ ap (λ (k : ℕ). after k t) (sym (length-wide_list ns))))
