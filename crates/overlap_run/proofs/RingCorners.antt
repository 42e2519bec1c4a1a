-- The corners of the ring of two faces.
use Rattle.std.proofs.Common.{◌≡◌, ◌≢◌, ℕ, ◌+◌, ◌<◌, ℤ, pos, ◌*ℤ◌, ◌<ℤ◌, List, [], ◌∷◌, ◌++◌, length, map, refl, ap, ap₂, sym, ◌∙◌, subst, arith}
use Rattle.std.specs.List.{range_with_len}
use Rattle.std.proofs.lemmas.Int.{ints}
use Rattle.std.proofs.Math.IntN.{*ℤ_comm}
use Rattle.std.proofs.lemmas.List.FromFn.{map-range_with_len_more, length-map-range_with_len}
use borrow.Author.Differences.{product_is}
use Rattle.vec_exact.specs.declared.RawMesh.{RawMesh}
use Rattle.vec_exact.specs.declared.Vec3.{Vec3}
use Rattle.vec_exact.specs.Vector.{zero_triple, inner, scaled}
use Rattle.vec_exact.specs.Cycle.{after, corner}
use Rattle.vec_exact.specs.Face.{IsAcceptedFace}
use Rattle.vec_exact.proofs.Cycles.{turn}
use Rattle.cone_laws.specs.Ring.{planes_of_pair, listed, IsRing}
use Rattle.mesh_check.specs.Mesh.{corners_of}
use Rattle.clip.specs.declared.pieces.Piece.{Piece}
use Rattle.clip.specs.Planes.{IsFaceNumber}
use Rattle.clip.proofs.RingFacts.{sound_piece, ring_greatest_size}
use Rattle.clip.specs.declared.outlines.Outline.{Outline}
use Rattle.clip.specs.Outlines.{nodes_of, AreNumbersOf}
use Rattle.cone_laws.proofs.Pairs.{length-planes_of_pair}
use Rattle.vec_exact.proofs.Terms.{vec_eq}
use Rattle.piece_measure.specs.Grid.{grid_corner_of, grid_corners_of}
use Rattle.overlap_run.specs.Parts.{IsPieceAt}

-- the grid corners of the first t places of a cycle of k planes
abbrev pub first_corners : ℕ → (ℕ → Vec3) → ℕ → List (List ℤ)
first_corners k n t = map (λ (s : ℕ). grid_corner_of (corner k n s)) (range_with_len 0 t)

pub one_more_corner : (k : ℕ) (n : ℕ → Vec3) (t s : ℕ) (items new : List (List ℤ)) (v : Vec3) (x : List ℤ) → items ≡ first_corners k n t → new ≡ items ++ x ∷ []
    → x ≡ grid_corner_of v → v ≡ corner k n s → s ≡ t → new ≡ first_corners k n (t + 1)
one_more_corner k n t s items new v x e f g h i =
    f
    ∙ ap₂ (λ (xs : List (List ℤ)) (y : List ℤ). xs ++ y ∷ []) e (g ∙ ap grid_corner_of (h ∙ ap (corner k n) i))
    ∙ sym (map-range_with_len_more (λ (u : ℕ). grid_corner_of (corner k n u)) 0 t t (omega arith))

pub all_corners : (k : ℕ) (n : ℕ → Vec3) (t : ℕ) → t ≡ k → first_corners k n t ≡ grid_corners_of k n
unfolding grid_corners_of
all_corners k n t e = ap (first_corners k n) e

pub length-grid_corners : (k : ℕ) (n : ℕ → Vec3) → length (grid_corners_of k n) ≡ k
unfolding grid_corners_of
length-grid_corners k n = length-map-range_with_len (λ (u : ℕ). grid_corner_of (corner k n u)) 0 k

inner_zero : (a : Vec3) → inner a zero_triple ≡ pos 0
inner_zero a = omega (arith, ints, *ℤ_comm a.x (pos 0), product_is (pos 0) a.x, *ℤ_comm a.y (pos 0), product_is (pos 0) a.y, *ℤ_comm a.z (pos 0), product_is (pos 0) a.z)

-- no corner of a ring is zero: some listed plane is positive on it
pub corner_nonzero : (f g ps : List Vec3) (l : List ℕ) → ps ≡ planes_of_pair f g → IsRing f g l → (t : ℕ) → t < length l → corner (length l) (listed ps l) t ≢ zero_triple
corner_nonzero f g ps l e r t lt z =
    let n = listed (planes_of_pair f g) l in
    let k = length l in
    let zero : corner k n t ≡ zero_triple = subst (λ (qs : List Vec3). corner k (listed qs l) t ≡ zero_triple) e z in
    let above : pos 0 <ℤ inner (n (after k (after k t))) (corner k n t) = turn k n t r.cycle.convex lt in
    omega (arith, ints, subst (λ (c : Vec3). pos 0 <ℤ inner (n (after k (after k t))) c) zero above, inner_zero (n (after k (after k t))))

pub piece_at : (a b : RawMesh) (p : Piece) (ps : List Vec3) → ps ≡ planes_of_pair (corners_of a p.a) (corners_of b p.b) → IsFaceNumber a p.a → IsFaceNumber b p.b
    → IsAcceptedFace (corners_of a p.a) → IsAcceptedFace (corners_of b p.b) → IsRing (corners_of a p.a) (corners_of b p.b) p.ring.items
    → p.corners ≡ grid_corners_of (length p.ring.items) (listed ps p.ring.items) → IsPieceAt a b (record { source = p.a; target = p.b }) p
piece_at a b p ps e i j f g r c =
    let l = p.ring.items in
    let planes = planes_of_pair (corners_of a p.a) (corners_of b p.b) in
    let corners : p.corners ≡ grid_corners_of (length l) (listed planes l) = subst (λ (qs : List Vec3). p.corners ≡ grid_corners_of (length l) (listed qs l)) e c in
    record {
      pair = refl;
      right = record { ring = r; corners = corners };
      sound = sound_piece (length a.faces) (length b.faces) p (corners_of a p.a) (corners_of b p.b) f g i j r (ap (length {A = List ℤ}) corners ∙ length-grid_corners (length l) (listed planes l));
    }

-- the numbers of a ring are those of planes of the two faces
pub numbers_of_ring : (e h : Outline) (f g : List Vec3) (l : List ℕ) → nodes_of e ≡ f → nodes_of h ≡ g → IsAcceptedFace f → IsAcceptedFace g → IsRing f g l → AreNumbersOf e h l
numbers_of_ring e h f g l p q a b r = record {
  least = r.cycle.least_number;
  greatest = λ t lt. omega (arith, r.cycle.greatest_number t lt, length-planes_of_pair f g, ap (length {A = Vec3}) p, ap (length {A = Vec3}) q);
  few = ring_greatest_size f g l a b r;
}

-- where a positive multiple is not zero, neither is the triple
pub factor_nonzero : (k : ℕ) (v c : Vec3) → c ≡ scaled (pos k) v → c ≢ zero_triple → v ≢ zero_triple
factor_nonzero k v c e n z = n (e ∙ ap (scaled (pos k)) z ∙ vec_eq (scaled (pos k) zero_triple) zero_triple (none k) (none k) (none k))
  where
    none : (k : ℕ) → pos k *ℤ pos 0 ≡ pos 0
    none k = omega (arith, ints)
