-- The corners of the ring of two faces, and pieces that are right.
use Rattle.std.proofs.Common.{◌≡◌, ◌≢◌, ℕ, ◌+◌, ◌<◌, ℤ, pos, ◌<ℤ◌, List, [], ◌∷◌, ◌++◌, length, map, get_or, take, Bool, true, false, not, int_eq, refl, ap, ap₂, sym, ◌∙◌, subst, arith}
use Rattle.std.specs.List.{range_with_len}
use lib.Pointwise.{pointwise}
use Rattle.std.specs.Cmp.Rules.{signed_items}
use Rattle.std.proofs.lemmas.Int.{ints}
use Rattle.std.proofs.lemmas.List.{take_more}
use Rattle.std.proofs.lemmas.List.FromFn.{map-range_with_len_more, get_or-map-range_with_len}
use Rattle.vec_exact.specs.declared.Vec3.{Vec3}
use Rattle.vec_exact.specs.Vector.{zero_triple, inner}
use Rattle.vec_exact.specs.Cycle.{after, corner}
use Rattle.vec_exact.proofs.Cycles.{turn}
use Rattle.vec_exact.proofs.Identities.{inner_zero}
use Rattle.cone_laws.specs.Ring.{planes_of_pair, listed, IsRing}
use Rattle.cone_laws.proofs.Pairs.{length-planes_of_pair}
use Rattle.clip.specs.declared.outlines.Outline.{Outline}
use Rattle.clip.specs.Outlines.{nodes_of, IsOutline, AreNumbersOf}
use Rattle.clip.proofs.RingFacts.{ring_greatest_size}
use Rattle.piece_measure.specs.Grid.{grid_corner_of, grid_corners_of}

-- the grid corners of the first t places of a cycle of k planes
abbrev pub first_corners : ℕ → (ℕ → Vec3) → ℕ → List (List ℤ)
first_corners k n t = map (λ (s : ℕ). grid_corner_of (corner k n s)) (range_with_len 0 t)

pub all_corners : (k : ℕ) (n : ℕ → Vec3) (t : ℕ) → t ≡ k → first_corners k n t ≡ grid_corners_of k n
unfolding grid_corners_of
all_corners k n t e = ap (first_corners k n) e

-- one more of the corners is the grid corner v of its place
pub one_more_corner : (k : ℕ) (n : ℕ → Vec3) (corners : List (List ℤ)) (t s : ℕ) (d x : List ℤ) (v : Vec3) → take t corners ≡ first_corners k n t → t < length corners → x ≡ get_or corners t d
    → x ≡ grid_corner_of v → v ≡ corner k n s → s ≡ t → take (t + 1) corners ≡ first_corners k n (t + 1)
one_more_corner k n corners t s d x v e within here g c p =
    take_more corners t d within
    ∙ ap₂ (λ (xs : List (List ℤ)) (y : List ℤ). xs ++ y ∷ []) e (sym here ∙ g ∙ ap grid_corner_of (c ∙ ap (corner k n) p))
    ∙ sym (map-range_with_len_more (λ (u : ℕ). grid_corner_of (corner k n u)) 0 t t (omega arith))

-- where one corner is another triple, the corners are not the grid corners
pub other_corner : (k : ℕ) (n : ℕ → Vec3) (corners : List (List ℤ)) (t s : ℕ) (d x y : List ℤ) (v : Vec3) → t < k → x ≡ get_or corners t d → y ≡ grid_corner_of v → v ≡ corner k n s → s ≡ t
    → (x ≡ y → ⊥) → corners ≡ grid_corners_of k n → ⊥
unfolding grid_corners_of
other_corner k n corners t s d x y v within here g c p differs e =
    differs
    (here ∙ ap (λ (xs : List (List ℤ)). get_or xs t d) e ∙ get_or-map-range_with_len (λ (u : ℕ). grid_corner_of (corner k n u)) 0 k t t d within (omega arith)
    ∙ sym (g ∙ ap grid_corner_of (c ∙ ap (corner k n) p)))

-- no corner of a ring is zero: some listed plane is positive on it
pub corner_nonzero : (f g ps : List Vec3) (l : List ℕ) → ps ≡ planes_of_pair f g → IsRing f g l → (t : ℕ) → t < length l → corner (length l) (listed ps l) t ≢ zero_triple
corner_nonzero f g ps l e r t lt z =
    let n = listed (planes_of_pair f g) l in
    let k = length l in
    let zero : corner k n t ≡ zero_triple = subst (λ (qs : List Vec3). corner k (listed qs l) t ≡ zero_triple) e z in
    let above : pos 0 <ℤ inner (n (after k (after k t))) (corner k n t) = turn k n t r.cycle.convex lt in
    omega (arith, ints, subst (λ (c : Vec3). pos 0 <ℤ inner (n (after k (after k t))) c) zero above, inner_zero (n (after k (after k t))))

-- what the test of two triples has told
pub other_triple : (x y : List ℤ) → true ≡ not (pointwise int_eq x y) → x ≡ y → ⊥
other_triple x y told e = let t = (signed_items x y).1 e in cc

settled : (b : Bool) → false ≡ not b → b ≡ true
settled true e = refl
settled false e = cc

pub same_triple : (x y : List ℤ) → false ≡ not (pointwise int_eq x y) → x ≡ y
same_triple x y told = (signed_items x y).0 (settled (pointwise int_eq x y) told)

-- the numbers of the ring of two outlines are those of their planes
pub ring_numbers : (e h : Outline) (l : List ℕ) → IsOutline e → IsOutline h → IsRing (nodes_of e) (nodes_of h) l → AreNumbersOf e h l
ring_numbers e h l a b r = record {
  least = r.cycle.least_number;
  greatest = λ t lt. omega (arith, r.cycle.greatest_number t lt, length-planes_of_pair (nodes_of e) (nodes_of h));
  few = ring_greatest_size (nodes_of e) (nodes_of h) l a.accepted b.accepted r;
}
