-- What the code makes of a cell is its half.
use Rattle.std.proofs.Common.{◌≡◌, ◌≢◌, ℕ, suc, ◌<◌, ◌≤◌, ◌-◌, ℤ, pos, ◌≤ℤ◌, ◌<ℤ◌, false, ◌&&◌, List, length, map, arith, ap, sym, ◌∙◌, inl, inr, subst, ◌↔◌, slice_index_or}
use Rattle.std.specs.Prelude.{All}
use Rattle.std.specs.List.{list_all}
use Rattle.std.proofs.lemmas.Int.{ints}
use Rattle.std.proofs.lemmas.Bool.{and_parts, and_from, false_from_ne_true}
use Rattle.std.proofs.lemmas.List.{get_or-map, length-map}
use Rattle.vec_exact.specs.declared.RawMesh.{RawMesh}
use Rattle.vec_exact.specs.declared.Vec3.{Vec3}
use Rattle.vec_exact.specs.Vector.{zero_triple, inner, cross}
use Rattle.vec_exact.specs.Cycle.{after, shifted, corner, Convex, vector_at}
use Rattle.vec_exact.proofs.Planes.{nonzero_self}
use Rattle.vec_exact.proofs.Cycles.{same_or_not, shifted_below, shifted_corner}
use Rattle.cone_laws.specs.Cone.{AllPositive}
use Rattle.cone_laws.proofs.Inside.{cone_pos, none_beyond}
use Rattle.cone_laws.proofs.Turned.{turned_convex}
use Rattle.cone_laws.proofs.OnePlane.{Crosses, Joins, joined_convex, joined_inside}
use Rattle.cover_cells.specs.declared.cells.CellPlane.{CellPlane}
use Rattle.cover_cells.specs.Cells.{plane_of, planes_of, IsNamed, IsCell, is_positive}
use Rattle.cover_cells.specs.Splitting.{IsHalf, HasNoHalf}
use Rattle.cover_cells.specs.Sides.{side_at, AreSides, IsRun, IsRunOf}
use Rattle.cover_cells.proofs.Positive.{lt_true, lt_from, bool_same, positive_from, positive_to}
use Rattle.cover_cells.proofs.Runs.{place_back}

-- ---- rings of planes
run_crosses : (ns : List Vec3) (x : Vec3) (sides : List ℤ) (first count : ℕ) → Convex (length ns) (vector_at ns) → AreSides ns x sides → IsRun sides first count
    → Crosses (length ns) (λ t. vector_at ns (shifted (length ns) first t)) x count
run_crosses ns x sides first count c a r =
    let k = length ns in
    let lf : first ≤ k = omega (arith, a.len, r.within) in
    let at : (t : ℕ) → t < k → side_at sides (shifted (length sides) first t) ≡ inner x (corner k (λ u. vector_at ns (shifted k first u)) t) = (λ t l.
    ap (λ (j : ℕ). side_at sides (shifted j first t)) a.len ∙ a.each (shifted k first t) (shifted_below k first t lf l)
    ∙ sym (ap (inner x) (shifted_corner (vector_at ns) k first t lf l))) in
    let b = place_back k first r.negative.0 lf (omega (arith, a.len, r.negative.1)) in
    record {
      convex = turned_convex k first (vector_at ns) lf c;
      some = r.some;
      room = omega (arith, a.len, r.room);
      positive = λ t l. subst (λ (z : ℤ). pos 0 <ℤ z) (at t (omega (arith, a.len, r.room))) (r.positive t l);
      stop = subst (λ (z : ℤ). z ≤ℤ pos 0) (at count (omega (arith, a.len, r.room))) r.stop;
      last = subst (λ (z : ℤ). z ≤ℤ pos 0) (ap (λ (j : ℕ). side_at sides (shifted (length sides) first (j - 1))) a.len ∙ at (k - 1) (omega (arith, c.three))) r.last;
      place = b.0;
      place_below = b.1;
      negative = subst (λ (z : ℤ). z <ℤ pos 0)
          (sym (ap (side_at sides) (ap (λ (j : ℕ). shifted j first b.0) a.len ∙ b.2)) ∙ at b.0 b.1) r.negative.2;
    }

-- a turned ring has the same directions
turned_same : (ns : List Vec3) (first : ℕ) (d : Vec3) → first ≤ length ns
    → (AllPositive (length ns) (vector_at ns) d) ↔ (AllPositive (length ns) (λ t. vector_at ns (shifted (length ns) first t)) d)
turned_same ns first d l = (
  λ i s ls. i (shifted (length ns) first s) (shifted_below (length ns) first s l ls),
  λ i s ls. let b = place_back (length ns) first s l ls in subst (λ (j : ℕ). pos 0 <ℤ inner (vector_at ns j) d) b.2 (i b.0 b.1),
)

-- r is a ring with the directions of ns on which x is positive
pub record IsHalfRing (ns : List Vec3) (x : Vec3) (r : List Vec3) : Type 0 where
  pub ring : Convex (length r) (vector_at r)
  pub same : (d : Vec3) → list_all (is_positive d) r ≡ (is_positive d x && list_all (is_positive d) ns)

-- r is ns from place first on, up to count places later, and then x
record IsRunOfPlanes (ns r : List Vec3) (first count : ℕ) (x : Vec3) : Type 0 where
  len : length r ≡ suc (suc count)
  joins : Joins (λ t. vector_at ns (shifted (length ns) first t)) x count (vector_at r)

run_half : (ns r : List Vec3) (x : Vec3) (sides : List ℤ) (first count : ℕ) → Convex (length ns) (vector_at ns) → AreSides ns x sides → IsRun sides first count
    → IsRunOfPlanes ns r first count x → IsHalfRing ns x r
run_half ns r x sides first count c a h g =
    let k = length ns in
    let lf : first ≤ k = omega (arith, a.len, h.within) in
    let n : ℕ → Vec3 = λ t. vector_at ns (shifted k first t) in
    let cr = run_crosses ns x sides first count c a h in
    let i = joined_inside k n (vector_at r) x count cr g.joins in
    record {
      ring = subst (λ (m : ℕ). Convex m (vector_at r)) (sym g.len) (joined_convex k n (vector_at r) x count cr g.joins);
      same = λ d. bool_same (list_all (is_positive d) r) (is_positive d x && list_all (is_positive d) ns)
          (λ e. let p = (i d).0 (subst (λ (m : ℕ). AllPositive m (vector_at r) d) g.len (positive_from d r e)) in
          and_from (is_positive d x) (list_all (is_positive d) ns) (lt_true (inner x d) p.1) (positive_to d ns ((turned_same ns first d lf).1 p.0)))
          (λ e. let p = and_parts (is_positive d x) (list_all (is_positive d) ns) e in
          positive_to d r (subst (λ (m : ℕ). AllPositive m (vector_at r) d) (sym g.len) ((i d).1 ((turned_same ns first d lf).0 (positive_from d ns p.1), lt_from (inner x d) p.0))));
    }

whole_half : (ns : List Vec3) (x : Vec3) (sides : List ℤ) → Convex (length ns) (vector_at ns) → AreSides ns x sides → x ≢ zero_triple
    → ((t : ℕ) → t < length sides → pos 0 ≤ℤ side_at sides t) → IsHalfRing ns x ns
whole_half ns x sides c a z h = record {
  ring = c;
  same = λ d. bool_same (list_all (is_positive d) ns) (is_positive d x && list_all (is_positive d) ns)
      (λ e. and_from (is_positive d x) (list_all (is_positive d) ns)
      (lt_true (inner x d) (cone_pos (length ns) (vector_at ns) x d c (λ t l. subst (λ (w : ℤ). pos 0 ≤ℤ w) (a.each t l) (h t (omega (arith, a.len)))) (nonzero_self x z) (positive_from d ns e))) e)
      (λ e. (and_parts (is_positive d x) (list_all (is_positive d) ns) e).1);
}

weaker : {z : ℤ} → pos 0 <ℤ z → pos 0 ≤ℤ z
weaker {z} h = omega (arith, ints)

no_half : (ns : List Vec3) (x : Vec3) (sides : List ℤ) → Convex (length ns) (vector_at ns) → AreSides ns x sides
    → ((t : ℕ) → t < length sides → side_at sides t ≤ℤ pos 0) → (d : Vec3) → (is_positive d x && list_all (is_positive d) ns) ≡ false
no_half ns x sides c a h d =
    false_from_ne_true (is_positive d x && list_all (is_positive d) ns)
    (λ e. let p = and_parts (is_positive d x) (list_all (is_positive d) ns) e in
    none_beyond (length ns) (vector_at ns) x d c (λ t l. subst (λ (w : ℤ). w ≤ℤ pos 0) (a.each t l) (h t (omega (arith, a.len))))
    (λ s l. weaker (positive_from d ns p.1 s l)) (lt_from (inner x d) p.0))

-- ---- cells
node_at : (f : CellPlane → Vec3) (c : List CellPlane) (t : ℕ) (e : CellPlane) → t < length c → vector_at (map f c) t ≡ f (slice_index_or c t e)
node_at f c t e l = get_or-map f c t e zero_triple l

-- the corner that the code computes
pub corner_is : (f : CellPlane → Vec3) (c : List CellPlane) (t next : ℕ) (e : CellPlane) (m n w : Vec3) → t < length c → next < length c
    → w ≡ cross m n → m ≡ f (slice_index_or c t e) → n ≡ f (slice_index_or c next e) → next ≡ after (length c) t
    → w ≡ corner (length (map f c)) (vector_at (map f c)) t
unfolding corner
corner_is f c t next e m n w lt ln q g h k =
    q ∙ ap (λ (u : Vec3). cross u n) (g ∙ sym (node_at f c t e lt))
    ∙ ap (cross (vector_at (map f c) t)) (h ∙ sym (node_at f c next e ln) ∙ ap (vector_at (map f c)) (k ∙ ap (λ (i : ℕ). after i t) (sym (length-map c f))))

run_planes : (f : CellPlane → Vec3) (o c : List CellPlane) (p : CellPlane) (first count : ℕ) → first < length o → count < length o → IsRunOf o c first count p
    → IsRunOfPlanes (map f o) (map f c) first count (f p)
run_planes f o c p first count lf lc g = record {
  len = length-map c f ∙ g.len;
  joins = record {
    same = λ t l. node_at f c t p (omega (arith, g.len)) ∙ ap f (g.same t p l)
        ∙ sym (ap (λ (k : ℕ). vector_at (map f o) (shifted k first t)) (length-map o f) ∙ node_at f o (shifted (length o) first t) p (shifted_below (length o) first t (omega arith) (omega arith)));
    new = node_at f c (suc count) p (omega (arith, g.len)) ∙ ap f (g.new_plane p);
  };
}

run_named : (P : CellPlane → Type 0) (o c : List CellPlane) (p : CellPlane) (first count : ℕ) → first < length o → count < length o → IsRunOf o c first count p
    → All P o → P p → All P c
run_named P o c p first count lf lc g h hp k e l =
    elim (same_or_not k (suc count)) [
      | inl q ↦ subst P (sym (ap (λ (i : ℕ). slice_index_or c i e) q ∙ g.new_plane e)) hp
      | inr ne ↦ subst P (sym (g.same k e (omega (arith, g.len)))) (h (shifted (length o) first k) e (shifted_below (length o) first k (omega arith) (omega (arith, g.len))))
    ]

pub half_of_run : (sources : RawMesh) (target : List Vec3) (o c : List CellPlane) (p : CellPlane) (sides : List ℤ) (first count : ℕ) → IsCell sources target o → IsNamed sources target p
    → AreSides (planes_of sources target o) (plane_of sources target p) sides → IsRun sides first count → IsRunOf o c first count p → IsHalf sources target o p c
half_of_run sources target o c p sides first count i np a r g =
    let f = plane_of sources target in
    let lo : length sides ≡ length o = a.len ∙ length-map o f in
    let lf : first < length o = omega (arith, lo, r.within) in
    let lc : count < length o = omega (arith, lo, r.room) in
    let h = run_half (map f o) (map f c) (f p) sides first count i.ring a r (run_planes f o c p first count lf lc g) in
    record {
      is_cell = record { ring = h.ring; named = run_named (IsNamed sources target) o c p first count lf lc g i.named np };
      same = h.same;
    }

pub half_of_whole : (sources : RawMesh) (target : List Vec3) (o : List CellPlane) (p : CellPlane) (sides : List ℤ) → IsCell sources target o
    → AreSides (planes_of sources target o) (plane_of sources target p) sides → plane_of sources target p ≢ zero_triple
    → ((t : ℕ) → t < length sides → pos 0 ≤ℤ side_at sides t) → IsHalf sources target o p o
half_of_whole sources target o p sides i a z h = record {
  is_cell = i;
  same = (whole_half (planes_of sources target o) (plane_of sources target p) sides i.ring a z h).same;
}

pub half_of_none : (sources : RawMesh) (target : List Vec3) (o : List CellPlane) (p : CellPlane) (sides : List ℤ) → IsCell sources target o
    → AreSides (planes_of sources target o) (plane_of sources target p) sides → ((t : ℕ) → t < length sides → side_at sides t ≤ℤ pos 0) → HasNoHalf sources target o p
half_of_none sources target o p sides i a h = no_half (planes_of sources target o) (plane_of sources target p) sides i.ring a h

-- the sides that the call computed
pub are_sides : (sources : RawMesh) (target : List Vec3) (o l : List CellPlane) (x y : Vec3) (sides es : List ℤ)
    → AreSides (planes_of sources target l) y sides → l ≡ o → y ≡ x → es ≡ sides → AreSides (planes_of sources target o) x es
are_sides sources target o l x y sides es a e f g =
    subst (λ (s : List ℤ). AreSides (planes_of sources target o) x s) (sym g)
    (subst (λ (w : Vec3). AreSides (planes_of sources target o) w sides) f
    (subst (λ (u : List CellPlane). AreSides (planes_of sources target u) y sides) e a))
