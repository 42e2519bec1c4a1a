-- A source face, plane by plane: what leaves it, and what stays within it.
use Rattle.std.proofs.Common.{◌≡◌, ◌≢◌, ℕ, zero, suc, ◌+◌, ◌-◌, ◌<◌, ◌≤◌, ℤ, pos, negsuc, neg_ℤ, ◌≤ℤ◌, ◌<ℤ◌, Bool, true, false, ◌&&◌, List, [], ◌∷◌, length, take, arith, ap, refl, sym, ◌∙◌, inl, inr, subst, nat_eq}
use Rattle.std.specs.Prelude.{int_lt, if◌then◌else◌}
use Rattle.std.specs.List.{list_all}
use Rattle.std.proofs.lemmas.Int.{ints}
use Rattle.std.proofs.lemmas.Bool.{and_parts, le-ltb, lt-ltb, ne_eqb}
use Rattle.std.proofs.lemmas.List.Folds.{list_all_more}
use Rattle.vec_exact.specs.declared.RawMesh.{RawMesh}
use Rattle.vec_exact.specs.declared.Vec3.{Vec3}
use Rattle.vec_exact.specs.Vector.{zero_triple, inner, scaled}
use Rattle.vec_exact.specs.Cycle.{vector_at, face_plane}
use Rattle.vec_exact.proofs.Whole.{neg_times, one_times}
use Rattle.vec_exact.proofs.Identities.{inner_turned, inner_scaled}
use Rattle.vec_exact.proofs.Signs.{by_strict_sign}
use Rattle.cone_laws.specs.Ring.{face_planes}
use Rattle.cone_laws.proofs.Pairs.{length-face_planes, face_planes_at}
use Rattle.mesh_check.specs.Mesh.{corners_of}
use Rattle.cover_cells.specs.declared.cells.CellPlane.{CellPlane}
use Rattle.cover_cells.specs.Cells.{plane_of, IsNamed, is_positive}
use Rattle.cover_cells.specs.Splitting.{leaves, number_if}
use Rattle.cover_cells.proofs.Positive.{lt_true, lt_false, never_both}

-- ---- one plane
flipped : (z : ℤ) → int_lt (pos 0) (neg_ℤ z) ≡ int_lt z (pos 0)
flipped (pos zero) = refl
flipped (pos (suc n)) = sym (le-ltb (suc n) 0 (omega arith))
flipped (negsuc n) = lt-ltb 0 (suc n) (omega arith)

pub turned_side : (n d : Vec3) → inner (scaled (negsuc 0) n) d ≡ neg_ℤ (inner n d)
turned_side n d =
    inner_turned (scaled (negsuc 0) n) d ∙ inner_scaled (negsuc 0) d n ∙ neg_times (pos 1) (inner d n) ∙ ap neg_ℤ (one_times (inner d n) ∙ inner_turned d n)

-- the turned plane is positive where the plane is negative
turned_positive : (n d : Vec3) → is_positive d (scaled (negsuc 0) n) ≡ int_lt (inner n d) (pos 0)
turned_positive n d = ap (int_lt (pos 0)) (turned_side n d) ∙ flipped (inner n d)

-- ---- the first planes of a list, and one more
first_planes : (p n : Bool) → (p ≡ true → n ≡ false) → (if p then false else n) ≡ n
first_planes true n h = sym (h refl)
first_planes false n h = refl

next_planes : (p n h m a b : Bool) → b ≡ (if h then m else a) → (if p then b else n) ≡ (if p && h then m else (if p then a else n))
next_planes true n h m a b e = e
next_planes false n h m a b e = refl

leaves_more : (d : Vec3) (ns : List Vec3) (t : ℕ) → t < length ns
    → leaves d (take (suc t) ns) ≡ (if list_all (is_positive d) (take t ns) then int_lt (inner (vector_at ns t) d) (pos 0) else leaves d (take t ns))
leaves_more d [] t l = absurd (omega arith)
leaves_more d (n ∷ ns) zero l = first_planes (is_positive d n) (int_lt (inner n d) (pos 0)) (never_both (inner n d))
leaves_more d (n ∷ ns) (suc t) l =
    next_planes (is_positive d n) (int_lt (inner n d) (pos 0)) (list_all (is_positive d) (take t ns)) (int_lt (inner (vector_at ns t) d) (pos 0)) (leaves d (take t ns)) (leaves d (take (suc t) ns))
    (leaves_more d ns t (omega arith))

-- what all planes are positive on leaves nowhere
pub inside_stays : (d : Vec3) (ns : List Vec3) → list_all (is_positive d) ns ≡ true → leaves d ns ≡ false
inside_stays d [] h = refl
inside_stays d (n ∷ ns) h =
    let b = and_parts (is_positive d n) (list_all (is_positive d) ns) h in
    ap (λ (p : Bool). if p then leaves d ns else int_lt (inner n d) (pos 0)) b.0 ∙ inside_stays d ns b.1

-- ---- one step of the loop
out_number : (s l n : Bool) (h out rest cut : ℕ) → (s ≡ true → l ≡ false) → out ≡ number_if l h → rest ≡ number_if s h → cut ≡ number_if n rest → out + cut ≡ number_if (if s then n else l) h
out_number true true n h out rest cut f a b c = absurd (cc (f refl))
out_number true false true h out rest cut f a b c = omega (arith, a, b, c)
out_number true false false h out rest cut f a b c = omega (arith, a, b, c)
out_number false l true h out rest cut f a b c = omega (arith, a, b, c)
out_number false l false h out rest cut f a b c = omega (arith, a, b, c)

rest_number : (s p : Bool) (h rest stay : ℕ) → rest ≡ number_if s h → stay ≡ number_if p rest → stay ≡ number_if (s && p) h
rest_number true true h rest stay a b = omega (arith, a, b)
rest_number true false h rest stay a b = omega (arith, a, b)
rest_number false true h rest stay a b = omega (arith, a, b)
rest_number false false h rest stay a b = omega (arith, a, b)

-- edge t of source face i, turned round or not
abbrev pub edge_of : ℕ → ℕ → Bool → CellPlane
edge_of i t neg = record { source = i; edge = t + 1; neg = neg }

-- the plane of an edge of a source is that of the face
own_edge : (sources : RawMesh) (target : List Vec3) (i t : ℕ) → 1 ≤ i → t < length (corners_of sources i)
    → face_plane (if nat_eq i 0 then target else corners_of sources i) (t + 1 - 1) ≡ vector_at (face_planes (corners_of sources i)) t
own_edge sources target zero t l lt = absurd (omega arith)
own_edge sources target (suc i) t l lt =
    ap (λ (b : Bool). face_plane (if b then target else corners_of sources (suc i)) (t + 1 - 1)) (ne_eqb (suc i) 0 (λ e. absurd (omega (arith, e))))
    ∙ ap (face_plane (corners_of sources (suc i))) (omega arith)
    ∙ sym (face_planes_at (corners_of sources (suc i)) t lt)

-- and the edge is there
pub edge_named : (sources : RawMesh) (target : List Vec3) (i t : ℕ) (neg : Bool) → 1 ≤ i → i ≤ length sources.faces → t < length (corners_of sources i) → IsNamed sources target (edge_of i t neg)
edge_named sources target zero t neg l r lt = absurd (omega arith)
edge_named sources target (suc i) t neg l r lt = record {
  source = r;
  least_edge = omega arith;
  greatest_edge = subst (λ (b : Bool). t + 1 ≤ length (if b then target else corners_of sources (suc i))) (sym (ne_eqb (suc i) 0 (λ e. absurd (omega (arith, e))))) (omega arith);
}

module _ (sources : RawMesh) (target : List Vec3) (i t : ℕ) (d : Vec3) (h : ℕ) (some : 1 ≤ i) (edge : t < length (corners_of sources i)) where
  here : t < length (face_planes (corners_of sources i))
  here = omega (arith, length-face_planes (corners_of sources i))

  pub out_step : (out rest cut : ℕ) → out ≡ number_if (leaves d (take t (face_planes (corners_of sources i)))) h
      → rest ≡ number_if (list_all (is_positive d) (take t (face_planes (corners_of sources i)))) h
      → cut ≡ number_if (is_positive d (plane_of sources target (edge_of i t true))) rest
      → out + cut ≡ number_if (leaves d (take (t + 1) (face_planes (corners_of sources i)))) h
  out_step out rest cut a b c =
      let ns = face_planes (corners_of sources i) in
      let e : t + 1 ≡ suc t = omega arith in
      out_number (list_all (is_positive d) (take t ns)) (leaves d (take t ns)) (int_lt (inner (vector_at ns t) d) (pos 0)) h out rest cut (inside_stays d (take t ns)) a b
      (c ∙ ap (λ (n : Vec3). number_if (is_positive d (scaled (negsuc 0) n)) rest) (own_edge sources target i t some edge) ∙ ap (λ (n : Bool). number_if n rest) (turned_positive (vector_at ns t) d))
      ∙ sym (ap (λ (k : ℕ). number_if (leaves d (take k ns)) h) e ∙ ap (λ (b : Bool). number_if b h) (leaves_more d ns t here))

  pub rest_step : (rest stay : ℕ) → rest ≡ number_if (list_all (is_positive d) (take t (face_planes (corners_of sources i)))) h
      → stay ≡ number_if (is_positive d (plane_of sources target (edge_of i t false))) rest
      → stay ≡ number_if (list_all (is_positive d) (take (t + 1) (face_planes (corners_of sources i)))) h
  rest_step rest stay a b =
      let ns = face_planes (corners_of sources i) in
      rest_number (list_all (is_positive d) (take t ns)) (is_positive d (vector_at ns t)) h rest stay a
      (b ∙ ap (λ (n : Vec3). number_if (is_positive d n) rest) (own_edge sources target i t some edge))
      ∙ sym (ap (λ (b : Bool). number_if b h) (list_all_more (is_positive d) ns t zero_triple here))

-- ---- all planes of a list
below_from : (z : ℤ) → int_lt z (pos 0) ≡ true → z <ℤ pos 0
below_from (pos n) h = omega (arith, ints, h)
below_from (negsuc n) h = omega (arith, ints)

below_to : (z : ℤ) → z ≤ℤ pos 0 → z ≢ pos 0 → int_lt z (pos 0) ≡ true
below_to (pos zero) h e = absurd (e refl)
below_to (pos (suc n)) h e = absurd (omega (arith, ints))
below_to (negsuc n) h e = refl

-- what leaves has a negative plane
pub leaves_negative : (d : Vec3) (ns : List Vec3) → leaves d ns ≡ true → (t : ℕ) × (t < length ns) × (inner (vector_at ns t) d <ℤ pos 0)
leaves_negative d [] h = cc
leaves_negative d (n ∷ ns) h =
    elim (by_strict_sign (inner n d)) [
      | inl p ↦ let r = leaves_negative d ns (sym (ap (λ (b : Bool). if b then leaves d ns else int_lt (inner n d) (pos 0)) (lt_true (inner n d) p)) ∙ h) in
          (suc r.0, omega (arith, r.1), r.2)
      | inr o ↦ (0, omega arith, below_from (inner n d) (sym (ap (λ (b : Bool). if b then leaves d ns else int_lt (inner n d) (pos 0)) (lt_false (inner n d) o)) ∙ h))
    ]

-- and off all planes, what has a negative plane leaves
pub negative_leaves : (d : Vec3) (ns : List Vec3) → ((t : ℕ) → t < length ns → inner (vector_at ns t) d ≢ pos 0) → (t : ℕ) → t < length ns → inner (vector_at ns t) d <ℤ pos 0 → leaves d ns ≡ true
negative_leaves d [] o t l h = absurd (omega arith)
negative_leaves d (n ∷ ns) o t l h =
    elim (by_strict_sign (inner n d)) [
      | inl p ↦ ap (λ (b : Bool). if b then leaves d ns else int_lt (inner n d) (pos 0)) (lt_true (inner n d) p) ∙ later t l h p (λ u lu m. negative_leaves d ns (λ s ls. o (suc s) (omega arith)) u lu m)
      | inr m ↦ ap (λ (b : Bool). if b then leaves d ns else int_lt (inner n d) (pos 0)) (lt_false (inner n d) m) ∙ below_to (inner n d) m (o 0 (omega arith))
    ]
  where
    later : (t : ℕ) → t < suc (length ns) → inner (vector_at (n ∷ ns) t) d <ℤ pos 0 → pos 0 <ℤ inner n d → ((u : ℕ) → u < length ns → inner (vector_at ns u) d <ℤ pos 0 → leaves d ns ≡ true) → leaves d ns ≡ true
    later zero l h p r = absurd (omega (arith, ints, h, p))
    later (suc t) l h p r = r t (omega arith) h
