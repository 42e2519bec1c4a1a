-- One plane of the second of two faces.
use Rattle.std.proofs.Common.{◌≡◌, ℕ, suc, ◌+◌, ◌-◌, ◌<◌, ℤ, pos, ◌≤ℤ◌, List, length, slice_index, slice_index_or, Bool, false, arith, ap, sym, ◌∙◌, subst}
use Rattle.vec_exact.specs.declared.Vec3.{Vec3}
use Rattle.vec_exact.specs.Vector.{inner}
use Rattle.vec_exact.specs.Cycle.{vector_at, face_plane}
use Rattle.vec_exact.specs.Face.{IsAcceptedFace}
use Rattle.cone_laws.specs.Inside.{Meets}
use Rattle.cone_laws.specs.Ring.{plane, planes_of_pair, IsRingOfFirst, IsRing}
use Rattle.cone_laws.proofs.Pairs.{second_plane, length-planes_of_pair}
use Rattle.clip.specs.declared.outlines.Outline.{Outline}
use Rattle.clip.specs.Planes.{HasInside, NoneIsZero}
use Rattle.clip.specs.Usable.{HaveSigns}
use Rattle.clip.specs.Outlines.{nodes_of, IsOutline, AreCuts, AreNumbersOf}
use Rattle.clip.proofs.Pair.{first_of_pair, pair_inside, pair_none_zero}
use Rattle.clip.proofs.Size.{cycle_size}
use Rattle.clip.proofs.Skipped.{skipped_ring}

pub cut_plane : (f g : List Vec3) (u : ℕ) → u < length g → plane (planes_of_pair f g) (length f + u + 1) ≡ face_plane g u
cut_plane f g u l = let e : length f + u + 1 ≡ suc (length f + u) = omega arith in ap (plane (planes_of_pair f g)) e ∙ second_plane f g u l

pub none_zero : (f g : List Vec3) (u : ℕ) → IsAcceptedFace f → IsAcceptedFace g → u < length g → NoneIsZero (planes_of_pair f g) (length f + u + 1)
none_zero f g u a b l i low high = pair_none_zero f g a b i low (omega (arith, length-planes_of_pair f g))

pub before : (f g : List Vec3) (u : ℕ) (l : List ℕ) → IsRingOfFirst (planes_of_pair f g) (length f + u) l → IsRingOfFirst (planes_of_pair f g) (length f + u + 1 - 1) l
before f g u l r = let e : length f + u ≡ length f + u + 1 - 1 = omega arith in subst (λ (m : ℕ). IsRingOfFirst (planes_of_pair f g) m l) e r

pub numbers_of : (e h : Outline) (u : ℕ) (l : List ℕ) → IsOutline e → IsOutline h → u < length (nodes_of h) → IsRingOfFirst (planes_of_pair (nodes_of e) (nodes_of h)) (length (nodes_of e) + u) l → AreNumbersOf e h l
numbers_of e h u l a b lu r = record {
  least = r.cycle.least_number;
  greatest = λ t lt. omega (arith, r.cycle.greatest_number t lt);
  few = omega (
    arith,
    cycle_size (plane (planes_of_pair (nodes_of e) (nodes_of h))) (length (nodes_of e) + u) (length l) (slice_index l) r.cycle,
    a.accepted.greatest_size,
    b.accepted.greatest_size,
  );
}

-- the signs that the code looks at
pub signs_here : (f g : List Vec3) (u : ℕ) (l : List ℕ) (n : Vec3) (s r : List ℤ) → u < length g → n ≡ face_plane g u → r ≡ s → HaveSigns (planes_of_pair f g) l n s
    → HaveSigns (planes_of_pair f g) l (plane (planes_of_pair f g) (length f + u + 1)) r
signs_here f g u l n s r lu e q h =
    subst (HaveSigns (planes_of_pair f g) l (plane (planes_of_pair f g) (length f + u + 1))) (sym q)
    (subst (λ (v : Vec3). HaveSigns (planes_of_pair f g) l v s) (e ∙ sym (cut_plane f g u lu)) h)

-- a plane that is left out
pub left_out : (f g : List Vec3) (cuts : List Bool) (u : ℕ) (l : List ℕ) → IsAcceptedFace f → AreCuts f g cuts → u < length cuts → slice_index_or cuts u false ≡ false
    → IsRingOfFirst (planes_of_pair f g) (length f + u) l → IsRingOfFirst (planes_of_pair f g) (length f + (u + 1)) l
left_out f g cuts u l a c lu none r =
    let ps = planes_of_pair f g in
    let lg : u < length g = omega (arith, c.len) in
    let e : suc (length f + u) ≡ length f + (u + 1) = omega arith in
    subst (λ (m : ℕ). IsRingOfFirst ps m l) e
    (skipped_ring ps (length f) (length f + u) f l (first_of_pair f g a) (omega arith) r
    (λ s ls. subst (λ (w : Vec3). pos 0 ≤ℤ inner w (vector_at f s)) (sym (second_plane f g u lg)) (c.none u lg none s ls)))

-- where the first planes have no direction in common, the faces don't meet
pub none_of_first : (f g : List Vec3) (u : ℕ) → u < length g → ¬ HasInside (planes_of_pair f g) (length f + u + 1) → ¬ Meets f g
none_of_first f g u l n m =
    let i = (pair_inside f g).1 m in
    n (i.0, λ t low high. i.1 t low (omega (arith, length-planes_of_pair f g)))

pub all_of_them : (f g : List Vec3) (u : ℕ) (l : List ℕ) → u ≡ length g → IsRingOfFirst (planes_of_pair f g) (length f + u) l → IsRing f g l
all_of_them f g u l e r =
    let q : length f + u ≡ length (planes_of_pair f g) = omega (arith, e, length-planes_of_pair f g) in subst (λ (m : ℕ). IsRingOfFirst (planes_of_pair f g) m l) q r
