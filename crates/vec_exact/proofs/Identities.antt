-- Equations of triples, by `ring`.
use Rattle.std.proofs.Common.{◌≡◌, ℤ, pos, negsuc, neg_ℤ, ◌+ℤ◌, ◌-ℤ◌, ◌*ℤ◌, refl, [], ◌∷◌}
use Rattle.vec_exact.specs.declared.Vec3.{Vec3}
use Rattle.vec_exact.specs.Vector.{zero_triple, inner, cross, det, scaled, added}
use Rattle.vec_exact.proofs.Ring.{var, num, plus, minus, mul, ring}
use Rattle.vec_exact.proofs.Terms.{vec_eq, less, inner_t, cross_t, det_t, scaled_t, added_t, zero_t, v, look, number}

-- ---- inner products
pub inner_turned : (a b : Vec3) → inner a b ≡ inner b a
inner_turned a b = ring (inner_t (v 0) (v 1)) (inner_t (v 1) (v 0)) (look (a ∷ b ∷ [])) refl

pub inner_added : (a b c : Vec3) → inner a (added b c) ≡ inner a b +ℤ inner a c
inner_added a b c = ring (inner_t (v 0) (added_t (v 1) (v 2))) (plus (inner_t (v 0) (v 1)) (inner_t (v 0) (v 2))) (look (a ∷ b ∷ c ∷ [])) refl

pub inner_scaled : (k : ℤ) (a b : Vec3) → inner a (scaled k b) ≡ k *ℤ inner a b
inner_scaled k a b = ring (inner_t (v 1) (scaled_t (var 0) (v 2))) (mul (var 0) (inner_t (v 1) (v 2))) (look (number k ∷ a ∷ b ∷ [])) refl

pub inner_zero : (a : Vec3) → inner a zero_triple ≡ pos 0
inner_zero a = ring (inner_t (v 0) zero_t) (num (pos 0)) (look (a ∷ [])) refl

pub inner_combined : (q u w : Vec3) (j k : ℤ) → inner q (added (scaled j u) (scaled k w)) ≡ j *ℤ inner q u +ℤ k *ℤ inner q w
inner_combined q u w j k =
    ring (inner_t (v 0) (added_t (scaled_t (var 9) (v 1)) (scaled_t (var 12) (v 2)))) (plus (mul (var 9) (inner_t (v 0) (v 1))) (mul (var 12) (inner_t (v 0) (v 2))))
    (look (q ∷ u ∷ w ∷ number j ∷ number k ∷ [])) refl

-- a - b
abbrev pub apart : Vec3 → Vec3 → Vec3
apart a b = added a (scaled (negsuc 0) b)

pub inner_apart : (k : ℤ) (p e x : Vec3) → inner p (apart (scaled k e) x) ≡ k *ℤ inner p e -ℤ inner p x
inner_apart k p e x =
    ring (inner_t (v 1) (added_t (scaled_t (var 0) (v 2)) (scaled_t (num (negsuc 0)) (v 3)))) (less (mul (var 0) (inner_t (v 1) (v 2))) (inner_t (v 1) (v 3)))
    (look (number k ∷ p ∷ e ∷ x ∷ [])) refl

-- ---- sums and multiples
pub zero_added : (a : Vec3) → added zero_triple a ≡ a
zero_added a =
    let l = added_t zero_t (v 0) in let e = look (a ∷ []) in
    vec_eq _ _ (ring l.x (var 0) e refl) (ring l.y (var 1) e refl) (ring l.z (var 2) e refl)

pub added_zero_times : (a b : Vec3) → added a (scaled (pos 0) b) ≡ a
added_zero_times a b =
    let l = added_t (v 0) (scaled_t (num (pos 0)) (v 1)) in let e = look (a ∷ b ∷ []) in
    vec_eq _ _ (ring l.x (var 0) e refl) (ring l.y (var 1) e refl) (ring l.z (var 2) e refl)

pub zero_times_both : (u w : Vec3) → added (scaled (pos 0) u) (scaled (pos 0) w) ≡ zero_triple
zero_times_both u w =
    let l = added_t (scaled_t (num (pos 0)) (v 0)) (scaled_t (num (pos 0)) (v 1)) in let e = look (u ∷ w ∷ []) in
    vec_eq _ _ (ring l.x (num (pos 0)) e refl) (ring l.y (num (pos 0)) e refl) (ring l.z (num (pos 0)) e refl)

-- the step of a sum of two combinations
pub regroup : (p q c : Vec3) (j k : ℤ) → added (added p q) (scaled (j +ℤ k) c) ≡ added (added p (scaled j c)) (added q (scaled k c))
regroup p q c j k =
    let l = added_t (added_t (v 0) (v 1)) (scaled_t (plus (var 9) (var 12)) (v 2)) in
    let r = added_t (added_t (v 0) (scaled_t (var 9) (v 2))) (added_t (v 1) (scaled_t (var 12) (v 2))) in
    let e = look (p ∷ q ∷ c ∷ number j ∷ number k ∷ []) in
    vec_eq _ _ (ring l.x r.x e refl) (ring l.y r.y e refl) (ring l.z r.z e refl)

-- ---- cross products
-- a cross product is orthogonal to both of its factors
pub own_first : (a b : Vec3) → inner a (cross a b) ≡ pos 0
own_first a b = ring (inner_t (v 0) (cross_t (v 0) (v 1))) (num (pos 0)) (look (a ∷ b ∷ [])) refl

pub own_second : (a b : Vec3) → inner b (cross a b) ≡ pos 0
own_second a b = ring (inner_t (v 1) (cross_t (v 0) (v 1))) (num (pos 0)) (look (a ∷ b ∷ [])) refl

pub cross_swapped : (a b : Vec3) → cross b a ≡ scaled (negsuc 0) (cross a b)
cross_swapped a b =
    let l = cross_t (v 1) (v 0) in let r = scaled_t (num (negsuc 0)) (cross_t (v 0) (v 1)) in let e = look (a ∷ b ∷ []) in
    vec_eq _ _ (ring l.x r.x e refl) (ring l.y r.y e refl) (ring l.z r.z e refl)

pub inner_cross_zero : (b c : Vec3) → inner (cross b zero_triple) c ≡ pos 0
inner_cross_zero b c = ring (inner_t (cross_t (v 0) zero_t) (v 1)) (num (pos 0)) (look (b ∷ c ∷ [])) refl

-- two edges of neighbouring nodes meet in the node between them
pub edges_meet : (a b c : Vec3) → cross (cross a b) (cross b c) ≡ scaled (det a b c) b
edges_meet a b c =
    let l = cross_t (cross_t (v 0) (v 1)) (cross_t (v 1) (v 2)) in let r = scaled_t (det_t (v 0) (v 1) (v 2)) (v 1) in let e = look (a ∷ b ∷ c ∷ []) in
    vec_eq _ _ (ring l.x r.x e refl) (ring l.y r.y e refl) (ring l.z r.z e refl)

-- Lagrange's identity
pub lagrange : (a b : Vec3) → inner a a *ℤ inner b b ≡ inner a b *ℤ inner a b +ℤ inner (cross a b) (cross a b)
lagrange a b =
    ring (mul (inner_t (v 0) (v 0)) (inner_t (v 1) (v 1))) (plus (mul (inner_t (v 0) (v 1)) (inner_t (v 0) (v 1))) (inner_t (cross_t (v 0) (v 1)) (cross_t (v 0) (v 1))))
    (look (a ∷ b ∷ [])) refl

-- where q and b are parallel, the sides of c on them are in proportion
pub parallel : (q b c : Vec3) → inner q c *ℤ inner b b ≡ inner q b *ℤ inner b c +ℤ inner (cross b (cross q b)) c
parallel q b c =
    ring (mul (inner_t (v 0) (v 2)) (inner_t (v 1) (v 1))) (plus (mul (inner_t (v 0) (v 1)) (inner_t (v 1) (v 2))) (inner_t (cross_t (v 1) (cross_t (v 0) (v 1))) (v 2)))
    (look (q ∷ b ∷ c ∷ [])) refl

-- ---- determinants
pub det_inner : (a b c : Vec3) → det a b c ≡ inner (cross a b) c
det_inner a b c = ring (det_t (v 0) (v 1) (v 2)) (inner_t (cross_t (v 0) (v 1)) (v 2)) (look (a ∷ b ∷ c ∷ [])) refl

pub det_turned : (a b c : Vec3) → det a b c ≡ det c a b
det_turned a b c = ring (det_t (v 0) (v 1) (v 2)) (det_t (v 2) (v 0) (v 1)) (look (a ∷ b ∷ c ∷ [])) refl

pub det_swapped_ends : (a b c : Vec3) → det a b c ≡ neg_ℤ (det c b a)
det_swapped_ends a b c = ring (det_t (v 0) (v 1) (v 2)) (minus (det_t (v 2) (v 1) (v 0))) (look (a ∷ b ∷ c ∷ [])) refl

pub det_swapped_last : (a b c : Vec3) → det a b c ≡ neg_ℤ (det a c b)
det_swapped_last a b c = ring (det_t (v 0) (v 1) (v 2)) (minus (det_t (v 0) (v 2) (v 1))) (look (a ∷ b ∷ c ∷ [])) refl

pub det_swapped_first : (a b c : Vec3) → det a b c ≡ neg_ℤ (det b a c)
det_swapped_first a b c = ring (det_t (v 0) (v 1) (v 2)) (minus (det_t (v 1) (v 0) (v 2))) (look (a ∷ b ∷ c ∷ [])) refl

-- Cramer's rule
pub cramer : (a b c d : Vec3) → scaled (det a b c) d ≡ added (added (scaled (det d b c) a) (scaled (det a d c) b)) (scaled (det a b d) c)
cramer a b c d =
    let l = scaled_t (det_t (v 0) (v 1) (v 2)) (v 3) in
    let r = added_t (added_t (scaled_t (det_t (v 3) (v 1) (v 2)) (v 0)) (scaled_t (det_t (v 0) (v 3) (v 2)) (v 1))) (scaled_t (det_t (v 0) (v 1) (v 3)) (v 2)) in
    let e = look (a ∷ b ∷ c ∷ d ∷ []) in
    vec_eq _ _ (ring l.x r.x e refl) (ring l.y r.y e refl) (ring l.z r.z e refl)
