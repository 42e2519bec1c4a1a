-- A square of the cubed sphere is an accepted face.
use Rattle.std.proofs.Common.{◌≡◌, ◌≢◌, ℕ, zero, suc, ◌<◌, ◌≤◌, ◌∙◌, ℤ, pos, ◌+ℤ◌, ◌*ℤ◌, ◌<ℤ◌, unsigned_abs, refl, List, [], ◌∷◌, All, arith, lit≤, ap, subst, sym}
use Rattle.std.proofs.lemmas.Int.{ints}
use Rattle.std.proofs.lemmas.List.Elements.{All-from_recursion}
use Rattle.vec_exact.specs.declared.Vec3.{Vec3}
use Rattle.vec_exact.specs.declared.panels.Panel.{Panel}
use Rattle.vec_exact.specs.declared.panels.Panel.TheVariants.{PlusX, PlusY, MinusX, MinusY, PlusZ, MinusZ}
use Rattle.vec_exact.specs.Vector.{zero_triple, det}
use Rattle.vec_exact.specs.Size.{Is18}
use Rattle.vec_exact.specs.Cycle.{after, vector_at}
use Rattle.vec_exact.specs.Panel.{triple, on_panel}
use Rattle.vec_exact.specs.Face.{IsAcceptedNode, IsAcceptedFace}
use Rattle.vec_exact.proofs.Cycles.{after_below}
use Rattle.vec_exact.proofs.Ring.{Term, var, num, plus, minus, mul, ring}
use Rattle.vec_exact.proofs.Terms.{Terms, v, look, det_t}

pub all_four : {A : Type 0} (P : A → Type 0) (a b c d : A) → P a → P b → P c → P d → All P (a ∷ b ∷ c ∷ d ∷ [])
all_four P a b c d p q r s = All-from_recursion P (a ∷ b ∷ c ∷ d ∷ []) (p, (q, (r, (s, tt))))

-- ---- panels keep determinants
-- the triple with these coordinates, on a panel
abbrev turned : Panel → Vec3 → Vec3
turned panel a = on_panel panel a.x a.y a.z

abbrev turned_t : Panel → Terms → Terms
turned_t PlusX a = a
turned_t PlusY a = record { x = minus a.y; y = a.x; z = a.z }
turned_t MinusX a = record { x = minus a.x; y = minus a.y; z = a.z }
turned_t MinusY a = record { x = a.y; y = minus a.x; z = a.z }
turned_t PlusZ a = record { x = minus a.z; y = a.y; z = a.x }
turned_t MinusZ a = record { x = a.z; y = a.y; z = minus a.x }

abbrev turned_det_t : Panel → Term
turned_det_t panel = det_t (turned_t panel (v 0)) (turned_t panel (v 1)) (turned_t panel (v 2))

det_turned : (panel : Panel) (a b c : Vec3) → det (turned panel a) (turned panel b) (turned panel c) ≡ det a b c
det_turned PlusX a b c = refl
det_turned PlusY a b c = ring (turned_det_t PlusY) (det_t (v 0) (v 1) (v 2)) (look (a ∷ b ∷ c ∷ [])) refl
det_turned MinusX a b c = ring (turned_det_t MinusX) (det_t (v 0) (v 1) (v 2)) (look (a ∷ b ∷ c ∷ [])) refl
det_turned MinusY a b c = ring (turned_det_t MinusY) (det_t (v 0) (v 1) (v 2)) (look (a ∷ b ∷ c ∷ [])) refl
det_turned PlusZ a b c = ring (turned_det_t PlusZ) (det_t (v 0) (v 1) (v 2)) (look (a ∷ b ∷ c ∷ [])) refl
det_turned MinusZ a b c = ring (turned_det_t MinusZ) (det_t (v 0) (v 1) (v 2)) (look (a ∷ b ∷ c ∷ [])) refl

-- ---- a square in the coordinates of its panel
abbrev square : ℤ → ℤ → ℤ → ℕ → Vec3
square n p q zero = triple n p q
square n p q (suc zero) = triple n (p +ℤ pos 2) q
square n p q (suc (suc zero)) = triple n (p +ℤ pos 2) (q +ℤ pos 2)
square n p q (suc (suc (suc i))) = triple n p (q +ℤ pos 2)

abbrev square_t : ℕ → Terms
square_t zero = record { x = var 0; y = var 1; z = var 2 }
square_t (suc zero) = record { x = var 0; y = plus (var 1) (num (pos 2)); z = var 2 }
square_t (suc (suc zero)) = record { x = var 0; y = plus (var 1) (num (pos 2)); z = plus (var 2) (num (pos 2)) }
square_t (suc (suc (suc i))) = record { x = var 0; y = var 1; z = plus (var 2) (num (pos 2)) }

four_times : {z : ℤ} (n : ℤ) → pos 0 <ℤ n → z ≡ pos 4 *ℤ n → pos 0 <ℤ z
four_times {z} n h e = omega (arith, ints, e)

-- each determinant of three of its four corners, in order, is 4 n
square_turns : (n p q : ℤ) → pos 0 <ℤ n → (t s : ℕ) → t < 4 → s < 4 → s ≢ t → s ≢ after 4 t → pos 0 <ℤ det (square n p q t) (square n p q (after 4 t)) (square n p q s)
unfolding after
square_turns n p q h zero zero lt ls a b = absurd (a refl)
square_turns n p q h zero (suc zero) lt ls a b = absurd (b refl)
square_turns n p q h zero (suc (suc zero)) lt ls a b = four_times n h (ring (det_t (square_t 0) (square_t 1) (square_t 2)) (mul (num (pos 4)) (var 0)) (look (square n p q 0 ∷ [])) refl)
square_turns n p q h zero (suc (suc (suc zero))) lt ls a b = four_times n h (ring (det_t (square_t 0) (square_t 1) (square_t 3)) (mul (num (pos 4)) (var 0)) (look (square n p q 0 ∷ [])) refl)
square_turns n p q h (suc zero) zero lt ls a b = four_times n h (ring (det_t (square_t 1) (square_t 2) (square_t 0)) (mul (num (pos 4)) (var 0)) (look (square n p q 0 ∷ [])) refl)
square_turns n p q h (suc zero) (suc zero) lt ls a b = absurd (a refl)
square_turns n p q h (suc zero) (suc (suc zero)) lt ls a b = absurd (b refl)
square_turns n p q h (suc zero) (suc (suc (suc zero))) lt ls a b = four_times n h (ring (det_t (square_t 1) (square_t 2) (square_t 3)) (mul (num (pos 4)) (var 0)) (look (square n p q 0 ∷ [])) refl)
square_turns n p q h (suc (suc zero)) zero lt ls a b = four_times n h (ring (det_t (square_t 2) (square_t 3) (square_t 0)) (mul (num (pos 4)) (var 0)) (look (square n p q 0 ∷ [])) refl)
square_turns n p q h (suc (suc zero)) (suc zero) lt ls a b = four_times n h (ring (det_t (square_t 2) (square_t 3) (square_t 1)) (mul (num (pos 4)) (var 0)) (look (square n p q 0 ∷ [])) refl)
square_turns n p q h (suc (suc zero)) (suc (suc zero)) lt ls a b = absurd (a refl)
square_turns n p q h (suc (suc zero)) (suc (suc (suc zero))) lt ls a b = absurd (b refl)
square_turns n p q h (suc (suc (suc zero))) zero lt ls a b = absurd (b refl)
square_turns n p q h (suc (suc (suc zero))) (suc zero) lt ls a b = four_times n h (ring (det_t (square_t 3) (square_t 0) (square_t 1)) (mul (num (pos 4)) (var 0)) (look (square n p q 0 ∷ [])) refl)
square_turns n p q h (suc (suc (suc zero))) (suc (suc zero)) lt ls a b = four_times n h (ring (det_t (square_t 3) (square_t 0) (square_t 2)) (mul (num (pos 4)) (var 0)) (look (square n p q 0 ∷ [])) refl)
square_turns n p q h (suc (suc (suc zero))) (suc (suc (suc zero))) lt ls a b = absurd (a refl)
square_turns n p q h (suc (suc (suc (suc t)))) s lt ls a b = absurd (omega arith)
square_turns n p q h t (suc (suc (suc (suc s)))) lt ls a b = absurd (omega arith)

-- ---- the square on its panel
abbrev pub panel_square : Panel → ℤ → ℤ → ℤ → List Vec3
panel_square panel n p q = turned panel (square n p q 0) ∷ turned panel (square n p q 1) ∷ turned panel (square n p q 2) ∷ turned panel (square n p q 3) ∷ []

corner_at : (panel : Panel) (n p q : ℤ) (t : ℕ) → t < 4 → vector_at (panel_square panel n p q) t ≡ turned panel (square n p q t)
corner_at panel n p q zero l = refl
corner_at panel n p q (suc zero) l = refl
corner_at panel n p q (suc (suc zero)) l = refl
corner_at panel n p q (suc (suc (suc zero))) l = refl
corner_at panel n p q (suc (suc (suc (suc t)))) l = absurd (omega arith)

same_det : (a b c d e f : Vec3) → a ≡ d → b ≡ e → c ≡ f → det a b c ≡ det d e f
same_det a b c d e f p q r = ap (λ (w : Vec3). det w b c) p ∙ ap (λ (w : Vec3). det d w c) q ∙ ap (λ (w : Vec3). det d e w) r

panel_turns : (panel : Panel) (n p q : ℤ) → pos 0 <ℤ n → (t s : ℕ) → t < 4 → s < 4 → s ≢ t → s ≢ after 4 t
    → pos 0 <ℤ det (vector_at (panel_square panel n p q) t) (vector_at (panel_square panel n p q) (after 4 t)) (vector_at (panel_square panel n p q) s)
panel_turns panel n p q h t s lt ls a b =
    let f = panel_square panel n p q in
    let g = square n p q in
    let same = same_det (vector_at f t) (vector_at f (after 4 t)) (vector_at f s) (turned panel (g t)) (turned panel (g (after 4 t))) (turned panel (g s))
    (corner_at panel n p q t lt) (corner_at panel n p q (after 4 t) (after_below 4 t lt)) (corner_at panel n p q s ls) in
    subst (λ z. pos 0 <ℤ z) (sym (same ∙ det_turned panel (g t) (g (after 4 t)) (g s))) (square_turns n p q h t s lt ls a b)

-- ---- its corners are nodes
nonzero_turned : (panel : Panel) (a : Vec3) → pos 0 <ℤ a.x → turned panel a ≢ zero_triple
nonzero_turned PlusX a h e = omega (arith, ints, ap (λ (w : Vec3). w.x) e)
nonzero_turned PlusY a h e = omega (arith, ints, ap (λ (w : Vec3). w.y) e)
nonzero_turned MinusX a h e = omega (arith, ints, ap (λ (w : Vec3). w.x) e)
nonzero_turned MinusY a h e = omega (arith, ints, ap (λ (w : Vec3). w.y) e)
nonzero_turned PlusZ a h e = omega (arith, ints, ap (λ (w : Vec3). w.z) e)
nonzero_turned MinusZ a h e = omega (arith, ints, ap (λ (w : Vec3). w.z) e)

small_turned : (panel : Panel) (a : Vec3) → Is18 a → Is18 (turned panel a)
small_turned PlusX a h = h
small_turned PlusY a h = record { x = omega (arith, ints, h.y); y = h.x; z = h.z }
small_turned MinusX a h = record { x = omega (arith, ints, h.x); y = omega (arith, ints, h.y); z = h.z }
small_turned MinusY a h = record { x = h.y; y = omega (arith, ints, h.x); z = h.z }
small_turned PlusZ a h = record { x = omega (arith, ints, h.z); y = h.y; z = h.x }
small_turned MinusZ a h = record { x = h.z; y = h.y; z = omega (arith, ints, h.x) }

turned_node : (panel : Panel) (n p q : ℤ) → pos 0 <ℤ n → unsigned_abs n ≤ 400 → unsigned_abs p ≤ 402 → unsigned_abs q ≤ 402 → IsAcceptedNode (turned panel (triple n p q))
turned_node panel n p q h a b c = record {
  nonzero = nonzero_turned panel (triple n p q) h;
  small = small_turned panel (triple n p q) (record { x = omega (arith, a); y = omega (arith, b); z = omega (arith, c) });
}

pub square_accepted : (panel : Panel) (n p q : ℤ) → pos 0 <ℤ n → unsigned_abs n ≤ 400 → unsigned_abs p ≤ 400 → unsigned_abs q ≤ 400 → IsAcceptedFace (panel_square panel n p q)
square_accepted panel n p q h a b c = record {
  least_size = lit≤ tt;
  greatest_size = lit≤ tt;
  nodes =
      all_four IsAcceptedNode (turned panel (square n p q 0)) (turned panel (square n p q 1)) (turned panel (square n p q 2)) (turned panel (square n p q 3))
      (turned_node panel n p q h a (omega (arith, b)) (omega (arith, c)))
      (turned_node panel n (p +ℤ pos 2) q h a (omega (arith, ints, b)) (omega (arith, c)))
      (turned_node panel n (p +ℤ pos 2) (q +ℤ pos 2) h a (omega (arith, ints, b)) (omega (arith, ints, c)))
      (turned_node panel n p (q +ℤ pos 2) h a (omega (arith, b)) (omega (arith, ints, c)));
  turns = panel_turns panel n p q h;
}
