-- Corners and sides, from what the calls answer.
use Rattle.std.proofs.Common.{◌≡◌, ℕ, suc, ◌+◌, ◌<◌, ap, ◌∙◌, arith, List, length, get_or, ℤ}
use Rattle.vec_exact.specs.declared.Vec3.{Vec3}
use Rattle.vec_exact.specs.Vector.{cross}
use Rattle.vec_exact.specs.Cycle.{after, shifted, corner}
use Rattle.cone_laws.specs.Ring.{plane, listed}

-- the corner that the code computes
pub corner_is : (ps : List Vec3) (l ns : List ℕ) (t j : ℕ) (b c x : Vec3) → x ≡ cross b c → b ≡ plane ps (get_or ns t 0) → c ≡ plane ps (get_or ns j 0)
    → j ≡ after (length ns) t → ns ≡ l → x ≡ corner (length l) (listed ps l) t
unfolding corner
corner_is ps l ns t j b c x f q r n v =
    f ∙ ap (λ (w : Vec3). cross w c) q ∙ ap (λ (w : Vec3). cross (plane ps (get_or ns t 0)) w) (r ∙ ap (λ (i : ℕ). plane ps (get_or ns i 0)) n)
    ∙ ap (λ (u : List ℕ). cross (plane ps (get_or u t 0)) (plane ps (get_or u (after (length u) t) 0))) v

-- the place after t + j in a cycle
pub shifted_next : (k j t : ℕ) → j < k → t < k → after k (shifted k j t) ≡ shifted k j (suc t)
unfolding after shifted
shifted_next k j t h l = grind arith

pub shifted_first : (k j : ℕ) → j < k → shifted k j 0 ≡ j
unfolding shifted
shifted_first k j h = grind arith

-- the place after the place of a run
pub next_of_run : (s : List ℤ) (first place run next : ℕ) → first < length s → run < length s → place ≡ shifted (length s) first run → next ≡ after (length s) place
    → next ≡ shifted (length s) first (run + 1)
next_of_run s first place run next lf lr e n =
    n ∙ ap (after (length s)) e ∙ shifted_next (length s) first run lf lr ∙ ap (shifted (length s) first) (omega arith)
