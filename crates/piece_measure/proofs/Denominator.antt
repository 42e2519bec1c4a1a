-- The denominator of the tangent from its four terms.
use Rattle.std.proofs.Common.{◌≡◌, ℕ, ◌*◌, ℤ, pos, ◌+ℤ◌, ◌*ℤ◌, unsigned_abs, ap}
use Rattle.std.specs.Int.{int_max}
use Rattle.vec_exact.specs.declared.Vec3.{Vec3}
use Rattle.vec_exact.specs.Vector.{inner}
use Rattle.piece_measure.specs.Triangle.{whole_length, denominator}

from_terms : (x y z : ℕ) (u v w la lb lc p q r s : ℤ) → la ≡ pos x → lb ≡ pos y → lc ≡ pos z
    → p ≡ la *ℤ lb *ℤ lc → q ≡ u *ℤ lc → r ≡ v *ℤ la → s ≡ w *ℤ lb
    → p +ℤ q +ℤ r +ℤ s ≡ pos (x * y * z) +ℤ u *ℤ pos z +ℤ v *ℤ pos x +ℤ w *ℤ pos y
from_terms x y z u v w la lb lc p q r s ea eb ec ep eq er es = cc

pub denominator_is : (a b c : Vec3) (la lb lc p q r s : ℤ) → la ≡ pos (whole_length a) → lb ≡ pos (whole_length b) → lc ≡ pos (whole_length c)
    → p ≡ la *ℤ lb *ℤ lc → q ≡ inner a b *ℤ lc → r ≡ inner b c *ℤ la → s ≡ inner c a *ℤ lb
    → unsigned_abs (int_max (p +ℤ q +ℤ r +ℤ s) (pos 1)) ≡ denominator a b c
unfolding denominator
denominator_is a b c la lb lc p q r s ea eb ec ep eq er es =
    ap (λ (z : ℤ). unsigned_abs (int_max z (pos 1)))
    (from_terms (whole_length a) (whole_length b) (whole_length c) (inner a b) (inner b c) (inner c a) la lb lc p q r s ea eb ec ep eq er es)
