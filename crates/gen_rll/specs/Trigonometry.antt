-- Cosine and sine in units of 2^-30, by Taylor's series up to the eighth and ninth power. Source: the fixed-point form, its order of roundings and its number of terms are our own.
use Rattle.std.specs.Prelude.{ℕ, ◌-◌, ◌*◌, ◌/◌, ◌%◌, ◌==◌, ℤ, pos, ◌+ℤ◌, ◌-ℤ◌, neg_ℤ, unsigned_abs, nat_le, if◌then◌else◌}
use Rattle.std.specs.Int.{int_rem_euclid}
use Rattle.vec_exact.specs.Rounding.{nearest}

-- the unit, 2^30, and the whole part of pi in this unit
abbrev pub unit : ℕ
unit = 1073741824

abbrev pub pi : ℕ
pi = 3373259426

-- x^2 in the unit
abbrev pub square : ℕ → ℕ
square x = x * x / unit

-- the size of the term that follows t in a series: t u / d in the unit, rounded down
unfoldable pub next_term : ℕ → ℕ → ℕ → ℕ
next_term u d t = t * u / (d * unit)

-- the sine of the angle x, which is at most an eighth of a turn: x - x^3/3! + x^5/5! - x^7/7! + x^9/9!
unfoldable pub sine : ℕ → ℤ
sine x =
    let u = square x in
    let third = next_term u 6 x in
    let fifth = next_term u 20 third in
    let seventh = next_term u 42 fifth in
    let ninth = next_term u 72 seventh in
    pos x -ℤ pos third +ℤ pos fifth -ℤ pos seventh +ℤ pos ninth

-- its cosine: 1 - x^2/2! + x^4/4! - x^6/6! + x^8/8!
unfoldable pub cosine : ℕ → ℤ
cosine x =
    let u = square x in
    let second = u / 2 in
    let fourth = next_term u 12 second in
    let sixth = next_term u 30 fourth in
    let eighth = next_term u 56 sixth in
    pos unit -ℤ pos second +ℤ pos fourth -ℤ pos sixth +ℤ pos eighth

-- e of m parts of a quarter turn as an angle in the unit: pi e / (2 m)
abbrev pub angle : ℕ → ℕ → ℕ
angle e m = nearest (pi * e) (2 * m)

-- cosine and sine of e of m parts of a quarter turn; past its half, those of the rest of the quarter, exchanged
unfoldable pub in_quarter : ℕ → ℕ → ℤ × ℤ
in_quarter e m =
    if nat_le (2 * e) m
    then (cosine (angle e m), sine (angle e m))
    else (sine (angle (m - e) m), cosine (angle (m - e) m))

-- cosine and sine of an angle that is q quarter turns, q from 0 to 3, past an angle of the cosine p.0 and the sine p.1
abbrev pub turned : ℕ → ℤ × ℤ → ℤ × ℤ
turned q p =
    if q == 0 then p
    else if q == 1 then (neg_ℤ p.1, p.0)
    else if q == 2 then (neg_ℤ p.0, neg_ℤ p.1)
    else (p.1, neg_ℤ p.0)

-- cosine and sine of the angle of k parts of a full turn that is divided into m parts
unfoldable pub trig_of : ℤ → ℕ → ℤ × ℤ
trig_of k m =
    let r = unsigned_abs (int_rem_euclid k (pos m)) in
    turned (4 * r / m) (in_quarter (4 * r % m) m)
