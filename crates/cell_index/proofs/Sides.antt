-- The sides of the panels, by the least and greatest coordinates, differences and sums of a face's nodes.
use Rattle.std.proofs.Common.{◌≡◌, ℕ, zero, suc, ◌+◌, ◌-◌, ◌≤◌, ℤ, pos, neg_ℤ, ◌+ℤ◌, ◌-ℤ◌, ◌≤ℤ◌, ◌<ℤ◌, int_lt, int_le, unsigned_abs, to_z, of_z, arith, ap, refl, sym, ◌∙◌, Bool, true, false, ◌||◌, List, length}
use Rattle.std.proofs.lemmas.Int.{ints, clamps}
use Rattle.std.specs.Int.{int_min, int_max}
use mir.Syntax.{w32}
use Rattle.vec_exact.specs.declared.Vec3.{Vec3}
use Rattle.vec_exact.specs.declared.panels.Panel.{Panel}
use Rattle.vec_exact.specs.declared.panels.Panel.TheVariants.{PlusX, PlusY, MinusX, MinusY, PlusZ, MinusZ}
use Rattle.cell_index.specs.declared.spans.Extent.{Extent}
use Rattle.cell_index.specs.declared.spans.PairExtent.{PairExtent}
use Rattle.cell_index.specs.declared.spans.Spans.{Spans}
use Rattle.cell_index.specs.Box.{every, least, greatest, seen, beyond_u_end, beyond_u_start, beyond_v_end, beyond_v_start, is_beyond, is_in_front}
use Rattle.cell_index.specs.Extents.{IsExtent, IsPairExtent, x_at, y_at, z_at, AreSpans}
use Rattle.cell_index.proofs.FaceNodes.{least_step, greatest_step}
use Rattle.cell_index.proofs.Places.{every_at, every_from, least_at, greatest_at, le_true, le_from, lt_true, lt_from}

-- ---- the loop over the nodes
-- a number of a node that is written and read
pub number_read : (w : ℤ) → unsigned_abs w ≤ 262143 → to_z w32 (of_z w32 w) ≡ w
number_read w p = omega (arith, ints)

pub extent_first : (f : ℕ → ℤ) (x : ℤ) (e : Extent) → x ≡ f 0 → e ≡ record { least = x; greatest = x } → IsExtent f 0 e
extent_first f x e p q = record { low = ap (λ (z : Extent). z.least) q ∙ p; high = ap (λ (z : Extent). z.greatest) q ∙ p }

pub extent_more : (f : ℕ → ℤ) (t : ℕ) (x : ℤ) (e d : Extent) → IsExtent f t e → x ≡ f (t + 1) → d.least ≡ int_min e.least x → d.greatest ≡ int_max e.greatest x → IsExtent f (t + 1) d
extent_more f t x e d h p a b = record { low = least_step f t e.least d.least x h.low p a; high = greatest_step f t e.greatest d.greatest x h.high p b }

pub pair_first : (f g : ℕ → ℤ) (x y : ℤ) (e : PairExtent) → x ≡ f 0 → y ≡ g 0 → e.minus ≡ record { least = x -ℤ y; greatest = x -ℤ y } → e.plus ≡ record { least = x +ℤ y; greatest = x +ℤ y } → IsPairExtent f g 0 e
pair_first f g x y e p q a b = record {
  difference = extent_first (λ t. f t -ℤ g t) (x -ℤ y) e.minus (cc (p, q)) a;
  sum = extent_first (λ t. f t +ℤ g t) (x +ℤ y) e.plus (cc (p, q)) b;
}

pub pair_more : (f g : ℕ → ℤ) (t : ℕ) (x y : ℤ) (e d : PairExtent) → IsPairExtent f g t e → x ≡ f (t + 1) → y ≡ g (t + 1) → d.minus.least ≡ int_min e.minus.least (x -ℤ y) → d.minus.greatest ≡ int_max e.minus.greatest (x -ℤ y)
    → d.plus.least ≡ int_min e.plus.least (x +ℤ y) → d.plus.greatest ≡ int_max e.plus.greatest (x +ℤ y) → IsPairExtent f g (t + 1) d
pair_more f g t x y e d h p q a b m n = record {
  difference = extent_more (λ t. f t -ℤ g t) t (x -ℤ y) e.minus d.minus h.difference (cc (p, q)) a b;
  sum = extent_more (λ t. f t +ℤ g t) t (x +ℤ y) e.plus d.plus h.sum (cc (p, q)) m n;
}

-- ---- what the ends of an extent say of all nodes
same_bool : (a b : Bool) → (a ≡ true → b ≡ true) → (b ≡ true → a ≡ true) → a ≡ b
same_bool true b f g = sym (f refl)
same_bool false true f g = g refl
same_bool false false f g = refl

greatest_within : (f : ℕ → ℤ) (n : ℕ) (b : ℤ) → ((t : ℕ) → t ≤ n → f t ≤ℤ b) → greatest f n ≤ℤ b
greatest_within f zero b h = h 0 (omega arith)
greatest_within f (suc n) b h = omega (arith, ints, clamps, greatest_within f n b (λ t l. h t (omega arith)), h (suc n) (omega arith))

least_within : (f : ℕ → ℤ) (n : ℕ) (b : ℤ) → ((t : ℕ) → t ≤ n → b ≤ℤ f t) → b ≤ℤ least f n
least_within f zero b h = h 0 (omega arith)
least_within f (suc n) b h = omega (arith, ints, clamps, least_within f n b (λ t l. h t (omega arith)), h (suc n) (omega arith))

low_all : (f : ℕ → ℤ) (d : ℕ → Bool) (n : ℕ) → ((t : ℕ) → int_le (f t) (pos 0) ≡ d t) → int_le (greatest f n) (pos 0) ≡ every d (suc n)
low_all f d n e = same_bool _ _
    (λ h. every_from d (suc n) (λ t l. sym (e t) ∙ le_from (f t) (pos 0) (omega (arith, ints, greatest_at f n t (omega arith), le_true (greatest f n) (pos 0) h))))
    (λ h. le_from (greatest f n) (pos 0) (greatest_within f n (pos 0) (λ t l. le_true (f t) (pos 0) (e t ∙ every_at d (suc n) t h (omega arith)))))

high_all : (f : ℕ → ℤ) (d : ℕ → Bool) (n : ℕ) → ((t : ℕ) → int_le (pos 0) (f t) ≡ d t) → int_le (pos 0) (least f n) ≡ every d (suc n)
high_all f d n e = same_bool _ _
    (λ h. every_from d (suc n) (λ t l. sym (e t) ∙ le_from (pos 0) (f t) (omega (arith, ints, least_at f n t (omega arith), le_true (pos 0) (least f n) h))))
    (λ h. le_from (pos 0) (least f n) (least_within f n (pos 0) (λ t l. le_true (pos 0) (f t) (e t ∙ every_at d (suc n) t h (omega arith)))))

positive_all : (f : ℕ → ℤ) (d : ℕ → Bool) (n : ℕ) → ((t : ℕ) → int_lt (pos 0) (f t) ≡ d t) → int_lt (pos 0) (least f n) ≡ every d (suc n)
positive_all f d n e = same_bool _ _
    (λ h. every_from d (suc n) (λ t l. sym (e t) ∙ lt_from (pos 0) (f t) (omega (arith, ints, least_at f n t (omega arith), lt_true (pos 0) (least f n) h))))
    (λ h. lt_from (pos 0) (least f n) (from_one (least f n) (least_within f n (pos 1) (λ t l. to_one (f t) (lt_true (pos 0) (f t) (e t ∙ every_at d (suc n) t h (omega arith)))))))
  where
    from_one : (z : ℤ) → pos 1 ≤ℤ z → pos 0 <ℤ z
    from_one z h = omega (arith, ints)

    to_one : (z : ℤ) → pos 0 <ℤ z → pos 1 ≤ℤ z
    to_one z h = omega (arith, ints)

negative_all : (f : ℕ → ℤ) (d : ℕ → Bool) (n : ℕ) → ((t : ℕ) → int_lt (f t) (pos 0) ≡ d t) → int_lt (greatest f n) (pos 0) ≡ every d (suc n)
negative_all f d n e = same_bool _ _
    (λ h. every_from d (suc n) (λ t l. sym (e t) ∙ lt_from (f t) (pos 0) (omega (arith, ints, greatest_at f n t (omega arith), lt_true (greatest f n) (pos 0) h))))
    (λ h. lt_from (greatest f n) (pos 0) (from_one (greatest f n) (greatest_within f n (neg_ℤ (pos 1)) (λ t l. to_one (f t) (lt_true (f t) (pos 0) (e t ∙ every_at d (suc n) t h (omega arith)))))))
  where
    from_one : (z : ℤ) → z ≤ℤ neg_ℤ (pos 1) → z <ℤ pos 0
    from_one z h = omega (arith, ints)

    to_one : (z : ℤ) → z <ℤ pos 0 → z ≤ℤ neg_ℤ (pos 1)
    to_one z h = omega (arith, ints)

-- the same of a face
whole_face : (face : List Vec3) (d : ℕ → Bool) → 1 ≤ length face → every d (suc (length face - 1)) ≡ every d (length face)
whole_face face d l = ap (every d) (let e : suc (length face - 1) ≡ length face = omega arith in e)

low_face : (face : List Vec3) (f : ℕ → ℤ) (d : ℕ → Bool) (e : Extent) → 1 ≤ length face → IsExtent f (length face - 1) e → ((t : ℕ) → int_le (f t) (pos 0) ≡ d t) → int_le e.greatest (pos 0) ≡ every d (length face)
low_face face f d e l h s = ap (λ (z : ℤ). int_le z (pos 0)) h.high ∙ low_all f d (length face - 1) s ∙ whole_face face d l

high_face : (face : List Vec3) (f : ℕ → ℤ) (d : ℕ → Bool) (e : Extent) → 1 ≤ length face → IsExtent f (length face - 1) e → ((t : ℕ) → int_le (pos 0) (f t) ≡ d t) → int_le (pos 0) e.least ≡ every d (length face)
high_face face f d e l h s = ap (int_le (pos 0)) h.low ∙ high_all f d (length face - 1) s ∙ whole_face face d l

pub positive_face : (face : List Vec3) (f : ℕ → ℤ) (d : ℕ → Bool) (e : Extent) → 1 ≤ length face → IsExtent f (length face - 1) e → ((t : ℕ) → int_lt (pos 0) (f t) ≡ d t) → int_lt (pos 0) e.least ≡ every d (length face)
positive_face face f d e l h s = ap (int_lt (pos 0)) h.low ∙ positive_all f d (length face - 1) s ∙ whole_face face d l

pub negative_face : (face : List Vec3) (f : ℕ → ℤ) (d : ℕ → Bool) (e : Extent) → 1 ≤ length face → IsExtent f (length face - 1) e → ((t : ℕ) → int_lt (f t) (pos 0) ≡ d t) → int_lt e.greatest (pos 0) ≡ every d (length face)
negative_face face f d e l h s = ap (λ (z : ℤ). int_lt z (pos 0)) h.high ∙ negative_all f d (length face - 1) s ∙ whole_face face d l

-- ---- one difference or sum in the words of a panel
low_same : (a b : ℤ) → a ≡ b → int_le a (pos 0) ≡ int_le b (pos 0)
low_same a b e = ap (λ (z : ℤ). int_le z (pos 0)) e

high_same : (a b : ℤ) → neg_ℤ a ≡ b → int_le (pos 0) a ≡ int_le b (pos 0)
high_same a b e = same_bool _ _
    (λ h. le_from b (pos 0) (omega (arith, ints, e, le_true (pos 0) a h)))
    (λ h. le_from (pos 0) a (omega (arith, ints, e, le_true b (pos 0) h)))

-- what is true of the negative of an extent's numbers
negative_same : (a b : ℤ) → neg_ℤ a ≡ b → int_lt a (pos 0) ≡ int_lt (pos 0) b
negative_same a b e = same_bool _ _
    (λ h. lt_from (pos 0) b (omega (arith, ints, e, lt_true a (pos 0) h)))
    (λ h. lt_from a (pos 0) (omega (arith, ints, e, lt_true (pos 0) b h)))

sum_less : (a b : ℤ) → int_le (a +ℤ b) (pos 0) ≡ int_le (b -ℤ neg_ℤ a) (pos 0)
sum_less a b = low_same (a +ℤ b) (b -ℤ neg_ℤ a) (omega (arith, ints))

sum_back : (a b : ℤ) → int_le (a +ℤ b) (pos 0) ≡ int_le (b +ℤ a) (pos 0)
sum_back a b = low_same (a +ℤ b) (b +ℤ a) (omega (arith, ints))

minus_more : (a b : ℤ) → int_le (a -ℤ b) (pos 0) ≡ int_le (neg_ℤ b +ℤ a) (pos 0)
minus_more a b = low_same (a -ℤ b) (neg_ℤ b +ℤ a) (omega (arith, ints))

minus_back : (a b : ℤ) → int_le (pos 0) (a -ℤ b) ≡ int_le (b -ℤ a) (pos 0)
minus_back a b = high_same (a -ℤ b) (b -ℤ a) (omega (arith, ints))

minus_plus : (a b : ℤ) → int_le (pos 0) (a -ℤ b) ≡ int_le (b +ℤ neg_ℤ a) (pos 0)
minus_plus a b = high_same (a -ℤ b) (b +ℤ neg_ℤ a) (omega (arith, ints))

minus_first : (a b : ℤ) → int_le (pos 0) (a -ℤ b) ≡ int_le (neg_ℤ a +ℤ b) (pos 0)
minus_first a b = high_same (a -ℤ b) (neg_ℤ a +ℤ b) (omega (arith, ints))

minus_both : (a b : ℤ) → int_le (pos 0) (a -ℤ b) ≡ int_le (neg_ℤ a -ℤ neg_ℤ b) (pos 0)
minus_both a b = high_same (a -ℤ b) (neg_ℤ a -ℤ neg_ℤ b) (omega (arith, ints))

plus_both : (a b : ℤ) → int_le (pos 0) (a +ℤ b) ≡ int_le (neg_ℤ a +ℤ neg_ℤ b) (pos 0)
plus_both a b = high_same (a +ℤ b) (neg_ℤ a +ℤ neg_ℤ b) (omega (arith, ints))

plus_first : (a b : ℤ) → int_le (pos 0) (a +ℤ b) ≡ int_le (neg_ℤ a -ℤ b) (pos 0)
plus_first a b = high_same (a +ℤ b) (neg_ℤ a -ℤ b) (omega (arith, ints))

plus_last : (a b : ℤ) → int_le (pos 0) (a +ℤ b) ≡ int_le (neg_ℤ b -ℤ a) (pos 0)
plus_last a b = high_same (a +ℤ b) (neg_ℤ b -ℤ a) (omega (arith, ints))

four : (face : List Vec3) (p : Panel) (a b c d : Bool) → a ≡ every (λ t. beyond_u_end (seen face p t)) (length face) → b ≡ every (λ t. beyond_u_start (seen face p t)) (length face) → c ≡ every (λ t. beyond_v_end (seen face p t)) (length face)
    → d ≡ every (λ t. beyond_v_start (seen face p t)) (length face) → (a || b || c || d) ≡ is_beyond face p
unfolding is_beyond
four face p a b c d e f g h = cc

-- ---- the panels
pub beyond_plus_x : (face : List Vec3) (s : Spans) → AreSpans face s → (int_le s.xy.minus.greatest (pos 0) || int_le s.xy.plus.greatest (pos 0) || int_le s.xz.minus.greatest (pos 0) || int_le s.xz.plus.greatest (pos 0)) ≡ is_beyond face PlusX
beyond_plus_x face s h = let i = h.all in four face PlusX _ _ _ _
    (low_face face (λ t. x_at face t -ℤ y_at face t) (λ t. beyond_u_end (seen face PlusX t)) s.xy.minus h.some i.along_xy.difference (λ t. refl))
    (low_face face (λ t. x_at face t +ℤ y_at face t) (λ t. beyond_u_start (seen face PlusX t)) s.xy.plus h.some i.along_xy.sum (λ t. refl))
    (low_face face (λ t. x_at face t -ℤ z_at face t) (λ t. beyond_v_end (seen face PlusX t)) s.xz.minus h.some i.along_xz.difference (λ t. refl))
    (low_face face (λ t. x_at face t +ℤ z_at face t) (λ t. beyond_v_start (seen face PlusX t)) s.xz.plus h.some i.along_xz.sum (λ t. refl))

pub beyond_plus_y : (face : List Vec3) (s : Spans) → AreSpans face s → (int_le s.xy.plus.greatest (pos 0) || int_le (pos 0) s.xy.minus.least || int_le s.yz.minus.greatest (pos 0) || int_le s.yz.plus.greatest (pos 0)) ≡ is_beyond face PlusY
beyond_plus_y face s h = let i = h.all in four face PlusY _ _ _ _
    (low_face face (λ t. x_at face t +ℤ y_at face t) (λ t. beyond_u_end (seen face PlusY t)) s.xy.plus h.some i.along_xy.sum (λ t. sum_less (x_at face t) (y_at face t)))
    (high_face face (λ t. x_at face t -ℤ y_at face t) (λ t. beyond_u_start (seen face PlusY t)) s.xy.minus h.some i.along_xy.difference (λ t. minus_plus (x_at face t) (y_at face t)))
    (low_face face (λ t. y_at face t -ℤ z_at face t) (λ t. beyond_v_end (seen face PlusY t)) s.yz.minus h.some i.along_yz.difference (λ t. refl))
    (low_face face (λ t. y_at face t +ℤ z_at face t) (λ t. beyond_v_start (seen face PlusY t)) s.yz.plus h.some i.along_yz.sum (λ t. refl))

pub beyond_minus_x : (face : List Vec3) (s : Spans) → AreSpans face s → (int_le (pos 0) s.xy.minus.least || int_le (pos 0) s.xy.plus.least || int_le (pos 0) s.xz.plus.least || int_le (pos 0) s.xz.minus.least) ≡ is_beyond face MinusX
beyond_minus_x face s h = let i = h.all in four face MinusX _ _ _ _
    (high_face face (λ t. x_at face t -ℤ y_at face t) (λ t. beyond_u_end (seen face MinusX t)) s.xy.minus h.some i.along_xy.difference (λ t. minus_both (x_at face t) (y_at face t)))
    (high_face face (λ t. x_at face t +ℤ y_at face t) (λ t. beyond_u_start (seen face MinusX t)) s.xy.plus h.some i.along_xy.sum (λ t. plus_both (x_at face t) (y_at face t)))
    (high_face face (λ t. x_at face t +ℤ z_at face t) (λ t. beyond_v_end (seen face MinusX t)) s.xz.plus h.some i.along_xz.sum (λ t. plus_first (x_at face t) (z_at face t)))
    (high_face face (λ t. x_at face t -ℤ z_at face t) (λ t. beyond_v_start (seen face MinusX t)) s.xz.minus h.some i.along_xz.difference (λ t. minus_first (x_at face t) (z_at face t)))

pub beyond_minus_y : (face : List Vec3) (s : Spans) → AreSpans face s → (int_le (pos 0) s.xy.plus.least || int_le s.xy.minus.greatest (pos 0) || int_le (pos 0) s.yz.plus.least || int_le (pos 0) s.yz.minus.least) ≡ is_beyond face MinusY
beyond_minus_y face s h = let i = h.all in four face MinusY _ _ _ _
    (high_face face (λ t. x_at face t +ℤ y_at face t) (λ t. beyond_u_end (seen face MinusY t)) s.xy.plus h.some i.along_xy.sum (λ t. plus_last (x_at face t) (y_at face t)))
    (low_face face (λ t. x_at face t -ℤ y_at face t) (λ t. beyond_u_start (seen face MinusY t)) s.xy.minus h.some i.along_xy.difference (λ t. minus_more (x_at face t) (y_at face t)))
    (high_face face (λ t. y_at face t +ℤ z_at face t) (λ t. beyond_v_end (seen face MinusY t)) s.yz.plus h.some i.along_yz.sum (λ t. plus_first (y_at face t) (z_at face t)))
    (high_face face (λ t. y_at face t -ℤ z_at face t) (λ t. beyond_v_start (seen face MinusY t)) s.yz.minus h.some i.along_yz.difference (λ t. minus_first (y_at face t) (z_at face t)))

pub beyond_plus_z : (face : List Vec3) (s : Spans) → AreSpans face s → (int_le (pos 0) s.yz.minus.least || int_le s.yz.plus.greatest (pos 0) || int_le s.xz.plus.greatest (pos 0) || int_le (pos 0) s.xz.minus.least) ≡ is_beyond face PlusZ
beyond_plus_z face s h = let i = h.all in four face PlusZ _ _ _ _
    (high_face face (λ t. y_at face t -ℤ z_at face t) (λ t. beyond_u_end (seen face PlusZ t)) s.yz.minus h.some i.along_yz.difference (λ t. minus_back (y_at face t) (z_at face t)))
    (low_face face (λ t. y_at face t +ℤ z_at face t) (λ t. beyond_u_start (seen face PlusZ t)) s.yz.plus h.some i.along_yz.sum (λ t. sum_back (y_at face t) (z_at face t)))
    (low_face face (λ t. x_at face t +ℤ z_at face t) (λ t. beyond_v_end (seen face PlusZ t)) s.xz.plus h.some i.along_xz.sum (λ t. sum_less (x_at face t) (z_at face t)))
    (high_face face (λ t. x_at face t -ℤ z_at face t) (λ t. beyond_v_start (seen face PlusZ t)) s.xz.minus h.some i.along_xz.difference (λ t. minus_plus (x_at face t) (z_at face t)))

pub beyond_minus_z : (face : List Vec3) (s : Spans) → AreSpans face s → (int_le (pos 0) s.yz.plus.least || int_le s.yz.minus.greatest (pos 0) || int_le (pos 0) s.xz.plus.least || int_le s.xz.minus.greatest (pos 0)) ≡ is_beyond face MinusZ
beyond_minus_z face s h = let i = h.all in four face MinusZ _ _ _ _
    (high_face face (λ t. y_at face t +ℤ z_at face t) (λ t. beyond_u_end (seen face MinusZ t)) s.yz.plus h.some i.along_yz.sum (λ t. plus_last (y_at face t) (z_at face t)))
    (low_face face (λ t. y_at face t -ℤ z_at face t) (λ t. beyond_u_start (seen face MinusZ t)) s.yz.minus h.some i.along_yz.difference (λ t. minus_more (y_at face t) (z_at face t)))
    (high_face face (λ t. x_at face t +ℤ z_at face t) (λ t. beyond_v_end (seen face MinusZ t)) s.xz.plus h.some i.along_xz.sum (λ t. plus_last (x_at face t) (z_at face t)))
    (low_face face (λ t. x_at face t -ℤ z_at face t) (λ t. beyond_v_start (seen face MinusZ t)) s.xz.minus h.some i.along_xz.difference (λ t. minus_more (x_at face t) (z_at face t)))

-- in front: w is a coordinate, or its negative
pub front_plus : (face : List Vec3) (p : Panel) (f : ℕ → ℤ) (e : Extent) → 1 ≤ length face → IsExtent f (length face - 1) e → ((t : ℕ) → f t ≡ (seen face p t).w) → int_lt (pos 0) e.least ≡ is_in_front face p
unfolding is_in_front
front_plus face p f e l h s = positive_face face f (λ t. int_lt (pos 0) (seen face p t).w) e l h (λ t. ap (int_lt (pos 0)) (s t))

pub front_minus : (face : List Vec3) (p : Panel) (f : ℕ → ℤ) (e : Extent) → 1 ≤ length face → IsExtent f (length face - 1) e → ((t : ℕ) → neg_ℤ (f t) ≡ (seen face p t).w) → int_lt e.greatest (pos 0) ≡ is_in_front face p
unfolding is_in_front
front_minus face p f e l h s = negative_face face f (λ t. int_lt (pos 0) (seen face p t).w) e l h (λ t. negative_same (f t) (seen face p t).w (s t))
