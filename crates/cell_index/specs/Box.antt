-- The box of a face on a panel: the cells that the face can reach there.
-- Source: our own, over the gnomonic cubed sphere. On a panel a direction in front of it is seen at the place (u / w, v / w); the
-- panel itself is the square from -1 to 1 both ways, and at the fineness k it is cut into 2 k by 2 k cells. Cell (i, j) goes from
-- i / k to (i + 1) / k in the first coordinate, and from j / k to (j + 1) / k in the second.
use Rattle.std.specs.Prelude.{ℕ, zero, suc, ◌-◌, ℤ, pos, neg_ℤ, ◌+ℤ◌, ◌-ℤ◌, ◌*ℤ◌, int_lt, int_le, Bool, true, ◌&&◌, ◌||◌, if◌then◌else◌, List, [], ◌∷◌, length, None, Some, Option}
use Rattle.std.specs.Int.{int_div_euclid, int_min, int_max}
use Rattle.vec_exact.specs.declared.Vec3.{Vec3}
use Rattle.vec_exact.specs.declared.panels.Panel.{Panel}
use Rattle.vec_exact.specs.declared.panels.Panel.TheVariants.{PlusX, PlusY, MinusX, MinusY, PlusZ, MinusZ}
use Rattle.vec_exact.specs.Cycle.{vector_at}
use Rattle.cell_index.specs.declared.coordinates.Coordinates.{Coordinates}
use Rattle.cell_index.specs.declared.CellBox.{CellBox}

-- the coordinates of d on a panel: w points out of it, u and v run along it. They are those that `on_panel` takes to d
abbrev pub seen_from : Panel → Vec3 → Coordinates
seen_from PlusX d = record { w = d.x; u = d.y; v = d.z }
seen_from PlusY d = record { w = d.y; u = neg_ℤ d.x; v = d.z }
seen_from MinusX d = record { w = neg_ℤ d.x; u = neg_ℤ d.y; v = d.z }
seen_from MinusY d = record { w = neg_ℤ d.y; u = d.x; v = d.z }
seen_from PlusZ d = record { w = d.z; u = d.y; v = neg_ℤ d.x }
seen_from MinusZ d = record { w = neg_ℤ d.z; u = d.y; v = d.x }

-- f holds at the first n places
abbrev pub every : (ℕ → Bool) → ℕ → Bool
every f zero = true
every f (suc n) = every f n && f n

-- the least and the greatest of f at the places 0 to n
abbrev pub least : (ℕ → ℤ) → ℕ → ℤ
least f zero = f 0
least f (suc n) = int_min (least f n) (f (suc n))

abbrev pub greatest : (ℕ → ℤ) → ℕ → ℤ
greatest f zero = f 0
greatest f (suc n) = int_max (greatest f n) (f (suc n))

-- the node at place t of the face, as the panel sees it
abbrev pub seen : List Vec3 → Panel → ℕ → Coordinates
seen face panel t = seen_from panel (vector_at face t)

-- a node is on or beyond one of the four sides of the panel
abbrev pub beyond_u_end : Coordinates → Bool
beyond_u_end d = int_le (d.w -ℤ d.u) (pos 0)

abbrev pub beyond_u_start : Coordinates → Bool
beyond_u_start d = int_le (d.w +ℤ d.u) (pos 0)

abbrev pub beyond_v_end : Coordinates → Bool
beyond_v_end d = int_le (d.w -ℤ d.v) (pos 0)

abbrev pub beyond_v_start : Coordinates → Bool
beyond_v_start d = int_le (d.w +ℤ d.v) (pos 0)

-- one of the four sides has every node of the face on or beyond it
unfoldable pub is_beyond : List Vec3 → Panel → Bool
is_beyond face panel =
    every (λ t. beyond_u_end (seen face panel t)) (length face)
    || every (λ t. beyond_u_start (seen face panel t)) (length face)
    || every (λ t. beyond_v_end (seen face panel t)) (length face)
    || every (λ t. beyond_v_start (seen face panel t)) (length face)

-- every node of the face is in front of the panel
unfoldable pub is_in_front : List Vec3 → Panel → Bool
is_in_front face panel = every (λ t. int_lt (pos 0) (seen face panel t).w) (length face)

-- `a / w` rounded down, for a positive w
abbrev pub floor_of : ℤ → ℤ → ℤ
floor_of a w = int_div_euclid a w

-- the cell of the node at place t, in each coordinate
abbrev pub u_floor : List Vec3 → Panel → ℤ → ℕ → ℤ
u_floor face panel k t = floor_of (k *ℤ (seen face panel t).u) (seen face panel t).w

abbrev pub v_floor : List Vec3 → Panel → ℤ → ℕ → ℤ
v_floor face panel k t = floor_of (k *ℤ (seen face panel t).v) (seen face panel t).w

-- from the least to the greatest cell of the nodes, both within the panel
unfoldable pub range_of : List Vec3 → Panel → ℤ → CellBox
range_of face panel k = record {
  u0 = int_max (neg_ℤ k) (least (u_floor face panel k) (length face - 1));
  u1 = int_min (k -ℤ pos 1) (greatest (u_floor face panel k) (length face - 1));
  v0 = int_max (neg_ℤ k) (least (v_floor face panel k) (length face - 1));
  v1 = int_min (k -ℤ pos 1) (greatest (v_floor face panel k) (length face - 1));
}

abbrev pub is_empty : CellBox → Bool
is_empty b = int_lt b.u1 b.u0 || int_lt b.v1 b.v0

abbrev pub whole_panel : ℤ → CellBox
whole_panel k = record { u0 = neg_ℤ k; u1 = k -ℤ pos 1; v0 = neg_ℤ k; v1 = k -ℤ pos 1 }

-- the box of a face on a panel at the fineness k: the first case that holds decides
unfoldable pub box_of : List Vec3 → Panel → ℤ → Option CellBox
box_of face panel k =
    if is_beyond face panel
    then None
    else (if is_in_front face panel
    then (if is_empty (range_of face panel k) then None else Some (range_of face panel k))
    else Some (whole_panel k))

-- the boxes on the six panels
abbrev pub boxes : List Vec3 → ℤ → List (Option CellBox)
boxes face k = box_of face PlusX k ∷ box_of face PlusY k ∷ box_of face MinusX k ∷ box_of face MinusY k ∷ box_of face PlusZ k ∷ box_of face MinusZ k ∷ []
