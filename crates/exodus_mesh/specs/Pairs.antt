-- Rows of a file that each name a face of two meshes, in two columns of numbers. The whole form is our own.
-- A row counts from 0.
use Rattle.std.specs.Prelude.{ℕ, ◌-◌, ℤ, pos, List, Bool, ◌==◌, ◌&&◌, ◌||◌, int_lt, int_le, slice_index_or}
use Rattle.std.specs.Ordering.{int_eq}

-- from low to high
abbrev pub is_within : ℕ → ℕ → ℤ → Bool
is_within low high z = int_le (pos low) z && int_le z (pos high)

-- the number of row r
abbrev pub at_row : List ℤ → ℕ → ℤ
at_row column r = slice_index_or column r (pos 0)

-- the pair (c, d) exceeds the pair (a, b)
abbrev pub exceeds : ℤ → ℤ → ℤ → ℤ → Bool
exceeds a b c d = int_lt a c || (int_eq a c && int_lt b d)

-- the faces of row r are faces of the meshes, and the pair of them exceeds that of the row before
unfoldable pub has_good_faces : ℕ → ℕ → List ℤ → List ℤ → ℕ → Bool
has_good_faces faces_a faces_b source target r =
    is_within 1 faces_a (at_row source r)
    && is_within 1 faces_b (at_row target r)
    && (r == 0 || exceeds (at_row source (r - 1)) (at_row target (r - 1)) (at_row source r) (at_row target r))
