-- The faces of a base triangle between neighbouring rows of numbers. Source: our own.
use Rattle.std.specs.Prelude.{ℕ, ◌+◌, ◌-◌, nat_lt, ℤ, pos, if◌then◌else◌, List, [], ◌∷◌, length, map, slice_index_or}
use Rattle.std.specs.List.{flat_map, range_with_len}
use Rattle.gen_ico.specs.Icosahedral.{number_at}

-- the numbers of the points of row i of a base triangle
abbrev pub row_numbers : List (List ℤ) → ℕ → List ℕ → ℕ → List ℤ
row_numbers nodes n triangle i = map (number_at nodes n triangle i) (range_with_len 0 (n + 1 - i))

-- the number at place j of a row
abbrev pub number_in : List ℤ → ℕ → ℤ
number_in row j = slice_index_or row j (pos 0)

-- the face at place j between a row and the next one, which is shorter by one, that points as the base triangle does
abbrev pub upright_between : List ℤ → List ℤ → ℕ → List ℤ
upright_between row next j = number_in row j ∷ number_in next j ∷ number_in row (j + 1) ∷ []

-- the one behind it, which points the other way
abbrev pub inverted_between : List ℤ → List ℤ → ℕ → List ℤ
inverted_between row next j = number_in next j ∷ number_in next (j + 1) ∷ number_in row (j + 1) ∷ []

-- the second one right after the first, where the rows have it
unfoldable pub faces_between : List ℤ → List ℤ → ℕ → List (List ℤ)
faces_between row next j = upright_between row next j ∷ (if nat_lt (j + 1) (length next) then inverted_between row next j ∷ [] else [])

-- all faces between the two rows
abbrev pub faces_of_rows : List ℤ → List ℤ → List (List ℤ)
faces_of_rows row next = flat_map (faces_between row next) (range_with_len 0 (length next))
