-- Pieces whose source face comes before the target face. Source: our own.
use Rattle.std.specs.Prelude.{ℕ, nat_lt, Bool, List, count_by}
use Rattle.clip.specs.declared.pieces.Piece.{Piece}

abbrev pub is_later : Piece → Bool
is_later p = nat_lt p.a p.b

-- how many of the pieces
abbrev pub later_count : List Piece → ℕ
later_count pieces = count_by is_later pieces
