-- Directed edges in strictly ascending order, and which of them have no reverse among them.
use Rattle.std.specs.Prelude.{ℤ, Bool, not, List}
use Rattle.std.specs.List.{list_any}
use Rattle.std.specs.Ordering.{int_eq}
use Rattle.std.specs.Cmp.Lexicographic.{pointwise}
use Rattle.mesh_partition.specs.Edges.{reverse_edge}

-- one of the edges is this one
abbrev pub is_among : List (List ℤ) → List ℤ → Bool
is_among edges e = list_any (λ f. pointwise int_eq f e) edges

-- none of the edges is the reverse of this one
abbrev pub is_alone_among : List (List ℤ) → List ℤ → Bool
is_alone_among edges e = not (is_among edges (reverse_edge e))
