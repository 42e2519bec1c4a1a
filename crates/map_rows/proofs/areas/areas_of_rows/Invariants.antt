use Rattle.std.proofs.Common.{◌≡◌, take}
use Rattle.map_rows.specs.Maps.{areas_of, source_of, target_of}
use Rattle.map_rows.proofs.areas.areas_of_rows.Given as goal

abbrev pub invariant-loop-row : goal.invariant-loop-row
invariant-loop-row l =
    (l.source.items ≡ areas_of source_of l.n_a (take l.row-index l.rows)) × (l.target.items ≡ areas_of target_of l.n_b (take l.row-index l.rows))
