use Rattle.std.proofs.Common.{◌≡◌, take}
use Rattle.exodus_mesh.specs.MeshValues.{without_repeats}
use Rattle.exodus_mesh.proofs.values.without_repeats.Given as goal

abbrev pub invariant-loop-k : goal.invariant-loop-k
invariant-loop-k l = l.kept.items ≡ without_repeats (take l.k l.row)
