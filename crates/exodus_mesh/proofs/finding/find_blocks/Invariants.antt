use Rattle.std.proofs.Common.{◌≡◌, Ok}
use Rattle.exodus_mesh.specs.MeshNames.{blocks_in}
use Rattle.exodus_mesh.proofs.finding.find_blocks.Given as goal

abbrev pub invariant-loop-number : goal.invariant-loop-number
invariant-loop-number l = blocks_in l.file l.number ≡ Ok l.blocks.items
