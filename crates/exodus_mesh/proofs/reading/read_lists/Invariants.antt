use Rattle.std.proofs.Common.{◌≡◌, map, take}
use Rattle.exodus_mesh.specs.MeshIn.{values_in}
use Rattle.exodus_mesh.proofs.reading.read_lists.Given as goal

abbrev pub invariant-loop-place : goal.invariant-loop-place
invariant-loop-place l = l.lists.items ≡ map (values_in l.file l.bytes) (take l.place-index l.places)
