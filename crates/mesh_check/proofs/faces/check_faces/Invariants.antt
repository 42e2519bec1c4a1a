use Rattle.std.proofs.Common.{take, All}
use Rattle.vec_exact.specs.Face.{IsAccepted}
use Rattle.mesh_check.proofs.faces.check_faces.Given as goal

abbrev pub invariant-loop-i : goal.invariant-loop-i
invariant-loop-i l = All (IsAccepted l.nodes) (take l.i l.faces)
