use Rattle.std.proofs.Common.{◌≡◌, ◌+◌, map, pos}
use Rattle.std.specs.List.{range_with_len}
use Rattle.gen_ico.specs.Dual.{dual_face}
use Rattle.gen_ico.proofs.dual.dual_faces.Given as goal

abbrev pub invariant-loop-q : goal.invariant-loop-q
invariant-loop-q l = l.out.items ≡ map (λ k. dual_face l.faces (pos (k + 1))) (range_with_len 0 l.q)
