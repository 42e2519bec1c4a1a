use Rattle.std.proofs.Common.{◌≡◌, ◌*◌, ◌≤◌, take}
use Rattle.std.specs.List.{sum_by}
use Rattle.exodus_mesh.specs.declared.vars.BlockVar.{BlockVar}
use Rattle.exodus_mesh.proofs.finding.face_count.Given as goal

abbrev pub invariant-loop-block : goal.invariant-loop-block
invariant-loop-block l = record {
  sum : l.faces ≡ sum_by (λ (b : BlockVar). b.faces) (take l.block-index l.blocks);
  small : l.faces ≤ 4294967295 * l.block-index;
}
