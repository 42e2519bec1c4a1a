use Rattle.std.proofs.Common.{◌≡◌, ◌∙◌, ◌*◌, length, ap}
use Rattle.remap_load.proofs.Costs.{whole_bytes, numbers_len}
use Rattle.remap_load.proofs.variables.values_of.Goals as goal

pub spelled-requires-clause-len : goal.spelled-requires-clause-len
spelled-requires-clause-len g c =
    let v = c.args.var.now in
    let long : length c.deref.result.now ≡ v.parts * v.part = ap length c.deref.ensures.value ∙ c.in_ok-bytes.ensures.len in
    whole_bytes v c.deref.result.now long c.requires.pieces.whole

pub returns-clause-len : goal.returns-clause-len
returns-clause-len g c =
    let v = c.args.var.now in
    let long : length c.deref.result.now ≡ v.parts * v.part = ap length c.deref.ensures.value ∙ c.in_ok-bytes.ensures.len in
    ap length c.in_ok-spelled.ensures ∙ numbers_len v c.deref.result.now long
