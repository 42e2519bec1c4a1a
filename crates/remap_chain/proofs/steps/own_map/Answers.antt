use Rattle.std.proofs.Common.{subst}
use Rattle.remap_chain.proofs.OneField.{IsOwnMapFault, own_row}
use Rattle.remap_chain.proofs.steps.own_map.Goals as goal

pub unreachable-requires-in-Err-Row : goal.unreachable-requires-in-Err-Row
unreachable-requires-in-Err-Row c =
    let a = c.args.a.now in
    let b = c.args.b.now in
    let o = c.args.overlap.now in
    own_row a b o c.in-Err-Row.field-0-0 c.requires (subst (IsOwnMapFault a b o) c.in-Err-Row.field-0-is c.in-Err-Row.ensures.fault)
