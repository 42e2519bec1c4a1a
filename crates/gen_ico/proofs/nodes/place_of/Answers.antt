use Rattle.std.proofs.Common.{[], sym, arith}
use Rattle.gen_ico.proofs.Search.{found_place, no_place, searchable}
use Rattle.gen_ico.proofs.nodes.place_of.Goals as goal

pub returns-in-Ok-clause-value : goal.returns-in-Ok-clause-value
returns-in-Ok-clause-value c =
    sym (found_place c.args.nodes.now c.args.point c.in-Ok.place c.requires c.in-Ok.ensures.bound (c.in-Ok.ensures.position []))

pub returns-in-Err-clause-value : goal.returns-in-Err-clause-value
returns-in-Err-clause-value c =
    let nodes = c.args.nodes.now in
    let parted = c.in-Err.ensures.position (searchable nodes c.args.point c.requires) in
    sym (no_place nodes c.args.point c.in-Err.field-0 (λ k lt. parted.0 k [] (omega arith) lt) (λ k le lt. parted.1 k [] le lt))
