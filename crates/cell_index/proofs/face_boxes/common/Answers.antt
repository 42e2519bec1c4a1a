use Rattle.std.proofs.Common.{arith, FitsSigned, rules}
use Rattle.std.proofs.lemmas.Int.{ints, clamps}
use mir.Syntax.{w32}
use Rattle.cell_index.proofs.face_boxes.common.Goals as goal

pub returns-clause-u0 : goal.returns-clause-u0
returns-clause-u0 c =
    let f : FitsSigned w32 c.args.a.u0 = search rules in
    let g : FitsSigned w32 c.args.b.u0 = search rules in
    omega (arith, ints, clamps, c.max.ensures.value)

pub returns-clause-u1 : goal.returns-clause-u1
returns-clause-u1 c =
    let f : FitsSigned w32 c.args.a.u1 = search rules in
    let g : FitsSigned w32 c.args.b.u1 = search rules in
    omega (arith, ints, clamps, c.min.ensures.value)

pub returns-clause-v0 : goal.returns-clause-v0
returns-clause-v0 c =
    let f : FitsSigned w32 c.args.a.v0 = search rules in
    let g : FitsSigned w32 c.args.b.v0 = search rules in
    omega (arith, ints, clamps, c.max-2.ensures.value)

pub returns-clause-v1 : goal.returns-clause-v1
returns-clause-v1 c =
    let f : FitsSigned w32 c.args.a.v1 = search rules in
    let g : FitsSigned w32 c.args.b.v1 = search rules in
    omega (arith, ints, clamps, c.min-2.ensures.value)
