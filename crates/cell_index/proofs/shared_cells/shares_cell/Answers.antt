use Rattle.std.proofs.Common.{FitsSigned, rules}
use Rattle.std.proofs.lemmas.Int.{to_z-of_z}
use mir.Syntax.{w32}
use Rattle.cell_index.proofs.Sharing.{ranges_decide}
use Rattle.cell_index.proofs.shared_cells.shares_cell.Goals as goal

pub returns-in-Some-b : goal.returns-in-Some-b
returns-in-Some-b c =
    let x = c.in-Some.x in
    let y = c.in-Some-b.y in
    let a : FitsSigned w32 x.u0 = search rules in
    let b : FitsSigned w32 x.u1 = search rules in
    let d : FitsSigned w32 x.v0 = search rules in
    let e : FitsSigned w32 x.v1 = search rules in
    let f : FitsSigned w32 y.u0 = search rules in
    let g : FitsSigned w32 y.u1 = search rules in
    let h : FitsSigned w32 y.v0 = search rules in
    let i : FitsSigned w32 y.v1 = search rules in
    rw (c.in-Some.is, c.in-Some-b.is) (simp to_z-of_z (ranges_decide x y))
