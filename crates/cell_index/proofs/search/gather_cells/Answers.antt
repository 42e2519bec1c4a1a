use Rattle.std.proofs.Common.{arith, to_z, of_z}
use Rattle.std.proofs.lemmas.Int.{to_z-of_z}
use mir.Syntax.{w32}
use Rattle.cell_index.specs.Kept.{InPanels}
use Rattle.cell_index.proofs.Searches.{gathers_where, panels_start, panels_more}
use Rattle.cell_index.proofs.search.gather_cells.Goals as goal

pub gather_box-requires-clause-fair : goal.gather_box-requires-clause-fair
gather_box-requires-clause-fair c = λ b e. let fk = c.ranges.k in simp to_z-of_z (c.requires.fair c.loop-p.p b (omega arith) e)

pub loop-p-init : goal.loop-p-init
loop-p-init c = panels_start c.args.found.now.items c.args.cells.now (to_z w32 (of_z w32 c.args.k)) c.args.own.now.panel

pub loop-p-preserved : goal.loop-p-preserved
loop-p-preserved c =
    panels_more c.args.found.now.items c.loop-p.found.items c.gather_box.new.found.items c.args.cells.now (to_z w32 (of_z w32 c.args.k)) c.args.own.now.panel c.loop-p.p c.loop-p.invariant c.in_ok-gather_box.ensures

pub returns : goal.returns
returns c =
    let fk = c.ranges.k in
    let i = simp to_z-of_z at c.loop-p.invariant in
    gathers_where c.args.found.now.items c.loop-p.found.items (InPanels c.args.cells.now c.args.k c.args.own.now.panel c.loop-p.p) (InPanels c.args.cells.now c.args.k c.args.own.now.panel 6) i
    (λ j q. record { panel = q.panel; below = omega (arith, q.below); stands = q.stands }) (λ j q. record { panel = q.panel; below = omega (arith, q.below); stands = q.stands })
