use Rattle.std.proofs.lemmas.Int.{to_z-of_z}
use Rattle.cell_index.specs.Kept.{side, InRange, InBox}
use Rattle.cell_index.proofs.Fillings.{on_ok}
use Rattle.cell_index.proofs.Searches.{gathers_none, gathers_where, no_box, box_in_range, range_in_box}
use Rattle.cell_index.proofs.search.gather_box.Goals as goal

pub shift-requires-clause-inside : goal.shift-requires-clause-inside
shift-requires-clause-inside c = let fk = c.ranges.k in simp to_z-of_z (c.requires.fair c.in-Some.b c.in-Some.is)

pub returns-in-None : goal.returns-in-None
returns-in-None c = gathers_none c.args.found.now.items (InBox c.args.cells.now c.args.k c.args.panel c.args.reached) (no_box c.args.cells.now c.args.k c.args.panel c.args.reached c.in-None.is)

pub returns-in-Some : goal.returns-in-Some
returns-in-Some c =
    let fk = c.ranges.k in
    let cells = c.args.cells.now in
    let a = simp to_z-of_z at c.gather_range.ensures in
    let s = simp to_z-of_z at c.shift.ensures.value in
    on_ok c.gather_range.result a
    (λ h. gathers_where c.args.found.now.items c.gather_range.new.found.items (InRange cells (side c.args.k) c.args.panel c.shift.result) (InBox cells c.args.k c.args.panel c.args.reached) h
    (range_in_box cells c.args.k c.args.panel c.args.reached c.in-Some.b c.shift.result c.in-Some.is s) (box_in_range cells c.args.k c.args.panel c.args.reached c.in-Some.b c.shift.result c.in-Some.is s))
