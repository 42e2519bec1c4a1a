use Rattle.std.proofs.Common.{◌≡◌, ◌+◌, arith, get_or, ◌∙◌, subst, List, length, ℕ, OnOk}
use Rattle.std.proofs.lemmas.List.{get_or_default}
use Rattle.cell_index.specs.Kept.{Gathers, InPart, InRow}
use Rattle.cell_index.proofs.Fillings.{on_ok, rises}
use Rattle.cell_index.proofs.Searches.{gathers_where, row_in_part, part_in_row}
use Rattle.cell_index.proofs.search.gather_row.Goals as goal

pub gather_part-requires-clause-order : goal.gather_part-requires-clause-order
gather_part-requires-clause-order c =
    let starts = c.args.cells.now.starts.items in
    let from = c.index.result.now in
    let to = c.index-2.result.now in
    let e : from ≡ get_or starts c.args.first 0 = c.index.ensures ∙ get_or_default starts c.args.first from 0 (omega arith) in
    let f : to ≡ get_or starts (c.args.last + 1) 0 = c.index-2.ensures ∙ get_or_default starts (c.args.last + 1) to 0 (omega arith) in
    let r = rises starts (length c.args.cells.now.faces.items) c.args.first (c.args.last + 1) c.requires.ranges (omega arith) c.requires.row.1 in
    omega (arith, e, f, r)

pub returns : goal.returns
returns c =
    let cells = c.args.cells.now in
    let starts = cells.starts.items in
    let before = c.args.found.now.items in
    let after = c.gather_part.new.found.items in
    let from = c.index.result.now in
    let to = c.index-2.result.now in
    let e : from ≡ get_or starts c.args.first 0 = c.index.ensures ∙ get_or_default starts c.args.first from 0 (omega arith) in
    let f : to ≡ get_or starts (c.args.last + 1) 0 = c.index-2.ensures ∙ get_or_default starts (c.args.last + 1) to 0 (omega arith) in
    let h = subst (λ (z : List ℕ). OnOk c.gather_part.result (Gathers before after (InPart z from to))) c.deref.ensures.value c.gather_part.ensures in
    on_ok c.gather_part.result h
    (λ t. gathers_where before after (InPart cells.faces.items from to) (InRow cells c.args.first c.args.last) t (part_in_row cells c.args.first c.args.last from to c.requires.row.0 e f)
    (row_in_part cells c.args.first c.args.last from to c.requires.ranges c.requires.row.1 e f))
