use Rattle.std.proofs.Common.{◌≤◌, rules, sym, subst, eqb, ℕ, List, length}
use Rattle.std.specs.List.Sorted.{IsStrictlyIncreasing}
use Rattle.std.proofs.lemmas.Int.{to_z-of_z}
use Rattle.std.proofs.lemmas.List.Filters.{dedup_is}
use Rattle.std.proofs.lemmas.Map.Keys.{IsStrictlyIncreasing-dedup}
use Rattle.cell_index.specs.Kept.{Takes, InPart}
use Rattle.cell_index.proofs.Searches.{found_members}
use Rattle.cell_index.proofs.search.sharers.Goals as goal

pub gather_cells-requires-clause-fair : goal.gather_cells-requires-clause-fair
gather_cells-requires-clause-fair c = let fk = c.ranges.k in simp to_z-of_z c.requires.fair

pub returns-clause-members : goal.returns-clause-members
returns-clause-members c =
    let fk = c.ranges.k in
    let own = c.args.own.now.panel in
    let bs = c.args.all.now in
    let cells = c.args.cells.now in
    let none = c.clear.new.self.items in
    let some = c.take_part.new.found.items in
    let found = c.gather_cells.new.found.items in
    let sorted = c.sort_unstable.new.self.items in
    let final = c.dedup.new.self.items in
    let n = c.len.result in
    let l : length cells.large.items ≤ n = search rules in
    let t = subst (λ (z : List ℕ). Takes own bs none some (InPart z 0 n)) c.deref.ensures.value c.in_ok-take_part.ensures in
    let u = simp to_z-of_z at c.in_ok-gather_cells.ensures in
    found_members c.args.k own bs cells none some found sorted final n c.requires.complete c.requires.fair c.clear.ensures.items l t u c.sort_unstable.ensures.permutation (dedup_is eqb sorted final c.dedup.ensures.filtered)

pub returns-clause-ascending : goal.returns-clause-ascending
returns-clause-ascending c =
    let sorted = c.sort_unstable.new.self.items in
    subst (λ (z : List ℕ). IsStrictlyIncreasing z) (sym (dedup_is eqb sorted c.dedup.new.self.items c.dedup.ensures.filtered)) (IsStrictlyIncreasing-dedup sorted c.sort_unstable.ensures.sorted)
