use Rattle.std.proofs.Common.{◌≡◌, ap, sym, ◌∙◌, subst, List, ◌++◌, ◌∷◌, []}
use Rattle.std.specs.Prelude.{All}
use Rattle.mesh_check.specs.Mesh.{corners_of}
use Rattle.cover_cells.specs.declared.cells.CellPlane.{CellPlane}
use Rattle.cover_cells.specs.Cells.{IsCell, cells_with}
use Rattle.cover_cells.proofs.WholeTarget.{all_cells, one_inside, none_outside}
use Rattle.cover_cells.proofs.targets.whole_target.Goals as goal
use Rattle.cover_cells.proofs.targets.whole_target.Goals.{In_ok-push}

-- the list has the one cell
alone : (c : In_ok-push) → c.push.new.self.items ≡ c.in_ok-items.items.items ∷ []
alone c = c.in_ok-push.ensures.items ∙ ap (λ (l : List (List CellPlane)). l ++ c.in_ok-items.items.items ∷ []) c.new-cells.ensures.items

pub returns-clause-cells : goal.returns-clause-cells
returns-clause-cells c = λ sources.
    subst (All (IsCell sources (corners_of c.args.b.now c.args.j))) (sym (alone c))
    (all_cells sources (corners_of c.args.b.now c.args.j) c.in_ok-items.items.items c.in_ok-items.ensures.edges c.in_ok-items.ensures.accepted)

pub returns-clause-inside : goal.returns-clause-inside
returns-clause-inside c = λ sources d i.
    let target = corners_of c.args.b.now c.args.j in
    ap (cells_with sources target d) (alone c) ∙ one_inside sources target c.in_ok-items.items.items c.in_ok-items.ensures.edges d i

pub returns-clause-outside : goal.returns-clause-outside
returns-clause-outside c = λ sources d o.
    let target = corners_of c.args.b.now c.args.j in
    ap (cells_with sources target d) (alone c) ∙ none_outside sources target c.in_ok-items.items.items c.in_ok-items.ensures.edges d o
