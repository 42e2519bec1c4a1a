use Rattle.std.proofs.Common.{◌≡◌, ◌<◌, ◌+◌, List, length, ap, sym, ◌∙◌, subst, arith, ◌++◌, ◌∷◌, [], slice_index_or, Option, Some, None, MatchOption}
use Rattle.std.specs.Prelude.{All}
use Rattle.std.proofs.lemmas.List.Elements.{All-push}
use Rattle.mesh_check.specs.Mesh.{corners_of}
use Rattle.cover_cells.specs.declared.cells.CellPlane.{CellPlane}
use Rattle.cover_cells.specs.Cells.{IsCell}
use Rattle.cover_cells.proofs.Counts.{AreHalves, next_none, next_some}
use Rattle.cover_cells.proofs.halves.halves.Goals as goal
use Rattle.cover_cells.proofs.halves.halves.Goals.{in-None, in-Some+in_ok-push-in-Some}

at_none : {A : Type 0} (r : Option A) (P : Type 0) (Q : A → Type 0) → r ≡ None → MatchOption r P Q → P
at_none None P Q e h = h
at_none (Some x) P Q e h = cc

at_some : {A : Type 0} (r : Option A) (P : Type 0) (Q : A → Type 0) (x : A) → r ≡ Some x → MatchOption r P Q → Q x
at_some {A} r P Q x e h = subst (λ (o : Option A). MatchOption o P Q) e h

pub loop-cell-preserved : goal.loop-cell-preserved
loop-cell-preserved c =
    let sources = c.args.a.now in let target = corners_of c.args.b.now c.args.j in
    let i = c.loop-cell.cell-index in
    let cells = c.args.cells.now in
    let same : c.deref-cell-items.result.now ≡ cells = c.deref-cell-items.ensures.value ∙ c.cells.view_is in
    let l : i < length cells = omega (arith, ap length same) in
    let o : List CellPlane = c.cell-item.result in
    let e : slice_index_or cells i o ≡ o = sym (c.cell-item.is ∙ ap (λ (u : List (List CellPlane)). slice_index_or u i o) same) in
    elim c.match-branch-2.branch [
      | in-None w ↦
          let k : c.match-branch-2.parts.items ≡ c.loop-cell.parts.items = ap (λ z. z.items) w.parts-is in
          record {
            cells = subst (All (IsCell sources target)) (sym k) c.loop-cell.invariant.cells;
            count = subst (λ (u : List (List CellPlane)). AreHalves sources target cells c.args.p u (i + 1)) (sym k)
                (next_none sources target cells c.loop-cell.parts.items o c.args.p i l e (at_none c.in_ok-half.field-0 _ _ w.in-None.is c.in_ok-half.ensures) c.loop-cell.invariant.count);
          }
      | in-Some+in_ok-push-in-Some w ↦
          let k : c.match-branch-2.parts.items ≡ c.loop-cell.parts.items ++ w.in-Some.part ∷ [] = ap (λ z. z.items) w.parts-is ∙ w.in_ok-push-in-Some.ensures.items in
          let h = at_some c.in_ok-half.field-0 _ _ w.in-Some.part w.in-Some.is c.in_ok-half.ensures in
          record {
            cells = subst (All (IsCell sources target)) (sym k) (All-push (IsCell sources target) c.loop-cell.parts.items w.in-Some.part c.loop-cell.invariant.cells h.is_cell);
            count = subst (λ (u : List (List CellPlane)). AreHalves sources target cells c.args.p u (i + 1)) (sym k)
                (next_some sources target cells c.loop-cell.parts.items o w.in-Some.part c.args.p i l e h c.loop-cell.invariant.count);
          }
    ]
