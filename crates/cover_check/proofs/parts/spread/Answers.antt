use Rattle.std.proofs.Common.{◌≡◌, ◌<◌, List, [], ◌∷◌, ◌++◌, length, map, ap, ◌∙◌, subst, arith, slice_index, append-nil, Some}
use Rattle.std.specs.Prelude.{All}
use Rattle.std.proofs.lemmas.List.{map-append, nil_from_length}
use Rattle.std.proofs.lemmas.List.Elements.{All-contains, All-pop, Contains-push}
use Rattle.mesh_check.specs.Mesh.{corners_of}
use Rattle.cover_cells.specs.declared.cells.CellPlane.{CellPlane}
use Rattle.cover_cells.specs.Cells.{IsCell, IsAway}
use Rattle.cover_check.specs.Parts.{PartView, view_of, with_faces, IsSoundPart, IsDivided}
use Rattle.cover_check.proofs.Divided.{AreNear, are_near, sound_part}
use Rattle.cover_check.proofs.PutParts.{IsPut, put_divided, put_sound}
use Rattle.cover_check.proofs.parts.spread.Goals as goal

pub loop-cell-preserved : goal.loop-cell-preserved
loop-cell-preserved c =
    let sources = c.args.a.now in let target = corners_of c.args.b.now c.args.j in
    let faces = c.args.faces.now in
    let cell : List CellPlane = c.in-Some.cell in
    let near = c.in_ok-near.near.items in
    let pieces : List (List CellPlane) = c.pop.new.self.items in
    let popped : c.loop-cell.pieces.items ≡ pieces ++ cell ∷ [] = c.in-Some.ensures.items in
    let rings : All (IsCell sources target) (pieces ++ cell ∷ []) = subst (All (IsCell sources target)) popped c.loop-cell.invariant.rings in
    let away : c.args.skip < length faces → All (λ o. IsAway sources target o (slice_index faces c.args.skip)) (pieces ++ cell ∷ []) =
    (λ l. subst (All (λ o. IsAway sources target o (slice_index faces c.args.skip))) popped (c.loop-cell.invariant.skipped l)) in
    let n : AreNear sources target cell faces near = are_near sources target cell faces near c.args.skip c.in_ok-near.ensures.among c.in_ok-near.ensures.away
    (λ l. All-contains (λ o. IsAway sources target o (slice_index faces c.args.skip)) (pieces ++ cell ∷ []) cell (away l) (Contains-push pieces cell)) in
    let put : IsPut c.loop-cell.parts.items c.put.new.parts.items c.loop-cell.left c.put.new.left cell near = record {
      settled = λ e. let q = c.in_ok-put.ensures.settled e in (ap (map view_of) q.0, q.1);
      further = λ l. let q = c.in_ok-put.ensures.further l in
          (ap (map view_of) q.0 ∙ map-append view_of c.loop-cell.parts.items (record { cell = cell; faces = c.in_ok-near.near } ∷ []), q.1);
    } in
    let ring = All-contains (IsCell sources target) (pieces ++ cell ∷ []) cell rings (Contains-push pieces cell) in
    record {
      rings = (All-pop (IsCell sources target) c.loop-cell.pieces.items pieces (Some cell) popped c.loop-cell.invariant.rings).0;
      skipped = λ l. (All-pop (λ o. IsAway sources target o (slice_index faces c.args.skip)) c.loop-cell.pieces.items pieces (Some cell) popped (c.loop-cell.invariant.skipped l)).0;
      divided = λ all others h.
          put_divided sources target all c.loop-cell.parts.items c.put.new.parts.items others faces near pieces cell c.loop-cell.left c.put.new.left n put
          (subst (λ (l : List (List CellPlane)). IsDivided sources target all (map view_of c.loop-cell.parts.items ++ (others ++ with_faces faces l)) c.loop-cell.left) popped
          (c.loop-cell.invariant.divided all others h));
      sound = λ m few h.
          put_sound (IsSoundPart sources target m) c.loop-cell.parts.items c.put.new.parts.items near cell c.loop-cell.left c.put.new.left put
          (λ some. sound_part sources target m cell faces near ring c.in_ok-near.ensures.among some (omega (arith, few, c.in_ok-near.ensures.few)))
          (c.loop-cell.invariant.sound m few h);
      fewer = λ m skip few h.
          put_sound (IsSoundPart sources target m) c.loop-cell.parts.items c.put.new.parts.items near cell c.loop-cell.left c.put.new.left put
          (λ some. sound_part sources target m cell faces near ring c.in_ok-near.ensures.among some (omega (arith, few, c.in_ok-near.ensures.fewer skip)))
          (c.loop-cell.invariant.fewer m skip few h);
    }

pub returns-clause-divided : goal.returns-clause-divided
returns-clause-divided c = λ all others h.
    let sources = c.args.a.now in let target = corners_of c.args.b.now c.args.j in
    let none : c.loop-cell.pieces.items ≡ [] = nil_from_length c.loop-cell.pieces.items (omega (arith, c.in_default.ensures.cases.0)) in
    subst (λ (l : List PartView). IsDivided sources target all (map view_of c.loop-cell.parts.items ++ l) c.loop-cell.left) (append-nil others)
    (subst (λ (l : List (List CellPlane)). IsDivided sources target all (map view_of c.loop-cell.parts.items ++ (others ++ with_faces c.args.faces.now l)) c.loop-cell.left) none
    (c.loop-cell.invariant.divided all others h))
