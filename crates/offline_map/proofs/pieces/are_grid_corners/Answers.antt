use Rattle.std.proofs.Common.{◌≡◌, [], length, get_or, IsTrue, false, subst, sym, ◌∙◌, arith, refl}
use Rattle.std.proofs.lemmas.List.{take_all}
use Rattle.std.proofs.lemmas.List.Elements.{All-more}
use Rattle.vec_exact.specs.Cycle.{corner}
use Rattle.cone_laws.specs.Ring.{listed, planes_of_pair}
use Rattle.clip.specs.Outlines.{nodes_of}
use Rattle.piece_measure.specs.Grid.{IsOnGrid}
use Rattle.offline_map.proofs.RightPieces.{all_corners, one_more_corner, other_corner, other_triple, same_triple}
use Rattle.offline_map.proofs.pieces.are_grid_corners.Goals as goal

untrue : IsTrue false → ⊥
untrue e = cc

pub grid_of_form-requires : goal.grid_of_form-requires
grid_of_form-requires c =
    let l = c.args.ring.now.items in
    let n = listed (planes_of_pair (nodes_of c.args.f.now) (nodes_of c.args.g.now)) l in
    (corner (length l) n c.loop-t.t, c.requires.nonzero c.loop-t.t (omega arith), c.corner_form.ensures)

pub returns-then-ne-clause-exactly : goal.returns-then-ne-clause-exactly
returns-then-ne-clause-exactly c =
    let l = c.args.ring.now.items in
    let n = listed (planes_of_pair (nodes_of c.args.f.now) (nodes_of c.args.g.now)) l in
    let t = c.loop-t.t in
    let v = corner (length l) n t in
    let x = get_or c.args.corners.now t [] in
    let y = c.grid_of_form.result in
    let differs = other_triple x y c.if-ne.ensures in (
      λ t. absurd (untrue t),
      λ e. absurd (other_corner (length l) n c.args.corners.now t t [] x y v (omega arith) refl (c.grid_of_form.ensures.value v c.corner_form.ensures) refl refl differs e),
    )

pub loop-t-preserved : goal.loop-t-preserved
loop-t-preserved c =
    let l = c.args.ring.now.items in
    let n = listed (planes_of_pair (nodes_of c.args.f.now) (nodes_of c.args.g.now)) l in
    let corners = c.args.corners.now in
    let t = c.loop-t.t in
    let v = corner (length l) n t in
    let x = get_or corners t [] in
    let same : x ≡ c.grid_of_form.result = same_triple x c.grid_of_form.result c.if-ne.ensures in (
      one_more_corner (length l) n corners t t [] x v c.loop-t.invariant.0 (omega arith) refl (same ∙ c.grid_of_form.ensures.value v c.corner_form.ensures) refl refl,
      All-more IsOnGrid corners t [] (omega arith) c.loop-t.invariant.1 (subst IsOnGrid (sym same) c.grid_of_form.ensures.on_grid),
    )

pub returns-clause-exactly : goal.returns-clause-exactly
returns-clause-exactly c =
    let l = c.args.ring.now.items in
    let n = listed (planes_of_pair (nodes_of c.args.f.now) (nodes_of c.args.g.now)) l in
    let corners = c.args.corners.now in (
      λ t. sym (take_all c.loop-t.t corners (omega arith)) ∙ c.loop-t.invariant.0 ∙ all_corners (length l) n c.loop-t.t (omega arith),
      λ e. refl,
    )
