use Rattle.std.proofs.Common.{◌≡◌, ℕ, ◌<◌, ◌+◌, List, length, ap, sym, ◌∙◌, subst, refl, arith, ◌++◌}
use Rattle.std.specs.Prelude.{All}
use Rattle.std.proofs.lemmas.List.{take_all}
use Rattle.std.proofs.lemmas.List.Elements.{All-append}
use Rattle.vec_exact.specs.declared.Vec3.{Vec3}
use Rattle.vec_exact.proofs.Accepted.{length-face_nodes}
use Rattle.cone_laws.specs.Ring.{face_planes}
use Rattle.cone_laws.proofs.Pairs.{length-face_planes}
use Rattle.mesh_check.specs.Mesh.{face_of, corners_of}
use Rattle.cover_cells.specs.Cells.{IsCell, cells_with}
use Rattle.cover_cells.specs.Splitting.{leaves, number_if}
use Rattle.cover_cells.proofs.Counts.{cells_with-append}
use Rattle.cover_cells.proofs.Leaving.{edge_named, out_step, rest_step}
use Rattle.cover_cells.proofs.Rules.{left_given, left_beyond, left_inside, left_outside}
use Rattle.cover_cells.proofs.cutting.cut_cells.Goals as goal

none_added : (n : ℕ) → n ≡ 0 + n
none_added n = omega arith

pub halves-requires-clause-named : goal.halves-requires-clause-named
halves-requires-clause-named c =
    let size = length-face_nodes c.args.a.now.nodes (face_of c.args.a.now c.args.i) in
    edge_named c.args.a.now (corners_of c.args.b.now c.args.j) c.args.i 0 _ c.requires.source.0 c.requires.source.1 (omega (arith, size, c.edge_count-edges.ensures.count, c.edge_count-edges.ensures.least))

pub halves-requires-2-clause-named : goal.halves-requires-2-clause-named
halves-requires-2-clause-named c =
    let size = length-face_nodes c.args.a.now.nodes (face_of c.args.a.now c.args.i) in
    edge_named c.args.a.now (corners_of c.args.b.now c.args.j) c.args.i 0 _ c.requires.source.0 c.requires.source.1 (omega (arith, size, c.edge_count-edges.ensures.count, c.edge_count-edges.ensures.least))

pub loop-t-init : goal.loop-t-init
loop-t-init c =
    let sources = c.args.a.now in let target = corners_of c.args.b.now c.args.j in let i = c.args.i in
    let size = length-face_nodes sources.nodes (face_of sources i) in
    let l : 0 < length (corners_of sources i) = omega (arith, size, c.edge_count-edges.ensures.count, c.edge_count-edges.ensures.least) in
    record {
      left_cells = c.in_ok-left.ensures.cells;
      within_cells = c.in_ok-within.ensures.cells;
      left_count = λ d. none_added (cells_with sources target d c.in_ok-left.left)
          ∙ out_step sources target i 0 d (cells_with sources target d c.args.cells.now) c.requires.source.0 l 0 (cells_with sources target d c.args.cells.now) (cells_with sources target d c.in_ok-left.left) refl refl (c.in_ok-left.ensures.count d);
      within_count = λ d. rest_step sources target i 0 d (cells_with sources target d c.args.cells.now) c.requires.source.0 l (cells_with sources target d c.args.cells.now) (cells_with sources target d c.in_ok-within.within) refl (c.in_ok-within.ensures.count d);
    }

pub loop-t-preserved : goal.loop-t-preserved
loop-t-preserved c =
    let sources = c.args.a.now in let target = corners_of c.args.b.now c.args.j in let i = c.args.i in
    let t = c.loop-t.t in
    let size = length-face_nodes sources.nodes (face_of sources i) in
    let l : t < length (corners_of sources i) = omega (arith, size, c.edge_count-edges.ensures.count) in
    let j : c.join.new.cells ≡ c.loop-t.left ++ c.in_ok-beyond.beyond = c.in_ok-join.ensures in
    record {
      left_cells = subst (All (IsCell sources target)) (sym j) (All-append (IsCell sources target) c.loop-t.left c.in_ok-beyond.beyond c.loop-t.invariant.left_cells c.in_ok-beyond.ensures.cells);
      within_cells = c.in_ok-within-2.ensures.cells;
      left_count = λ d. ap (cells_with sources target d) j ∙ cells_with-append sources target d c.loop-t.left c.in_ok-beyond.beyond
          ∙ out_step sources target i t d (cells_with sources target d c.args.cells.now) c.requires.source.0 l (cells_with sources target d c.loop-t.left) (cells_with sources target d c.loop-t.within) (cells_with sources target d c.in_ok-beyond.beyond)
          (c.loop-t.invariant.left_count d) (c.loop-t.invariant.within_count d) (c.in_ok-beyond.ensures.count d);
      within_count = λ d. rest_step sources target i t d (cells_with sources target d c.args.cells.now) c.requires.source.0 l (cells_with sources target d c.loop-t.within) (cells_with sources target d c.in_ok-within-2.within)
          (c.loop-t.invariant.within_count d) (c.in_ok-within-2.ensures.count d);
    }

count_here : (c : goal.After-drop-within-inside-2) → (d : Vec3)
    → cells_with c.args.a.now (corners_of c.args.b.now c.args.j) d c.loop-t.left
    ≡ number_if (leaves d (face_planes (corners_of c.args.a.now c.args.i))) (cells_with c.args.a.now (corners_of c.args.b.now c.args.j) d c.args.cells.now)
count_here c d =
    let sources = c.args.a.now in let target = corners_of c.args.b.now c.args.j in
    let planes = face_planes (corners_of sources c.args.i) in
    let size = length-face_nodes sources.nodes (face_of sources c.args.i) in
    c.loop-t.invariant.left_count d
    ∙ ap (λ (ns : List Vec3). number_if (leaves d ns) (cells_with sources target d c.args.cells.now))
    (take_all c.loop-t.t planes (omega (arith, size, length-face_planes (corners_of sources c.args.i), c.edge_count-edges.ensures.count)))

pub returns-clause-given : goal.returns-clause-given
returns-clause-given c = left_given c.args.a.now (corners_of c.args.b.now c.args.j) (corners_of c.args.a.now c.args.i) c.args.cells.now c.loop-t.left (count_here c)

pub returns-clause-beyond : goal.returns-clause-beyond
returns-clause-beyond c = left_beyond c.args.a.now (corners_of c.args.b.now c.args.j) (corners_of c.args.a.now c.args.i) c.args.cells.now c.loop-t.left (count_here c)

pub returns-clause-inside : goal.returns-clause-inside
returns-clause-inside c = left_inside c.args.a.now (corners_of c.args.b.now c.args.j) (corners_of c.args.a.now c.args.i) c.args.cells.now c.loop-t.left (count_here c)

pub returns-clause-outside : goal.returns-clause-outside
returns-clause-outside c = left_outside c.args.a.now (corners_of c.args.b.now c.args.j) (corners_of c.args.a.now c.args.i) c.args.cells.now c.loop-t.left (count_here c)
