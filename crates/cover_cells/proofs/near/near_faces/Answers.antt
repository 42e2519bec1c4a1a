use Rattle.std.proofs.Common.{◌≡◌, List, length, slice_index, ap, sym, ◌∙◌, subst, arith, refl}
use Rattle.std.specs.List.{Contains}
use Rattle.std.proofs.lemmas.List.Elements.{Contains-get_or}
use Rattle.vec_exact.specs.declared.Vec3.{Vec3}
use Rattle.vec_exact.specs.Cycle.{vector_at}
use Rattle.cone_laws.specs.Cone.{AllPositive}
use Rattle.mesh_check.specs.Mesh.{corners_of}
use Rattle.cover_cells.specs.Cells.{IsSource, IsAway, planes_of}
use Rattle.cover_cells.proofs.Positive.{positive_from}
use Rattle.cover_cells.proofs.KeptFaces.{next_kept}
use Rattle.cover_cells.proofs.near.near_faces.Goals as goal

pub loop-t-preserved : goal.loop-t-preserved
loop-t-preserved c =
    let sources = c.args.a.now in let target = corners_of c.args.b.now c.args.j in
    let t = c.loop-t.t in
    let faces = c.args.faces.now in
    let ns = planes_of sources target c.args.cell.now in
    let same : c.deref-in-loop-t.result.now ≡ ns =
    c.deref-in-loop-t.ensures.value ∙ c.in_ok-planes.ensures.value ∙ ap (planes_of sources target) (c.deref.ensures.value ∙ c.cell.view_is) in
    next_kept (λ i. IsSource sources i × Contains faces i) (IsAway sources target c.args.cell.now) faces c.args.skip t c.loop-t.near.items c.loop-t.invariant
    (slice_index faces t) c.is_wanted-wanted.result c.put_if.new.list.items (c.requires.sources t 0 (omega arith), Contains-get_or faces t 0 (omega arith)) refl c.is_wanted-wanted.ensures.skipped
    (λ e ne d h. c.is_wanted-wanted.ensures.away e ne d (subst (λ (l : List Vec3). AllPositive (length l) (vector_at l) d) (sym same) (positive_from d ns h)))
    c.in_ok-put_if.ensures

pub returns-clause-away : goal.returns-clause-away
returns-clause-away c = λ t l ne. c.loop-t.invariant.away t (omega (arith, l)) ne
