use Rattle.std.proofs.Common.{◌≡◌, ◌+◌, ◌<◌, ℕ, length, slice_index_or, List, [], ◌∷◌, ◌++◌, take, map, ap, sym, ◌∙◌, arith, subst}
use Rattle.std.specs.Prelude.{All}
use Rattle.std.proofs.lemmas.List.{take_more, map-append}
use Rattle.std.proofs.lemmas.List.Elements.{All-push}
use Rattle.vec_exact.specs.declared.Vec3.{Vec3}
use Rattle.vec_exact.specs.Size.{Is37}
use Rattle.mesh_check.specs.Mesh.{corners_of}
use Rattle.cover_cells.specs.declared.cells.CellPlane.{CellPlane}
use Rattle.cover_cells.specs.Cells.{plane_of}
use Rattle.cover_cells.proofs.near.cell_planes.Goals as goal

one_more_mapped : (f : CellPlane → Vec3) (xs : List CellPlane) (t : ℕ) (z : Vec3) (d : CellPlane) → t < length xs → z ≡ f (slice_index_or xs t d) → map f (take t xs) ++ z ∷ [] ≡ map f (take (t + 1) xs)
one_more_mapped f xs t z d l e = ap (λ (v : Vec3). map f (take t xs) ++ v ∷ []) e ∙ sym (ap (map f) (take_more xs t d l) ∙ map-append f (take t xs) (slice_index_or xs t d ∷ []))

pub loop-t-preserved : goal.loop-t-preserved
loop-t-preserved c =
    let f = plane_of c.args.a.now (corners_of c.args.b.now c.args.j) in
    record {
      value = c.in_ok-push.ensures.items ∙ ap (λ (l : List Vec3). l ++ c.plane_of.result ∷ []) c.loop-t.invariant.value
          ∙ one_more_mapped f c.args.cell.now c.loop-t.t c.plane_of.result _ (omega arith) c.plane_of.ensures.value;
      size = subst (All Is37) (sym c.in_ok-push.ensures.items) (All-push Is37 c.loop-t.planes.items c.plane_of.result c.loop-t.invariant.size c.plane_of.ensures.size);
    }
