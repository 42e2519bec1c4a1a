use Rattle.std.proofs.Common.{◌≡◌, ℕ, ◌+◌, ◌<◌, ℤ, List, [], ◌∷◌, ◌++◌, pos, length, ap, ◌∙◌, arith, below_more}
use Rattle.std.proofs.lemmas.Int.{ints}
use Rattle.std.proofs.lemmas.List.{get_or_append_left, get_or_push, length-map}
use Rattle.vec_exact.specs.declared.Vec3.{Vec3}
use Rattle.vec_exact.specs.Vector.{inner}
use Rattle.vec_exact.specs.Cycle.{corner, vector_at}
use Rattle.mesh_check.specs.Mesh.{corners_of}
use Rattle.cover_cells.specs.Cells.{plane_of, planes_of}
use Rattle.cover_cells.specs.Sides.{side_at}
use Rattle.cover_cells.proofs.planes.sides_on.Goals as goal

-- one more side at the end
one_more_side : (f : ℕ → ℤ) (old : List ℤ) (t : ℕ) (z : ℤ) → length old ≡ t → ((u : ℕ) → u < t → side_at old u ≡ f u) → z ≡ f t → (u : ℕ) → u < t + 1 → side_at (old ++ z ∷ []) u ≡ f u
one_more_side f old t z n h e =
    below_more _ _
    (λ u l. get_or_append_left old (z ∷ []) (pos 0) u (omega (arith, n)) ∙ h u l)
    (get_or_push old z (pos 0) t n ∙ e)

pub loop-t-preserved : goal.loop-t-preserved
loop-t-preserved c =
    let planes = planes_of c.args.a.now (corners_of c.args.b.now c.args.j) c.args.cell.now in
    let at : c.dot.result ≡ inner c.args.x (corner (length planes) (vector_at planes) c.loop-t.t) = c.dot.ensures.value ∙ ap (λ (w : Vec3). inner c.args.x w) c.corner_at.ensures.value in
    record {
      len = omega (arith, c.in_ok-push.ensures.len, c.loop-t.invariant.len);
      each = λ u l. ap (λ (s : List ℤ). side_at s u) c.in_ok-push.ensures.items
          ∙ one_more_side (λ t. inner c.args.x (corner (length planes) (vector_at planes) t)) c.loop-t.sides.items c.loop-t.t _ c.loop-t.invariant.len c.loop-t.invariant.each (omega (arith, ints) ∙ at) u l;
    }

pub returns : goal.returns
returns c =
    let same = length-map c.args.cell.now (plane_of c.args.a.now (corners_of c.args.b.now c.args.j)) in
    record {
      len = omega (arith, same, c.loop-t.invariant.len);
      each = λ t l. c.loop-t.invariant.each t (omega (arith, same));
    }
