use Rattle.std.proofs.Common.{FitsSigned, rules, ℤ, List, pos, slice_index_or, ap, ◌∙◌, arith, below_more}
use Rattle.std.proofs.lemmas.Int.{to_z-of_z}
use Rattle.std.proofs.lemmas.List.{get_or_append_left, get_or_push}
use mir.Syntax.{w8, w128}
use Rattle.vec_exact.specs.declared.Vec3.{Vec3}
use Rattle.vec_exact.specs.Vector.{inner}
use Rattle.vec_exact.specs.Side.{sign_of}
use Rattle.clip.proofs.sides.sides_of.Goals as goal

pub loop-t-preserved : goal.loop-t-preserved
loop-t-preserved c =
    let fs : FitsSigned w8 c.sign_number.result = search rules in
    let fd : FitsSigned w128 c.dot.result = search rules in
    let old = c.loop-t.sides.items in
    let e = c.push.ensures.items in
    record {
      len = omega (arith, c.push.ensures.len, c.loop-t.invariant.len);
      each = below_more _ _
          (λ u h. ap (λ (l : List ℤ). sign_of (slice_index_or l u (pos 0))) e ∙ ap sign_of (get_or_append_left old _ (pos 0) u (omega (arith, c.loop-t.invariant.len))) ∙ c.loop-t.invariant.each u h)
          (ap (λ (l : List ℤ). sign_of (slice_index_or l c.loop-t.t (pos 0))) e ∙ ap sign_of (get_or_push old _ (pos 0) c.loop-t.t c.loop-t.invariant.len) ∙ ap sign_of (to_z-of_z w8 c.sign_number.result fs) ∙ c.sign_number.ensures ∙ ap sign_of (to_z-of_z w128 c.dot.result fd)
          ∙ ap sign_of (c.dot.ensures.value ∙ ap (λ (x : Vec3). inner c.args.plane x) c.corner_at.ensures.value));
    }
