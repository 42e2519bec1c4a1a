use Rattle.std.proofs.Common.{◌≡◌, ◌∙◌, ap, sym, ◌++◌, ◌∷◌, [], pos, slice_index_or, arith, rules, ◌-◌}
use mir.Val.{to_z, of_z, SFits}
use mir.Syntax.{w32}
use Rattle.std.proofs.lemmas.Int.{to_z-of_z}
use Rattle.exodus_mesh.proofs.Repeats.{dropped, kept_first, kept}
use Rattle.exodus_mesh.proofs.values.without_repeats.Goals as goal
use Rattle.exodus_mesh.proofs.values.without_repeats.Goals.{then-k-eq0+in_ok-push, then-k-eq0-via-then-k-eq0, then-k-eq0-via-else-k-eq0+then-row-k, else-k-eq0+else-row-k}

pub loop-k-preserved : goal.loop-k-preserved
loop-k-preserved c =
    let row = c.args.row.now in
    let k = c.loop-k.k in
    elim c.if-k-eq0.branch [
      | then-k-eq0+in_ok-push w ↦
          let put : c.if-k-eq0.kept.items ≡ c.loop-k.kept.items ++ slice_index_or row k (pos 0) ∷ [] = rw w.kept-is (grind (arith, to_z-of_z, w.in_ok-push.ensures.items)) in
          elim w.then-k-eq0.branch [
            | then-k-eq0-via-then-k-eq0 w' ↦ put ∙ ap (λ l. l ++ slice_index_or row k (pos 0) ∷ []) c.loop-k.invariant ∙ sym (kept_first row k c.loop-k-test.true w'.if-k-eq0.true)
            | then-k-eq0-via-else-k-eq0+then-row-k w' ↦ put ∙ ap (λ l. l ++ slice_index_or row k (pos 0) ∷ []) c.loop-k.invariant ∙ sym (kept row k c.loop-k-test.true (λ e. w'.if-row-k.true (ap (of_z w32) e)))
          ]
      | else-k-eq0+else-row-k w ↦
          let fits_before : SFits w32 (slice_index_or row (k - 1) (pos 0)) = search rules in
          let fits : SFits w32 (slice_index_or row k (pos 0)) = search rules in
          let same : slice_index_or row (k - 1) (pos 0) ≡ slice_index_or row k (pos 0) = sym (to_z-of_z w32 (slice_index_or row (k - 1) (pos 0)) fits_before) ∙ ap (to_z w32) w.if-row-k.false ∙ to_z-of_z w32 (slice_index_or row k (pos 0)) fits in
          rw w.kept-is (c.loop-k.invariant ∙ sym (dropped row k c.loop-k-test.true w.if-k-eq0.false same))
    ]
