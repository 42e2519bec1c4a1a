use Rattle.std.proofs.Common.{◌≡◌, ◌∙◌, ◌+◌, ◌++◌, ℕ, ℤ, pos, List, [], ◌∷◌, map, ap, sym, arith}
use Rattle.std.specs.List.{range_with_len}
use Rattle.std.proofs.lemmas.Int.{ints}
use Rattle.std.proofs.lemmas.List.FromFn.{map-range_with_len_more}
use Rattle.gen_ico.specs.Dual.{dual_face}
use Rattle.gen_ico.proofs.dual.dual_faces.Goals as goal

pub loop-q-preserved : goal.loop-q-preserved
loop-q-preserved c =
    let faces = c.args.faces.now in
    let q = c.loop-q.q in
    let face : ℕ → List ℤ = λ k. dual_face faces (pos (k + 1)) in
    let item : c.in_ok-items.items.items ≡ dual_face faces (pos (q + 1)) = c.in_ok-items.ensures ∙ ap (dual_face faces) (omega (arith, ints, c.loop-q-test.true, c.requires.nodes)) in
    c.in_ok-push.ensures.items
    ∙ ap (λ l. l ++ c.in_ok-items.items.items ∷ []) c.loop-q.invariant
    ∙ ap (λ x. map face (range_with_len 0 q) ++ x ∷ []) item
    ∙ sym (map-range_with_len_more face 0 q q (omega arith))
