use Rattle.std.proofs.Common.{◌≡◌, ◌∙◌, ◌+◌, ap, sym, map, arith, ◌∷◌, [], ◌++◌}
use Rattle.std.specs.List.{range_with_len}
use Rattle.std.proofs.lemmas.Int.{to_z-of_z}
use Rattle.std.proofs.lemmas.List.FromFn.{map-range_with_len_more}
use Rattle.exodus_mesh.specs.MeshValues.{node_at}
use Rattle.exodus_mesh.proofs.values.make_nodes.Goals as goal

pub loop-p-preserved : goal.loop-p-preserved
loop-p-preserved c =
    let node = node_at c.axis-x.result.now c.axis-y.result.now c.axis-z.result.now in
    let more : map node (range_with_len 0 (c.loop-p.p + 1)) ≡ map node (range_with_len 0 c.loop-p.p) ++ node c.loop-p.p ∷ [] = map-range_with_len_more node 0 c.loop-p.p c.loop-p.p (omega arith) in
    let put : c.push.new.self.items ≡ c.loop-p.out.items ++ node c.loop-p.p ∷ [] = grind (arith, to_z-of_z, c.in_ok-push.ensures.items) in
    put ∙ ap (λ l. l ++ node c.loop-p.p ∷ []) c.loop-p.invariant ∙ sym more
