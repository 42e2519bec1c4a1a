use Rattle.std.proofs.Common.{ℕ, ◌+◌, ◌++◌, ap, sym, ◌∙◌, arith}
use Rattle.std.specs.List.{flat_map, range_with_len}
use Rattle.vec_exact.proofs.Ranges.{flat_range_more}
use Rattle.mesh_partition.specs.Edges.{edges_of_face, edges_of}
use Rattle.mesh_partition.proofs.edges.all_edges.Goals as goal

pub loop-i-preserved : goal.loop-i-preserved
loop-i-preserved c =
    let f = λ (i : ℕ). edges_of_face c.args.mesh.now (i + 1) in
    let i = c.loop-i.i in
    record {
      edges = c.in_ok-push_edges.ensures.edges ∙ ap (λ l. l ++ f i) c.loop-i.invariant.edges ∙ sym (flat_range_more f i);
      few = omega (arith, c.in_ok-push_edges.ensures.few, c.loop-i.invariant.few);
    }

pub returns-clause-edges : goal.returns-clause-edges
unfolding edges_of
returns-clause-edges c =
    let f = λ (i : ℕ). edges_of_face c.args.mesh.now (i + 1) in
    c.loop-i.invariant.edges ∙ ap (λ (k : ℕ). flat_map f (range_with_len 0 k)) (omega (arith, c.face_count-faces.ensures.count))
