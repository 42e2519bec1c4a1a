use Rattle.std.proofs.Common.{rules, length, length-append, map, ap, arith}
use Rattle.std.specs.List.{range_with_len}
use Rattle.std.proofs.lemmas.List.FromFn.{length-map-range_with_len}
use Rattle.vec_exact.proofs.Ranges.{map_behind}
use Rattle.mesh_partition.specs.Edges.{edge_at}
use Rattle.mesh_partition.proofs.edges.push_edges.Goals as goal

pub loop-t-preserved : goal.loop-t-preserved
loop-t-preserved c = search (rules, map_behind)

pub returns-clause-few : goal.returns-clause-few
returns-clause-few c =
    let f = edge_at c.args.mesh.now c.args.face in
    let t = c.loop-t.t in
    omega (
      arith,
      ap length c.loop-t.invariant,
      length-append c.args.edges.now.items (map f (range_with_len 0 t)),
      length-map-range_with_len f 0 t,
      c.edge_count-t-end.ensures.greatest,
    )
