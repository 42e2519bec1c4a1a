use Rattle.std.proofs.Common.{length, ap, arith}
use Rattle.std.specs.Ordering.{int_eq}
use Rattle.std.specs.Cmp.Lexicographic.{pointwise}
use Rattle.std.proofs.lemmas.List.Filters.{dedup_is}
use Rattle.mesh_partition.proofs.Found.{are_different, count_different, count_unpaired}
use Rattle.mesh_partition.proofs.edges.edge_counts.Goals as goal

pub alone_count-requires : goal.alone_count-requires
alone_count-requires c =
    let moved = c.sort_unstable.new.self.items in
    let kept = c.dedup.new.self.items in
    (are_different c.args.mesh.now c.in_ok-edges.edges.items moved kept c.deref.result.now c.in_ok-edges.ensures.edges
    c.sort_unstable.ensures.permutation c.sort_unstable.ensures.sorted (dedup_is (pointwise int_eq) moved kept c.dedup.ensures.filtered) c.deref.ensures.value).sorted

pub returns-clause-unpaired : goal.returns-clause-unpaired
returns-clause-unpaired c =
    let moved = c.sort_unstable.new.self.items in
    let kept = c.dedup.new.self.items in
    count_unpaired c.args.mesh.now c.deref.result.now c.alone_count.result
    (are_different c.args.mesh.now c.in_ok-edges.edges.items moved kept c.deref.result.now c.in_ok-edges.ensures.edges
    c.sort_unstable.ensures.permutation c.sort_unstable.ensures.sorted (dedup_is (pointwise int_eq) moved kept c.dedup.ensures.filtered) c.deref.ensures.value)
    c.alone_count.ensures

pub returns-clause-doubled : goal.returns-clause-doubled
returns-clause-doubled c =
    let moved = c.sort_unstable.new.self.items in
    let kept = c.dedup.new.self.items in (
      length c.deref.result.now,
      count_different c.args.mesh.now c.deref.result.now
          (are_different c.args.mesh.now c.in_ok-edges.edges.items moved kept c.deref.result.now c.in_ok-edges.ensures.edges
          c.sort_unstable.ensures.permutation c.sort_unstable.ensures.sorted (dedup_is (pointwise int_eq) moved kept c.dedup.ensures.filtered) c.deref.ensures.value),
      omega (
        arith,
        ap length c.in_ok-edges.ensures.edges,
        c.deref.ensures.len,
        c.len-all.ensures,
        c.len.ensures,
        c.sort_unstable.ensures.len,
        c.dedup.ensures.bound,
      ),
    )
