use Rattle.std.proofs.Common.{length, ap, arith}
use Rattle.std.proofs.lemmas.List.Filters.{dedup_is}
use Rattle.std.specs.Ordering.{int_eq}
use Rattle.std.specs.Cmp.Lexicographic.{pointwise}
use Rattle.gen_ico.proofs.Distinct.{are_nodes, count_points}
use Rattle.gen_ico.proofs.nodes.all_nodes.Goals as goal

pub returns-clause-nodes : goal.returns-clause-nodes
returns-clause-nodes c =
    let sorted = c.sort_unstable.new.self.items in
    are_nodes c.args.n c.in_ok-nodes.nodes.items sorted c.dedup.new.self.items c.in_ok-nodes.ensures c.sort_unstable.ensures.permutation c.sort_unstable.ensures.sorted (dedup_is (pointwise int_eq) sorted c.dedup.new.self.items c.dedup.ensures.filtered)

pub returns-clause-count : goal.returns-clause-count
returns-clause-count c =
    omega (arith, count_points c.args.n, ap length c.in_ok-nodes.ensures, c.sort_unstable.ensures.len, c.dedup.ensures.bound)
