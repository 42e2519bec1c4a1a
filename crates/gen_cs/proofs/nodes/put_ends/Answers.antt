use Rattle.std.proofs.Common.{◌∙◌, ◌++◌, ap, sym, append_assoc}
use Rattle.gen_cs.specs.CubedSphere.{if_node}
use Rattle.gen_cs.proofs.Rows.{row_is_ends}
use Rattle.gen_cs.proofs.nodes.put_ends.Goals as goal

pub returns : goal.returns
returns c =
    let a = c.args in
    c.in_ok-put_node-2.ensures
    ∙ ap (λ l. l ++ if_node a.n a.a a.b a.n) c.in_ok-put_node.ensures
    ∙ append_assoc a.out.now.items (if_node a.n a.a a.b 0) (if_node a.n a.a a.b a.n)
    ∙ ap (λ l. a.out.now.items ++ l) (sym (row_is_ends a.n a.a a.b c.requires.least c.requires.inside))
