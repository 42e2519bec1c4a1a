use Rattle.std.proofs.Common.{rules, ◌≡◌, ◌∙◌, ◌+◌, ◌≤◌, ap, sym, pos, ℕ, w32, arith}
use Rattle.std.proofs.lemmas.Int.{to_z_pos}
use Rattle.gen_cs.specs.Before.{before_slice, before_row, before_place}
use Rattle.gen_cs.proofs.NodeNumbers.{number_is}
use Rattle.gen_cs.proofs.numbers.number_at.Goals as goal

pub returns : goal.returns
returns c =
    let a = c.args in
    let h = c.requires in
    let sum : c.nodes_before_slice.result + c.nodes_before_row.result + c.nodes_before.result + 1 ≡ before_slice a.n a.a + before_row a.n a.a a.b + before_place a.n a.a a.b a.c + 1 =
    omega (arith, c.nodes_before_slice.ensures.value, c.nodes_before_row.ensures.value, c.nodes_before.ensures) in
    let few : c.nodes_before.result ≤ 400 = search rules in
    to_z_pos w32 (c.nodes_before_slice.result + c.nodes_before_row.result + c.nodes_before.result + 1) (omega (arith, c.nodes_before_slice.ensures.small, c.nodes_before_row.ensures.small, few))
    ∙ ap (λ (k : ℕ). pos k) sum ∙ sym (number_is a.n a.a a.b a.c h.least h.first h.second h.third h.node)
