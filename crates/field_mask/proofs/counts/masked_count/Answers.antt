use Rattle.std.proofs.Common.{rules, ◌≡◌, ◌∙◌, ◌+◌, pos, ℤ, get_or, cond, int_eq, ap, arith}
use mir.Syntax.{w64}
use mir.Val.{SFits}
use Rattle.std.proofs.lemmas.Int.{to_z-of_z}
use Rattle.std.proofs.lemmas.List.{take_all}
use Rattle.field_mask.specs.Masked.{masked_count_of}
use Rattle.field_mask.proofs.Counting.{count_most, count_more}
use Rattle.field_mask.proofs.counts.masked_count.Goals as goal

pub overflow_add-count : goal.overflow_add-count
overflow_add-count c =
    let parts = c.deref-part-items.result.now in
    let k = c.loop-part.part-index in
    let f : SFits w64 (get_or parts k (pos 0)) = search rules in
    let one = c.one_if_none-count.ensures ∙ ap (λ (x : ℤ). cond (int_eq x (pos 0)) 1 0) (to_z-of_z w64 (get_or parts k (pos 0)) f) in
    let more = count_more parts k c.loop-part.count c.one_if_none-count.result c.loop-part-test.true c.loop-part.invariant one in
    omega (arith, more, count_most parts (k + 1), c.loop-part-test.true, c.deref-part-items.type_inv)

pub loop-part-preserved : goal.loop-part-preserved
loop-part-preserved c =
    let parts = c.deref-part-items.result.now in
    let k = c.loop-part.part-index in
    let f : SFits w64 (get_or parts k (pos 0)) = search rules in
    let one = c.one_if_none-count.ensures ∙ ap (λ (x : ℤ). cond (int_eq x (pos 0)) 1 0) (to_z-of_z w64 (get_or parts k (pos 0)) f) in
    count_more parts k c.loop-part.count c.one_if_none-count.result c.loop-part-test.true c.loop-part.invariant one

pub returns : goal.returns
returns c =
    let parts : c.deref-part-items.result.now ≡ c.args.field.now.part = search rules in
    c.loop-part.invariant ∙ ap masked_count_of (take_all c.loop-part.part-index c.deref-part-items.result.now (omega (arith, c.loop-part-test.false)) ∙ parts)
