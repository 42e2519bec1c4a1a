use Rattle.std.proofs.Common.{◌≢◌, Some, string_bytes, sym, ap, ◌∙◌, arith}
use Rattle.std.specs.Cmp.Lexicographic.{nat_list_cmp_total}
use Rattle.std.specs.FinMap.{get-from_entries}
use Rattle.remap_io.proofs.Folders.{same_text, other_text, left_hit, left_skip}
use Rattle.remap_io.proofs.store.bytes_of.Goals as goal

pub loop-file-init : goal.loop-file-init
loop-file-init c = sym (get-from_entries nat_list_cmp_total _ _)

pub returns-then-eq : goal.returns-then-eq
returns-then-eq c =
    let text = sym c.as_str.ensures.value ∙ same_text c.as_str.result.now c.args.name.now c.eq.result c.eq.ensures c.if-eq.true in
    ap Some c.deref.ensures.value
    ∙ sym (left_hit c.args.name.now c.args.files.now c.loop-file.file-index c.file-item.result (omega arith) c.file-item.is text)
    ∙ c.loop-file.invariant

pub loop-file-preserved : goal.loop-file-preserved
loop-file-preserved c =
    let other : string_bytes c.file-item.result.name ≢ c.args.name.now = λ e. other_text c.as_str.result.now c.args.name.now c.eq.result c.eq.ensures c.if-eq.false (c.as_str.ensures.value ∙ e) in
    sym (left_skip c.args.name.now c.args.files.now c.loop-file.file-index c.file-item.result (omega arith) c.file-item.is other)
    ∙ c.loop-file.invariant
