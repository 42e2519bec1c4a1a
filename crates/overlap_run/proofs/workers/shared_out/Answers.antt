use Rattle.std.proofs.Common.{◌≡◌, ℕ, length, ap, ◌∙◌, arith}
use Rattle.std.specs.Int.{div_ceil}
use Rattle.std.proofs.lemmas.Result.{IfOk-weaker}
use Rattle.overlap_run.proofs.NumberedBlocks.{first_all}
use Rattle.overlap_run.proofs.workers.shared_out.Goals as goal

pub returns-then-have_lists : goal.returns-then-have_lists
returns-then-have_lists g c =
    let blocks = c.in_ok-parts.field-0.blocks.items in
    let all : length blocks ≡ div_ceil (length c.args.a.now.faces) 64 = c.in_ok-parts.ensures.count ∙ c.div_ceil-count.ensures ∙ ap (λ (n : ℕ). div_ceil n 64) c.face_count.ensures.count in
    IfOk-weaker c.gather.result _ _ (λ run h. first_all g.C.PieceList.holds c.args.a.now c.args.b.now (length blocks) (length blocks) (omega arith) all run h) c.gather.ensures

pub returns-then-pairs-gt-GREATEST_COUNT : goal.returns-then-pairs-gt-GREATEST_COUNT
returns-then-pairs-gt-GREATEST_COUNT g c =
    let blocks = c.deref-2.result.now in
    let all : length blocks ≡ div_ceil (length c.args.a.now.faces) 64 =
    ap length c.deref-2.ensures.value ∙ c.in_ok-parts.ensures.count ∙ c.div_ceil-count.ensures ∙ ap (λ (n : ℕ). div_ceil n 64) c.face_count.ensures.count in
    let counted = first_all {C = Unit {0}} (λ _ _. Unit {0}) c.args.a.now c.args.b.now (length blocks) (length blocks) (omega arith) all _ c.pair_count-pairs.ensures in
    record {
      count = counted.count;
      listed = λ l. absurd (omega (arith, l, c.if-pairs-gt-GREATEST_COUNT.true));
      dropped = λ l. c.none.ensures;
    }
