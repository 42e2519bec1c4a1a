use Rattle.std.proofs.Common.{◌∙◌, List, ℕ, None, refl, ap}
use Rattle.tempest_top.specs.Scene.{scene}
use Rattle.tempest_top.specs.Outcome.{IsOutcomeOfCoverage, text_alone}
use Rattle.tempest_top.specs.Promises.{NoText}
use Rattle.tempest_top.proofs.Coming.{comes_done, comes_stopped}
use Rattle.tempest_top.proofs.cover.tell_coverage.Goals as goal

pub returns-in_default-clause-comes : goal.returns-in_default-clause-comes
returns-in_default-clause-comes g c = λ files.
    comes_stopped _ _ _ _ (scene files (g.O.Sink.seen c.args.out.now) (g.E.Sink.seen c.args.err.now)) (scene files (g.O.Sink.seen c.args.out.now) (g.E.Sink.seen c.refuse_memory.new.err)) _ refl refl c.refuse_memory.ensures.status c.refuse_memory.ensures.line

pub returns-clause-comes : goal.returns-clause-comes
returns-clause-comes g c = λ files.
    let before = scene files (g.O.Sink.seen c.args.out.now) (g.E.Sink.seen c.args.err.now) in
    let after = scene files (g.O.Sink.seen c.put_text_alone.new.out) (g.E.Sink.seen c.put_text_alone.new.err) in
    let (count, right, spelled) = c.in-Ok.ensures in
    let text = c.as_bytes.ensures.value ∙ spelled in
    comes_done NoText None (IsOutcomeOfCoverage c.args.a.now c.args.b.now) before after (text_alone c.as_bytes.result.now files.folder) _
    (count, right, ap (λ (t : List ℕ). text_alone t files.folder) text) refl (λ file e. cc) refl (c.put_text_alone.ensures.ends files)
