use Rattle.std.proofs.Common.{◌∙◌, ◌≡◌, ◌≤◌, ◌<◌, ◌⊎◌, List, [], ℕ, None, arith, refl, ap, inl, inr}
use Rattle.vec_exact.specs.declared.RawMesh.{RawMesh}
use Rattle.overlap_run.specs.declared.faults.RunFault.{RunFault}
use Rattle.overlap_run.specs.declared.faults.RunFault.TheVariants.{TooManyPieces, NoMemory as NoRunMemory}
use Rattle.overlap_run.specs.Pairs.{IsPairCount}
use Rattle.overlap_run.specs.Whole.{IsRefusalOf}
use Rattle.fault_lines.specs.declared.status.Status.{Status}
use Rattle.fault_lines.specs.declared.status.Status.TheVariants.{Limit}
use Rattle.tempest_top.specs.Scene.{Scene, scene}
use Rattle.fault_lines.specs.Lines.{PutsText}
use Rattle.fault_lines.specs.Faults.{too_many_pieces_text, run_text, status_of_run}
use Rattle.tempest_top.specs.Outcome.{IsOutcomeOfReport, text_alone}
use Rattle.tempest_top.specs.Promises.{IsPiecesText}
use Rattle.tempest_top.specs.Ends.{Comes}
use Rattle.tempest_top.proofs.Coming.{comes_own, comes_done, comes_stopped}
use Rattle.tempest_top.proofs.report.tell_report.Goals as goal

few_or_many : (n : ℕ) → (n ≤ 8388608) ⊎ (8388608 < n)
few_or_many n = grind arith

-- more pairs meet than there may be, or memory ran out
comes_many : (mesh : RawMesh) (before after : Scene) (fault : RunFault) (status : Status) → IsRefusalOf mesh mesh fault → after.files ≡ before.files → after.out ≡ before.out
    → status ≡ status_of_run fault → PutsText before.err after.err (run_text fault) → Comes [] IsPiecesText None (IsOutcomeOfReport mesh) before after status
comes_many mesh before after (TooManyPieces n) status refused files out is put =
    comes_own [] IsPiecesText None (IsOutcomeOfReport mesh) before after (too_many_pieces_text n) Limit status
    (inl (n, refused.0, refused.1, refl)) (refl, (n, refused.1, refl)) tt (λ e. cc) files out is put
comes_many mesh before after NoRunMemory status refused files out is put = comes_stopped [] IsPiecesText None (IsOutcomeOfReport mesh) before after status files out is put

pub returns-in-Err-clause-comes : goal.returns-in-Err-clause-comes
returns-in-Err-clause-comes g c = λ files.
    comes_many c.args.mesh.now (scene files (g.O.Sink.seen c.args.out.now) (g.E.Sink.seen c.args.err.now)) (scene files (g.O.Sink.seen c.args.out.now) (g.E.Sink.seen c.refuse_run.new.err)) c.in-Err.fault _ c.in-Err.ensures.refusal refl refl c.refuse_run.ensures.status c.refuse_run.ensures.line

pub returns-in_default-clause-comes : goal.returns-in_default-clause-comes
returns-in_default-clause-comes g c = λ files.
    comes_stopped _ _ _ _ (scene files (g.O.Sink.seen c.args.out.now) (g.E.Sink.seen c.args.err.now)) (scene files (g.O.Sink.seen c.args.out.now) (g.E.Sink.seen c.refuse_memory.new.err)) _ refl refl c.refuse_memory.ensures.status c.refuse_memory.ensures.line

pub returns-clause-comes : goal.returns-clause-comes
returns-clause-comes g c = λ files.
    let before = scene files (g.O.Sink.seen c.args.out.now) (g.E.Sink.seen c.args.err.now) in
    let after = scene files (g.O.Sink.seen c.put_text_alone.new.out) (g.E.Sink.seen c.put_text_alone.new.err) in
    let past = c.in-Ok.ensures.past in
    let few : (n : ℕ) → IsPairCount c.args.mesh.now c.args.mesh.now n → n ≤ 8388608 = λ n count. elim (few_or_many n) [ inl l ↦ l | inr many ↦ absurd (let e = past n count many in cc) ] in
    let text = c.as_bytes.ensures.value ∙ c.in-Ok-report_line.ensures in
    comes_done IsPiecesText None (IsOutcomeOfReport c.args.mesh.now) before after (text_alone c.as_bytes.result.now files.folder) _
    (inr (few, (c.in-Ok.told, c.in-Ok.ensures.report, ap (λ (t : List ℕ). text_alone t files.folder) text))) refl (λ file e. cc) refl (c.put_text_alone.ensures.ends files)
