use Rattle.std.proofs.Common.{◌≡◌, ◌∙◌, ℤ, List, [], length, None, ap, subst}
use Rattle.std.proofs.lemmas.List.FromFn.{length-map-range_with_len}
use Rattle.tempest_top.specs.Scene.{scene}
use Rattle.tempest_top.specs.SelfRuns.{value_of_face, values_of_faces}
use Rattle.tempest_top.specs.Outcome.{IsOutcomeOfChain}
use Rattle.tempest_top.specs.Promises.{IsSelfRunText}
use Rattle.tempest_top.specs.Ends.{Comes}
use Rattle.tempest_top.proofs.self_run.run_chain.Goals as goal

pub tell_chain-requires-clause-values : goal.tell_chain-requires-clause-values
tell_chain-requires-clause-values g c =
    ap (length {A = ℤ}) (c.deref.ensures.value ∙ c.in-Ok.ensures) ∙ length-map-range_with_len value_of_face 1 c.face_count.result ∙ c.face_count.ensures.count

pub returns-clause-comes : goal.returns-clause-comes
returns-clause-comes g c = λ files.
    let before = scene files (g.O.Sink.seen c.args.out.now) (g.E.Sink.seen c.args.err.now) in
    let after = scene files (g.O.Sink.seen c.tell_chain.new.out) (g.E.Sink.seen c.tell_chain.new.err) in
    let values : c.deref.result.now ≡ values_of_faces (length c.args.source.now.faces) = c.deref.ensures.value ∙ c.in-Ok.ensures ∙ ap values_of_faces c.face_count.ensures.count in
    subst (λ (xs : List ℤ). Comes [] IsSelfRunText None (IsOutcomeOfChain c.args.source.now c.args.target.now xs) before after c.tell_chain.result) values (c.tell_chain.ensures.comes files)
