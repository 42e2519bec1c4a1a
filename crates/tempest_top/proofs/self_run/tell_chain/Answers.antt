use Rattle.std.proofs.Common.{◌∙◌, refl}
use Rattle.tempest_top.specs.Scene.{scene}
use Rattle.tempest_top.proofs.SelfRunEnds.{no_length, comes_unchained, comes_told}
use Rattle.tempest_top.proofs.self_run.tell_chain.Goals as goal

pub refuse_chain-requires : goal.refuse_chain-requires
refuse_chain-requires g c = no_length c.args.source.now c.args.target.now c.args.values.now c.in-Err.fault c.requires.values c.in-Err.ensures.fault

pub returns-in-Err-clause-comes : goal.returns-in-Err-clause-comes
returns-in-Err-clause-comes g c = λ files.
    let before = scene files (g.O.Sink.seen c.args.out.now) (g.E.Sink.seen c.args.err.now) in
    let after = scene files (g.O.Sink.seen c.args.out.now) (g.E.Sink.seen c.refuse_chain.new.err) in
    let told = no_length c.args.source.now c.args.target.now c.args.values.now c.in-Err.fault c.requires.values c.in-Err.ensures.fault in
    comes_unchained c.args.source.now c.args.target.now c.args.values.now before after c.in-Err.fault _ c.in-Err.ensures.fault told refl refl c.refuse_chain.ensures.status c.refuse_chain.ensures.line

pub returns-clause-comes : goal.returns-clause-comes
returns-clause-comes g c = λ files.
    let before = scene files (g.O.Sink.seen c.args.out.now) (g.E.Sink.seen c.args.err.now) in
    let after = scene files (g.O.Sink.seen c.put_text_alone.new.out) (g.E.Sink.seen c.put_text_alone.new.err) in
    comes_told c.args.source.now c.args.target.now c.args.values.now before after c.in-Ok.told c.as_bytes.result.now _ c.in-Ok.ensures.chain (c.as_bytes.ensures.value ∙ c.in-Ok-line.ensures) refl (c.put_text_alone.ensures.ends files)
