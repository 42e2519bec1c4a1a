use Rattle.std.proofs.Common.{subst}
use Rattle.remap_io.specs.Memory.{IsToFail, SinkState}
use Rattle.remap_io.proofs.mem_sink.MemSinkSink.put.Goals as goal

pub returns-then-next_fails-clause-only_listed : goal.returns-then-next_fails-clause-only_listed
returns-then-next_fails-clause-only_listed c =
    let next : IsToFail c.args.self.now.fail c.args.self.now.calls = subst (λ (s : SinkState). IsToFail s.fail s.calls) c.self.view_is (c.next_fails.ensures.fails.0 c.if-next_fails.true) in
    λ _. next
