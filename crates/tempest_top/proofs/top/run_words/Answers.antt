use Rattle.std.proofs.Common.{rules, refl}
use Rattle.tempest_top.specs.Scene.{scene}
use Rattle.tempest_top.proofs.Keeping.{keeps_usage, keeps_no_memory}
use Rattle.tempest_top.proofs.top.run_words.Goals as goal

pub returns-in-Err-Usage-clause-kept : goal.returns-in-Err-Usage-clause-kept
returns-in-Err-Usage-clause-kept g c =
    keeps_usage _ (scene (g.F.Files.seen c.args.files.now) (g.O.Sink.seen c.args.out.now) (g.E.Sink.seen c.args.err.now)) (scene (g.F.Files.seen c.args.files.now) (g.O.Sink.seen c.args.out.now) (g.E.Sink.seen c.refuse_usage.new.err)) _ (search rules) refl refl c.refuse_usage.ensures.status c.refuse_usage.ensures.line

pub returns-in-Err-NoMemory-clause-kept : goal.returns-in-Err-NoMemory-clause-kept
returns-in-Err-NoMemory-clause-kept g c =
    keeps_no_memory _ (scene (g.F.Files.seen c.args.files.now) (g.O.Sink.seen c.args.out.now) (g.E.Sink.seen c.args.err.now)) (scene (g.F.Files.seen c.args.files.now) (g.O.Sink.seen c.args.out.now) (g.E.Sink.seen c.refuse_memory.new.err)) _ refl refl c.refuse_memory.ensures.status c.refuse_memory.ensures.line
