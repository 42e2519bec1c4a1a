use Rattle.std.proofs.Common.{refl}
use Rattle.tempest_top.specs.Scene.{scene}
use Rattle.tempest_top.proofs.Written.{ends_memory}
use Rattle.tempest_top.proofs.generate.write_mesh.Goals as goal

pub returns-in_default-clause-ends : goal.returns-in_default-clause-ends
returns-in_default-clause-ends g c =
    ends_memory _ (scene (g.F.Files.seen c.args.files.now) (g.O.Sink.seen c.args.out.now) (g.E.Sink.seen c.args.err.now)) (scene (g.F.Files.seen c.args.files.now) (g.O.Sink.seen c.args.out.now) (g.E.Sink.seen c.refuse_memory.new.err)) _ refl refl c.refuse_memory.ensures.status c.refuse_memory.ensures.line
