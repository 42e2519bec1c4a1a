use Rattle.std.proofs.Common.{subst, rules}
use Rattle.remap_io.specs.Memory.{IsToFail, FilesState}
use Rattle.remap_io.proofs.mem_files.MemFilesFiles.read_at.Goals as goal

pub returns-then-next_fails-clause-listed : goal.returns-then-next_fails-clause-listed
returns-then-next_fails-clause-listed c =
    let next : IsToFail c.args.self.now.fail c.args.self.now.calls = subst (λ (s : FilesState). IsToFail s.fail s.calls) c.self.view_is (c.next_fails.ensures.fails.0 c.if-next_fails.true) in
    (λ _. next, λ _. search rules)
