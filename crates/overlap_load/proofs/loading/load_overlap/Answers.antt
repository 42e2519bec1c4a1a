use Rattle.remap_load.proofs.Contents.{finds, refuses}
use Rattle.overlap_load.specs.OverlapFile.{overlap_kind}
use Rattle.overlap_load.proofs.OneOverlap.{overlap_law}
use Rattle.overlap_load.proofs.loading.load_overlap.Goals as goal

pub returns-clause-found : goal.returns-clause-found
returns-clause-found g c =
    let h = c.load.ensures in
    finds overlap_kind overlap_law (g.F.Files.seen c.args.files.now) (g.F.Files.seen c.load.new.files) c.args.name.now c.load.result h.overlap h.refusal

pub returns-clause-refused : goal.returns-clause-refused
returns-clause-refused g c =
    let h = c.load.ensures in
    refuses overlap_kind overlap_law (g.F.Files.seen c.args.files.now) (g.F.Files.seen c.load.new.files) c.args.name.now c.load.result h.overlap h.refusal
