use Rattle.remap_load.proofs.Contents.{finds, refuses}
use Rattle.data_load.specs.DataFile.{data_kind}
use Rattle.data_load.proofs.OneData.{data_law}
use Rattle.data_load.proofs.loading.load_data.Goals as goal

pub returns-clause-found : goal.returns-clause-found
returns-clause-found g c =
    let h = c.load.ensures in
    finds (data_kind c.args.var.now) (data_law c.args.var.now) (g.F.Files.seen c.args.files.now) (g.F.Files.seen c.load.new.files) c.args.name.now c.load.result h.variable h.refusal

pub returns-clause-refused : goal.returns-clause-refused
returns-clause-refused g c =
    let h = c.load.ensures in
    refuses (data_kind c.args.var.now) (data_law c.args.var.now) (g.F.Files.seen c.args.files.now) (g.F.Files.seen c.load.new.files) c.args.name.now c.load.result h.variable h.refusal
