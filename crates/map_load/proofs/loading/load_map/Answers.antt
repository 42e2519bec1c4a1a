use Rattle.remap_load.proofs.Contents.{finds, refuses}
use Rattle.map_load.specs.MapFile.{map_kind}
use Rattle.map_load.proofs.OneMap.{map_law}
use Rattle.map_load.proofs.loading.load_map.Goals as goal

pub returns-clause-found : goal.returns-clause-found
returns-clause-found g c =
    let h = c.load.ensures in
    finds map_kind map_law (g.F.Files.seen c.args.files.now) (g.F.Files.seen c.load.new.files) c.args.name.now c.load.result h.map h.refusal

pub returns-clause-refused : goal.returns-clause-refused
returns-clause-refused g c =
    let h = c.load.ensures in
    refuses map_kind map_law (g.F.Files.seen c.args.files.now) (g.F.Files.seen c.load.new.files) c.args.name.now c.load.result h.map h.refusal
