use Rattle.remap_load.proofs.Contents.{finds, refuses}
use Rattle.mesh_load.specs.MeshFile.{mesh_kind}
use Rattle.mesh_load.proofs.OneMesh.{mesh_law}
use Rattle.mesh_load.proofs.loading.load_mesh.Goals as goal

pub returns-clause-found : goal.returns-clause-found
returns-clause-found g c =
    let h = c.load.ensures in
    finds mesh_kind mesh_law (g.F.Files.seen c.args.files.now) (g.F.Files.seen c.load.new.files) c.args.name.now c.load.result h.mesh h.refusal

pub returns-clause-refused : goal.returns-clause-refused
returns-clause-refused g c =
    let h = c.load.ensures in
    refuses mesh_kind mesh_law (g.F.Files.seen c.args.files.now) (g.F.Files.seen c.load.new.files) c.args.name.now c.load.result h.mesh h.refusal
