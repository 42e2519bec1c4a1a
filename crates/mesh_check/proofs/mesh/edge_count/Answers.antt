use Rattle.std.proofs.Common.{◌≡◌, length, arith, rules}
use Rattle.std.proofs.lemmas.Grind.{common_steps}
use Rattle.vec_exact.specs.declared.RawMesh.{RawMesh}
use Rattle.mesh_check.specs.Mesh.{face_of}
use Rattle.mesh_check.specs.Kept.{face_lists}
use Rattle.mesh_check.proofs.Edges.{least_edges, greatest_edges}
use Rattle.mesh_check.proofs.mesh.edge_count.Goals as goal

pub overflow_cast-result : goal.overflow_cast-result
overflow_cast-result c =
    let mesh : RawMesh = record { nodes = c.mesh.inside.nodes.items; faces = face_lists c.mesh.inside.faces.items } in
    let count : c.len.result ≡ length (face_of mesh c.args.face) = grind (arith, common_steps) in
    omega (arith, count, greatest_edges mesh c.mesh.invariant c.args.face (omega arith) (search rules))

pub returns-clause-least : goal.returns-clause-least
returns-clause-least c =
    let mesh : RawMesh = record { nodes = c.mesh.inside.nodes.items; faces = face_lists c.mesh.inside.faces.items } in
    let count : c.len.result ≡ length (face_of mesh c.args.face) = grind (arith, common_steps) in
    omega (arith, count, least_edges mesh c.mesh.invariant c.args.face (omega arith) (search rules))

pub returns-clause-greatest : goal.returns-clause-greatest
returns-clause-greatest c =
    let mesh : RawMesh = record { nodes = c.mesh.inside.nodes.items; faces = face_lists c.mesh.inside.faces.items } in
    let count : c.len.result ≡ length (face_of mesh c.args.face) = grind (arith, common_steps) in
    omega (arith, count, greatest_edges mesh c.mesh.invariant c.args.face (omega arith) (search rules))
