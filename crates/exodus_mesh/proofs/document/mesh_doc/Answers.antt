use Rattle.std.proofs.Common.{◌≡◌, ◌∙◌, ap, sym, subst, length, arith, rules, Ok, All, List, ℤ}
use Rattle.nc_write.specs.File.{file_of}
use Rattle.nc_write.specs.Form.{IsWellFormed}
use Rattle.nc_write.specs.declared.NcDoc.{NcDoc}
use Rattle.nc_format.specs.declared.NcFile.{NcFile}
use Rattle.nc_format.specs.Header.{IsHeader}
use Rattle.mesh_check.specs.Mesh.{IsAcceptedMesh}
use Rattle.exodus_mesh.specs.MeshIn.{mesh_in, HasTriples}
use Rattle.exodus_mesh.proofs.ReadAgain.{read_again}
use Rattle.exodus_mesh.specs.MeshDocument.{width_of}
use Rattle.exodus_mesh.proofs.MeshLength.{width_least, width_greatest, mesh_document_form, length_mesh_file}
use Rattle.exodus_mesh.proofs.document.mesh_doc.Goals as goal

pub make_document-requires-clause-width : goal.make_document-requires-clause-width
make_document-requires-clause-width c =
    let same : c.deref.result.now ≡ c.args.raw.now.faces = search rules in
    omega (arith, c.width-most.ensures.greatest, ap (λ faces. width_of faces) same, width_greatest c.args.raw.now.faces 4294967295 c.requires.widths)

pub returns-clause-well_formed : goal.returns-clause-well_formed
returns-clause-well_formed c =
    let raw = c.args.raw.now in
    let h = c.requires in
    subst IsWellFormed (sym c.in_ok-doc.ensures) (mesh_document_form raw h.nodes h.faces h.counts (width_least raw.faces h.faces h.no_empty_face) (width_greatest raw.faces 4294967295 h.widths))

pub returns-clause-file_length : goal.returns-clause-file_length
returns-clause-file_length c = ap (λ doc. length (file_of doc)) c.in_ok-doc.ensures ∙ length_mesh_file c.args.raw.now c.requires.faces

pub returns-clause-read_again : goal.returns-clause-read_again
returns-clause-read_again c =
    let same : c.deref-2.result.now ≡ c.args.raw.now.nodes = search rules in
    let triples : HasTriples c.args.raw.now = subst (λ (nodes : List (List ℤ)). All (λ node. length node ≡ 3) nodes) same c.triples.ensures in
    subst (λ (doc : NcDoc). IsAcceptedMesh c.args.raw.now → (f : NcFile) → IsHeader (file_of doc) (length (file_of doc)) f → mesh_in f (file_of doc) ≡ Ok c.args.raw.now) (sym c.in_ok-doc.ensures) (λ a f h. read_again c.args.raw.now f a triples h)
