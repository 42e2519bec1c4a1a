-- The texts that the program puts to its output. Source: our own.
use Rattle.std.specs.Prelude.{ℕ, List, ◌++◌, length, codes, decimal, Bool, true, false}
use Rattle.vec_exact.specs.declared.RawMesh.{RawMesh}
use Rattle.cover_check.specs.declared.counting.CoverCount.{CoverCount}
use Rattle.mesh_partition.specs.declared.reporting.MeshReport.{MeshReport}
use Rattle.map_rows.specs.Maps.{MapParts}

-- what is put to the output for a mesh that was made
abbrev pub mesh_text : RawMesh → List ℕ
mesh_text raw = codes "faces " ++ decimal (length raw.faces) ++ codes " nodes " ++ decimal (length raw.nodes) ++ codes "\n"

-- what is put to the output for the pieces of two meshes
abbrev pub pieces_text : ℕ → List ℕ
pieces_text n = codes "pieces " ++ decimal n ++ codes "\n"

-- what is put to the output for a map: how many rows it has, how many faces the source mesh has and how many the target mesh
abbrev pub map_text : MapParts → List ℕ
map_text m = codes "rows " ++ decimal (length m.rows) ++ codes " sources " ++ decimal m.n_a ++ codes " targets " ++ decimal m.n_b ++ codes "\n"

-- what is put to the output for the targets of a mesh, and how many of them are covered
abbrev pub coverage_text : ℕ → CoverCount → List ℕ
coverage_text targets count = codes "targets " ++ decimal targets ++ codes " covered " ++ decimal count.covered ++ codes " first " ++ decimal count.first ++ codes "\n"

abbrev pub yes_or_no : Bool → List ℕ
yes_or_no true = codes "yes"
yes_or_no false = codes "no"

-- how many faces a mesh has, and how many pairs of them overlap
abbrev pub faces_text : ℕ → MeshReport → List ℕ
faces_text faces report = codes "faces " ++ decimal faces ++ codes " overlaps " ++ decimal report.overlaps

-- how many directed edges stand alone, and how many twice
abbrev pub edges_text : MeshReport → List ℕ
edges_text report = codes " open " ++ decimal report.unpaired ++ codes " doubled " ++ decimal report.doubled

-- whether all is covered
abbrev pub covered_text : MeshReport → List ℕ
covered_text report = codes " covered " ++ yes_or_no report.covered ++ codes "\n"

-- what is put to the output for a mesh with so many faces, and the report on it
abbrev pub report_text : ℕ → MeshReport → List ℕ
report_text faces report = faces_text faces report ++ edges_text report ++ covered_text report
