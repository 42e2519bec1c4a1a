-- There is at most one report on a mesh.
use Rattle.std.proofs.Common.{◌≡◌, ℕ, Bool, true, List, ℤ, length, arith, sym, ap, ◌∙◌, ◌↔◌}
use Rattle.std.specs.Cmp.{both_ways}
use Rattle.vec_exact.specs.declared.RawMesh.{RawMesh}
use Rattle.overlap_run.specs.Pairs.{IsCountOf}
use Rattle.overlap_run.proofs.Unique.{exactly_one}
use Rattle.mesh_partition.specs.declared.reporting.MeshReport.{MeshReport}
use Rattle.mesh_partition.specs.Edges.{IsEdgeCount, IsEdge, IsUnpaired}
use Rattle.mesh_partition.specs.MeshReport.{DoOverlap, OneMeshReport}
use Rattle.mesh_partition.proofs.Lengths.{same_length}

same_edges : (P : List ℤ → Type 0) (m n : ℕ) → IsEdgeCount P m → IsEdgeCount P n → m ≡ n
same_edges P m n a b =
    sym a.2 ∙ same_length a.0 b.0 a.1.different b.1.different (λ e c. (b.1.members e).1 ((a.1.members e).0 c)) (λ e c. (a.1.members e).1 ((b.1.members e).0 c)) ∙ b.2

same_pairs : (mesh : RawMesh) (m n : ℕ) → IsCountOf (DoOverlap mesh) m → IsCountOf (DoOverlap mesh) n → m ≡ n
same_pairs mesh m n a b = sym a.2 ∙ ap length (exactly_one (DoOverlap mesh) a.0 b.0 a.1 b.1) ∙ b.2

same_answer : (C : Type 0) (x y : Bool) → (x ≡ true) ↔ C → (y ≡ true) ↔ C → x ≡ y
same_answer C x y a b = both_ways x y (λ h. b.1 (a.0 h)) (λ h. a.1 (b.0 h))

report_eq : (r s : MeshReport) → r.overlaps ≡ s.overlaps → r.unpaired ≡ s.unpaired → r.doubled ≡ s.doubled → r.covered ≡ s.covered → r ≡ s
report_eq r s o u d c = λ i. record { overlaps = o i; unpaired = u i; doubled = d i; covered = c i }

pub one_mesh_report : OneMeshReport
one_mesh_report mesh r s a b =
    let different = same_edges (IsEdge mesh) a.doubled.0 b.doubled.0 a.doubled.1 b.doubled.1 in
    report_eq r s
    (same_pairs mesh r.overlaps s.overlaps a.overlaps b.overlaps)
    (same_edges (IsUnpaired mesh) r.unpaired s.unpaired a.unpaired b.unpaired)
    (omega (arith, different, a.doubled.2, b.doubled.2))
    (same_answer _ r.covered s.covered a.covered b.covered)
