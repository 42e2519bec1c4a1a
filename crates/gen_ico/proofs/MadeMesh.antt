-- What is made is counted.
use Rattle.std.proofs.Common.{◌≡◌, ◌+◌, ◌≤◌, ℕ, pos, true, false, length, Result, Ok, Err, refl, sym, ap, subst, arith, All}
use Rattle.std.specs.Prelude.{IfOk}
use Rattle.std.proofs.lemmas.List.{length-map}
use Rattle.std.proofs.lemmas.List.FromFn.{length-map-range_with_len}
use Rattle.vec_exact.specs.Counts.{AreAllowedCounts}
use Rattle.vec_exact.specs.declared.RawMesh.{RawMesh}
use Rattle.gen_ico.specs.Icosahedral.{IsIcosahedral}
use Rattle.gen_ico.specs.Dual.{dual_face, dual_node, dual_of}
use Rattle.gen_ico.specs.Holding.{IsSmallNode, IsTriangle}
use Rattle.gen_ico.specs.Made.{IsMade}
use Rattle.gen_ico.proofs.Members.{small_nodes, some_node, triangles}

pub base_made : (n : ℕ) (base : RawMesh) → IsIcosahedral n base → IsMade n false base
base_made n base is = record { base = base; icosahedral = is; is = refl }

pub dual_made : (n : ℕ) (base raw : RawMesh) → IsIcosahedral n base → raw ≡ dual_of base → IsMade n true raw
dual_made n base raw is e = record { base = base; icosahedral = is; is = e }

pub base_triangles : (n : ℕ) (base : RawMesh) → IsIcosahedral n base → All (IsTriangle (length base.nodes)) base.faces
base_triangles n base is = subst (All (IsTriangle (length base.nodes))) (sym is.faces) (triangles n base.nodes is.nodes)

pub dual_nodes_count : (base : RawMesh) → length (dual_of base).nodes ≡ length base.faces
unfolding dual_of
dual_nodes_count base = length-map base.faces (dual_node base.nodes)

pub dual_faces_count : (base : RawMesh) → length (dual_of base).faces ≡ length base.nodes
unfolding dual_of
dual_faces_count base = length-map-range_with_len (λ k. dual_face base.faces (pos (k + 1))) 0 (length base.nodes)

pub dual_counts : (base raw : RawMesh) → raw ≡ dual_of base → length base.nodes ≤ 1048576 → length base.faces ≤ 1048576 → AreAllowedCounts (length raw.nodes) (length raw.faces)
dual_counts base raw e nodes faces = record {
  node_limit = omega (arith, ap (λ (m : RawMesh). length m.nodes) e, dual_nodes_count base, faces);
  face_limit = omega (arith, ap (λ (m : RawMesh). length m.faces) e, dual_faces_count base, nodes);
}

pub dual_some : (n : ℕ) (base raw : RawMesh) → IsIcosahedral n base → raw ≡ dual_of base → 1 ≤ length raw.faces
dual_some n base raw is e = omega (arith, ap (λ (m : RawMesh). length m.faces) e, dual_faces_count base, some_node n base.nodes is.nodes)

pub base_small : (n : ℕ) (base : RawMesh) → 1 ≤ n → IsIcosahedral n base → All IsSmallNode base.nodes
base_small n base least is = small_nodes n base.nodes least is.nodes

pub if_ok : {X E : Type 0} (P Q : X → Type 0) (r : Result X E) → ((x : X) → P x → Q x) → IfOk r P → IfOk r Q
if_ok P Q (Ok x) f h = f x h
if_ok P Q (Err e) f h = tt
