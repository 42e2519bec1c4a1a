-- A raw mesh has at most one first fault, and an accepted mesh has none.
use Rattle.std.proofs.Common.{◌≡◌, ◌∙◌, inl, inr, ℕ, ◌+◌, ◌-◌, ◌<◌, ◌≤◌, ℤ, List, [], length, take, All, slice_index_or, arith, ap, sym, subst}
use Rattle.std.proofs.lemmas.List.Elements.{All-get_or}
use Rattle.std.proofs.lemmas.List.{get_or-take, length-take}
use Rattle.vec_exact.specs.declared.RawMesh.{RawMesh}
use Rattle.vec_exact.specs.declared.Vec3.{Vec3}
use Rattle.vec_exact.specs.Face.{vector_of, IsAcceptedNode, IsAccepted}
use Rattle.vec_exact.proofs.Cycles.{below_same_above}
use Rattle.vec_exact.proofs.Accepted.{length-face_nodes}
use Rattle.mesh_check.specs.declared.faults.MeshFault.{MeshFault}
use Rattle.mesh_check.specs.declared.faults.MeshFault.TheVariants.{CoordRange, ZeroNode, NodeNumber, FaceSize, NotConvex}
use Rattle.mesh_check.specs.Mesh.{IsGoodNode, IsAcceptedMesh}
use Rattle.mesh_check.specs.FirstFault.{IsNodeFault, IsFaceFault, IsFirstNodeFault, IsFirstFaceFault, IsFirstMeshFault}

-- ---- a good node has no fault, an accepted face has none
good_node : (number : ℕ) (v : Vec3) (fault : MeshFault) → IsAcceptedNode v → IsNodeFault number v fault → ⊥
good_node number v (CoordRange k) good h = h.1 good.small
good_node number v (ZeroNode k) good h = good.nonzero h.2
good_node number v fault good h = h

accepted_face : (nodes : List (List ℤ)) (number : ℕ) (face : List ℤ) (fault : MeshFault) → IsAccepted nodes face → IsFaceFault nodes number face fault → ⊥
accepted_face nodes number face (NodeNumber k) a h = h.1 a.in_range
accepted_face nodes number face (FaceSize k) a h =
    h.2 (omega (arith, length-face_nodes nodes face, a.accepted.least_size), omega (arith, length-face_nodes nodes face, a.accepted.greatest_size))
accepted_face nodes number face (NotConvex k) a h = h.3 (λ t l s m p q. a.accepted.turns t s l m p q)
accepted_face nodes number face fault a h = h

-- ---- a node or a face has at most one fault
same_node_fault : (number : ℕ) (v : Vec3) (f g : MeshFault) → IsNodeFault number v f → IsNodeFault number v g → f ≡ g
same_node_fault number v (CoordRange j) (CoordRange k) h i = ap CoordRange (h.0 ∙ sym i.0)
same_node_fault number v (CoordRange j) (ZeroNode k) h i = absurd (h.1 i.1)
same_node_fault number v (CoordRange j) g h i = absurd i
same_node_fault number v (ZeroNode j) (ZeroNode k) h i = ap ZeroNode (h.0 ∙ sym i.0)
same_node_fault number v (ZeroNode j) (CoordRange k) h i = absurd (i.1 h.1)
same_node_fault number v (ZeroNode j) g h i = absurd i
same_node_fault number v f g h i = absurd h

same_face_fault : (nodes : List (List ℤ)) (number : ℕ) (face : List ℤ) (f g : MeshFault) → IsFaceFault nodes number face f → IsFaceFault nodes number face g → f ≡ g
same_face_fault nodes number face (NodeNumber j) (NodeNumber k) h i = ap NodeNumber (h.0 ∙ sym i.0)
same_face_fault nodes number face (NodeNumber j) (FaceSize k) h i = absurd (h.1 i.1)
same_face_fault nodes number face (NodeNumber j) (NotConvex k) h i = absurd (h.1 i.1)
same_face_fault nodes number face (NodeNumber j) g h i = absurd i
same_face_fault nodes number face (FaceSize j) (NodeNumber k) h i = absurd (i.1 h.1)
same_face_fault nodes number face (FaceSize j) (FaceSize k) h i = ap FaceSize (h.0 ∙ sym i.0)
same_face_fault nodes number face (FaceSize j) (NotConvex k) h i = absurd (h.2 i.2)
same_face_fault nodes number face (FaceSize j) g h i = absurd i
same_face_fault nodes number face (NotConvex j) (NodeNumber k) h i = absurd (i.1 h.1)
same_face_fault nodes number face (NotConvex j) (FaceSize k) h i = absurd (i.2 h.2)
same_face_fault nodes number face (NotConvex j) (NotConvex k) h i = ap NotConvex (h.0 ∙ sym i.0)
same_face_fault nodes number face (NotConvex j) g h i = absurd i
same_face_fault nodes number face f g h i = absurd h

-- the face at place i, counted from 0, is at fault, and those before it are accepted
pub first_face : (nodes faces : List (List ℤ)) (i : ℕ) (face : List ℤ) (fault : MeshFault) → i < length faces → face ≡ slice_index_or faces i [] → All (IsAccepted nodes) (take i faces)
    → IsFaceFault nodes (i + 1) face fault → IsFirstFaceFault nodes faces fault
first_face nodes faces i face fault l e before here =
    let back : i + 1 - 1 ≡ i = omega arith in
    record {
      number = i + 1;
      least = omega arith;
      greatest = omega (arith, l);
      before = subst (λ (k : ℕ). All (IsAccepted nodes) (take k faces)) (sym back) before;
      here = subst (λ (k : ℕ). IsFaceFault nodes (i + 1) (slice_index_or faces k []) fault) (sym back) (subst (λ f. IsFaceFault nodes (i + 1) f fault) e here);
    }

-- ---- what holds of the items before number b holds of number a below it
before_at : (P : List ℤ → Type 0) (xs : List (List ℤ)) (a b : ℕ) → 1 ≤ a → a < b → b ≤ length xs → All P (take (b - 1) xs) → P (slice_index_or xs (a - 1) [])
before_at P xs a b least below within all =
    subst P (get_or-take (b - 1) xs (a - 1) [] (omega arith)) (All-get_or P (take (b - 1) xs) (a - 1) [] (omega (arith, length-take (b - 1) xs)) all)

pub no_node_fault : (nodes : List (List ℤ)) (f : MeshFault) → All IsGoodNode nodes → IsFirstNodeFault nodes f → ⊥
no_node_fault nodes f all h =
    good_node h.number (vector_of (slice_index_or nodes (h.number - 1) [])) f (All-get_or IsGoodNode nodes (h.number - 1) [] (omega (arith, h.least, h.greatest)) all) h.here

pub no_face_fault : (nodes faces : List (List ℤ)) (f : MeshFault) → All (IsAccepted nodes) faces → IsFirstFaceFault nodes faces f → ⊥
no_face_fault nodes faces f all h =
    accepted_face nodes h.number (slice_index_or faces (h.number - 1) []) f (All-get_or (IsAccepted nodes) faces (h.number - 1) [] (omega (arith, h.least, h.greatest)) all) h.here

later_node : (nodes : List (List ℤ)) (f g : MeshFault) (h : IsFirstNodeFault nodes f) (i : IsFirstNodeFault nodes g) → h.number < i.number → ⊥
later_node nodes f g h i l =
    good_node h.number (vector_of (slice_index_or nodes (h.number - 1) [])) f (before_at IsGoodNode nodes h.number i.number h.least l i.greatest i.before) h.here

later_face : (nodes faces : List (List ℤ)) (f g : MeshFault) (h : IsFirstFaceFault nodes faces f) (i : IsFirstFaceFault nodes faces g) → h.number < i.number → ⊥
later_face nodes faces f g h i l =
    accepted_face nodes h.number (slice_index_or faces (h.number - 1) []) f (before_at (IsAccepted nodes) faces h.number i.number h.least l i.greatest i.before) h.here

same_first_node : (nodes : List (List ℤ)) (f g : MeshFault) → IsFirstNodeFault nodes f → IsFirstNodeFault nodes g → f ≡ g
same_first_node nodes f g h i =
    elim (below_same_above h.number i.number) [
      | inl l ↦ absurd (later_node nodes f g h i l)
      | inr (inl e) ↦ same_node_fault i.number (vector_of (slice_index_or nodes (i.number - 1) [])) f g
          (subst (λ (k : ℕ). IsNodeFault k (vector_of (slice_index_or nodes (k - 1) [])) f) e h.here) i.here
      | inr (inr l) ↦ absurd (later_node nodes g f i h l)
    ]

same_first_face : (nodes faces : List (List ℤ)) (f g : MeshFault) → IsFirstFaceFault nodes faces f → IsFirstFaceFault nodes faces g → f ≡ g
same_first_face nodes faces f g h i =
    elim (below_same_above h.number i.number) [
      | inl l ↦ absurd (later_face nodes faces f g h i l)
      | inr (inl e) ↦ same_face_fault nodes i.number (slice_index_or faces (i.number - 1) []) f g
          (subst (λ (k : ℕ). IsFaceFault nodes k (slice_index_or faces (k - 1) []) f) e h.here) i.here
      | inr (inr l) ↦ absurd (later_face nodes faces g f i h l)
    ]

pub same_first_fault : (raw : RawMesh) (f g : MeshFault) → IsFirstMeshFault raw f → IsFirstMeshFault raw g → f ≡ g
same_first_fault raw f g (inl h) (inl i) = same_first_node raw.nodes f g h i
same_first_fault raw f g (inl h) (inr i) = absurd (no_node_fault raw.nodes f i.0 h)
same_first_fault raw f g (inr h) (inl i) = absurd (no_node_fault raw.nodes g h.0 i)
same_first_fault raw f g (inr h) (inr i) = same_first_face raw.nodes raw.faces f g h.1 i.1

pub no_first_fault : (raw : RawMesh) (f : MeshFault) → IsAcceptedMesh raw → IsFirstMeshFault raw f → ⊥
no_first_fault raw f a (inl h) = no_node_fault raw.nodes f a.nodes h
no_first_fault raw f a (inr h) = no_face_fault raw.nodes raw.faces f a.faces h.1
