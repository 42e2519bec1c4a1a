-- In an accepted face no number is repeated by its neighbour, since then an edge would have no length; and all numbers of an accepted mesh fit 32 bits.
use Rattle.std.proofs.Common.{◌≡◌, ◌≢◌, ◌<◌, ◌≤◌, ◌-◌, ◌^◌, ℕ, suc, ℤ, pos, ◌<ℤ◌, List, [], ◌∷◌, ◌++◌, length, replicate, unsigned_abs, All, FitsSigned, ap, sym, subst, ◌∙◌, arith, slice_index_or}
use Rattle.std.specs.List.{flat_map, AllByRecursion}
use Rattle.std.specs.Int.{w32}
use Rattle.std.proofs.lemmas.Int.{ints, fits_signed_from_abs}
use Rattle.std.proofs.lemmas.List.Elements.{All-append, All-replicate, All-map, All-head, All-tail, All-nil}
use Rattle.vec_exact.specs.declared.Vec3.{Vec3}
use Rattle.vec_exact.specs.Vector.{det}
use Rattle.vec_exact.specs.Cycle.{after, vector_at}
use Rattle.vec_exact.specs.Face.{node_of, face_nodes, IsNodeNumber, IsAccepted}
use Rattle.vec_exact.proofs.Identities.{own_first}
use Rattle.vec_exact.proofs.Cycles.{after_below, after_other, after_after_other, after_inner, after_last}
use Rattle.vec_exact.proofs.Accepted.{length-face_nodes, face_nodes_at}
use Rattle.mesh_check.specs.Mesh.{IsGoodNode}
use Rattle.exodus_mesh.specs.MeshDocument.{filled, component}
use Rattle.exodus_mesh.proofs.Unrepeated.{HasNoRepeats}

no_edge : (a s : Vec3) → pos 0 <ℤ det a a s → ⊥
no_edge a s h = let none : pos 0 <ℤ pos 0 = subst (λ (z : ℤ). pos 0 <ℤ z) (own_first a s) h in absurd (omega (arith, ints, none))

neighbours_differ : (nodes : List (List ℤ)) (face : List ℤ) → IsAccepted nodes face → (t u : ℕ) → t < length face → u ≡ after (length (face_nodes nodes face)) t → slice_index_or face t (pos 0) ≢ slice_index_or face u (pos 0)
neighbours_differ nodes face a t u below is e =
    let f = face_nodes nodes face in
    let k = length f in
    let same_len : k ≡ length face = length-face_nodes nodes face in
    let three : 3 ≤ k = a.accepted.least_size in
    let here : t < k = omega (arith, same_len, below) in
    let next_below : after k t < k = after_below k t here in
    let u_below : u < length face = subst (λ (i : ℕ). i < length face) (sym is) (omega (arith, same_len, next_below)) in
    let far = after k (after k t) in
    let same : vector_at f t ≡ vector_at f (after k t) = face_nodes_at nodes face t below ∙ ap (node_of nodes) e ∙ sym (face_nodes_at nodes face u u_below) ∙ ap (vector_at f) is in
    let turn : pos 0 <ℤ det (vector_at f t) (vector_at f (after k t)) (vector_at f far) = a.accepted.turns t far here (after_below k (after k t) next_below) (after_after_other k t three here) (after_other k (after k t) three next_below) in
    no_edge (vector_at f (after k t)) (vector_at f far) (subst (λ (v : Vec3). pos 0 <ℤ det v (vector_at f (after k t)) (vector_at f far)) same turn)

pub accepted_unrepeated : (nodes : List (List ℤ)) (face : List ℤ) → IsAccepted nodes face → HasNoRepeats face
accepted_unrepeated nodes face a =
    let f = face_nodes nodes face in
    let same_len : length f ≡ length face = length-face_nodes nodes face in
    let three : 3 ≤ length f = a.accepted.least_size in
    let last = length face - 1 in
    record {
      some = omega (arith, same_len, three);
      inner = λ t below. neighbours_differ nodes face a t (suc t) (omega (arith, below)) (sym (after_inner (length f) t (omega (arith, same_len, below))));
      outer = λ e. neighbours_differ nodes face a last 0 (omega (arith, same_len, three)) (sym (after_last (length f) last (omega (arith, same_len, three)))) (sym e);
    }

pub faces_unrepeated : (nodes faces : List (List ℤ)) → All (IsAccepted nodes) faces → AllByRecursion HasNoRepeats faces
faces_unrepeated nodes [] all = tt
faces_unrepeated nodes (f ∷ fs) all = (accepted_unrepeated nodes f (All-head (IsAccepted nodes) f fs all), faces_unrepeated nodes fs (All-tail (IsAccepted nodes) f fs all))

-- numbers of 32 bits

small_fits : (z : ℤ) (n : ℕ) → unsigned_abs z ≤ n → n < 2 ^ 31 → FitsSigned w32 z
small_fits z n small below = fits_signed_from_abs w32 z (omega (arith, small, below))

first_fits : (node : List ℤ) → IsGoodNode node → FitsSigned w32 (slice_index_or node 0 (pos 0))
first_fits node h = small_fits (slice_index_or node 0 (pos 0)) 262143 h.small.x (omega arith)

second_fits : (node : List ℤ) → IsGoodNode node → FitsSigned w32 (slice_index_or node 1 (pos 0))
second_fits node h = small_fits (slice_index_or node 1 (pos 0)) 262143 h.small.y (omega arith)

third_fits : (node : List ℤ) → IsGoodNode node → FitsSigned w32 (slice_index_or node 2 (pos 0))
third_fits node h = small_fits (slice_index_or node 2 (pos 0)) 262143 h.small.z (omega arith)

pub coords_fit : (nodes : List (List ℤ)) → All IsGoodNode nodes → All (FitsSigned w32) (component 0 nodes ++ component 1 nodes ++ component 2 nodes)
coords_fit nodes all =
    let each : (k : ℕ) → ((node : List ℤ) → IsGoodNode node → FitsSigned w32 (slice_index_or node k (pos 0))) → All (FitsSigned w32) (component k nodes) =
    λ k fit. All-map (FitsSigned w32) (λ node. slice_index_or node k (pos 0)) nodes (λ i d below. fit (slice_index_or nodes i d) (all i d below)) in
    All-append (FitsSigned w32) (component 0 nodes ++ component 1 nodes) (component 2 nodes) (All-append (FitsSigned w32) (component 0 nodes) (component 1 nodes) (each 0 first_fits) (each 1 second_fits)) (each 2 third_fits)

number_fits : (nodes : List (List ℤ)) (j : ℤ) → length nodes ≤ 4194304 → IsNodeNumber nodes j → FitsSigned w32 j
number_fits nodes j few h = small_fits j 4194304 (omega (arith, ints, few, h.0, h.1)) (omega arith)

face_fits : (nodes : List (List ℤ)) (face : List ℤ) → length nodes ≤ 4194304 → IsAccepted nodes face → All (FitsSigned w32) face
face_fits nodes face few a = λ i d below. number_fits nodes (slice_index_or face i d) few (a.in_range i d below)

row_fits : (nodes : List (List ℤ)) (width : ℕ) (face : List ℤ) → length nodes ≤ 4194304 → IsAccepted nodes face → All (FitsSigned w32) (filled width face)
row_fits nodes width face few a =
    let last = length face - 1 in
    let some : last < length face = let three : 2 ≤ length face = (accepted_unrepeated nodes face a).some in omega (arith, three) in
    All-append (FitsSigned w32) face (replicate (width - length face) (slice_index_or face last (pos 0))) (face_fits nodes face few a)
    (All-replicate (FitsSigned w32) (width - length face) (slice_index_or face last (pos 0)) (face_fits nodes face few a last (pos 0) some))

pub rows_fit : (nodes : List (List ℤ)) (width : ℕ) (faces : List (List ℤ)) → length nodes ≤ 4194304 → All (IsAccepted nodes) faces → All (FitsSigned w32) (flat_map (filled width) faces)
rows_fit nodes width [] few all = All-nil (FitsSigned w32)
rows_fit nodes width (f ∷ fs) few all =
    All-append (FitsSigned w32) (filled width f) (flat_map (filled width) fs) (row_fits nodes width f few (All-head (IsAccepted nodes) f fs all)) (rows_fit nodes width fs few (All-tail (IsAccepted nodes) f fs all))
