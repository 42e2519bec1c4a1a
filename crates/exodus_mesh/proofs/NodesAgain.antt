-- The nodes of a mesh are what its coordinates give again.
use Rattle.std.proofs.Common.{◌≡◌, ◌<◌, ◌*◌, ℕ, ℤ, pos, List, [], ◌∷◌, ◌++◌, length, map, take, drop, All, refl, ap, ap₂, ◌∙◌, arith, slice_index_or, append_assoc, length-append}
use Rattle.std.specs.List.{range_with_len}
use Rattle.std.proofs.lemmas.List.{length-map, get_or-map, ext_get_or, take_all}
use Rattle.std.proofs.lemmas.List.FromFn.{length-map-range_with_len, get_or-map-range_with_len}
use Rattle.exodus_mesh.specs.MeshDocument.{component}
use Rattle.exodus_mesh.specs.declared.vars.CoordVars.TheVariants.{Whole}
use Rattle.exodus_mesh.specs.MeshValues.{axis, node_at, nodes_of}
use Rattle.exodus_mesh.proofs.Unrepeated.{take_front, drop_front}

-- a list of three numbers is the triple of them
pub triple_is : (node : List ℤ) → length node ≡ 3 → slice_index_or node 0 (pos 0) ∷ slice_index_or node 1 (pos 0) ∷ slice_index_or node 2 (pos 0) ∷ [] ≡ node
triple_is [] h = absurd (omega (arith, h))
triple_is (x ∷ []) h = absurd (omega (arith, h))
triple_is (x ∷ y ∷ []) h = absurd (omega (arith, h))
triple_is (x ∷ y ∷ z ∷ []) h = refl
triple_is (x ∷ y ∷ z ∷ w ∷ more) h = absurd (omega (arith, h))

component_len : (k : ℕ) (nodes : List (List ℤ)) → length (component k nodes) ≡ length nodes
component_len k nodes = length-map nodes (λ t. slice_index_or t k (pos 0))

-- the row of each axis stands behind those before it
x_again : (nodes : List (List ℤ)) → axis (Whole 0) (length nodes) ((component 0 nodes ++ component 1 nodes ++ component 2 nodes) ∷ []) 0 ≡ component 0 nodes
x_again nodes =
    let n = length nodes in
    let none : 0 * n ≡ 0 = omega arith in
    ap (λ k. take n (drop k (component 0 nodes ++ component 1 nodes ++ component 2 nodes))) none
    ∙ ap (take n) (append_assoc (component 0 nodes) (component 1 nodes) (component 2 nodes))
    ∙ take_front (component 0 nodes) (component 1 nodes ++ component 2 nodes) n (component_len 0 nodes)

y_again : (nodes : List (List ℤ)) → axis (Whole 0) (length nodes) ((component 0 nodes ++ component 1 nodes ++ component 2 nodes) ∷ []) 1 ≡ component 1 nodes
y_again nodes =
    let n = length nodes in
    ap (λ l. take n (drop (1 * n) l)) (append_assoc (component 0 nodes) (component 1 nodes) (component 2 nodes))
    ∙ ap (take n) (drop_front (component 0 nodes) (component 1 nodes ++ component 2 nodes) (1 * n) (omega (arith, component_len 0 nodes)))
    ∙ take_front (component 1 nodes) (component 2 nodes) n (component_len 1 nodes)

z_again : (nodes : List (List ℤ)) → axis (Whole 0) (length nodes) ((component 0 nodes ++ component 1 nodes ++ component 2 nodes) ∷ []) 2 ≡ component 2 nodes
z_again nodes =
    let n = length nodes in
    ap (take n) (drop_front (component 0 nodes ++ component 1 nodes) (component 2 nodes) (2 * n) (omega (arith, length-append (component 0 nodes) (component 1 nodes), component_len 0 nodes, component_len 1 nodes)))
    ∙ take_all n (component 2 nodes) (omega (arith, component_len 2 nodes))

node_again : (nodes : List (List ℤ)) (p : ℕ) → All (λ node. length node ≡ 3) nodes → p < length nodes → node_at (component 0 nodes) (component 1 nodes) (component 2 nodes) p ≡ slice_index_or nodes p []
node_again nodes p triples below =
    let at = λ (k : ℕ). get_or-map (λ t. slice_index_or t k (pos 0)) nodes p [] (pos 0) below in
    ap₂ (λ x rest. x ∷ rest) (at 0) (ap₂ (λ y rest. y ∷ rest) (at 1) (ap (λ z. z ∷ []) (at 2)))
    ∙ triple_is (slice_index_or nodes p []) (triples p [] below)

pub nodes_again : (nodes : List (List ℤ)) → All (λ node. length node ≡ 3) nodes → nodes_of (Whole 0) (length nodes) ((component 0 nodes ++ component 1 nodes ++ component 2 nodes) ∷ []) ≡ nodes
nodes_again nodes triples =
    let n = length nodes in
    let node = node_at (component 0 nodes) (component 1 nodes) (component 2 nodes) in
    let rows : nodes_of (Whole 0) n ((component 0 nodes ++ component 1 nodes ++ component 2 nodes) ∷ []) ≡ map node (range_with_len 0 n) =
    ap (λ x. map (node_at x (axis (Whole 0) n ((component 0 nodes ++ component 1 nodes ++ component 2 nodes) ∷ []) 1) (axis (Whole 0) n ((component 0 nodes ++ component 1 nodes ++ component 2 nodes) ∷ []) 2)) (range_with_len 0 n)) (x_again nodes)
    ∙ ap (λ y. map (node_at (component 0 nodes) y (axis (Whole 0) n ((component 0 nodes ++ component 1 nodes ++ component 2 nodes) ∷ []) 2)) (range_with_len 0 n)) (y_again nodes)
    ∙ ap (λ z. map (node_at (component 0 nodes) (component 1 nodes) z) (range_with_len 0 n)) (z_again nodes) in
    let long : length (map node (range_with_len 0 n)) ≡ n = length-map-range_with_len node 0 n in
    rows ∙ ext_get_or [] (map node (range_with_len 0 n)) nodes long
    (λ p below. let here : p < n = omega (arith, long, below) in get_or-map-range_with_len node 0 n p p [] here (omega arith) ∙ node_again nodes p triples here)
