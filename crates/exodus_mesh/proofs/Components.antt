-- One more component of the nodes.
use Rattle.std.proofs.Common.{◌≡◌, ◌<◌, ◌+◌, ℕ, ℤ, pos, List, [], ◌∷◌, ◌++◌, length, take, get_or, slice_index_or, ap, sym, ◌∙◌, append_assoc}
use Rattle.std.proofs.lemmas.List.{map_more}
use Rattle.exodus_mesh.specs.MeshDocument.{component}

pub component_more : (k : ℕ) (nodes : List (List ℤ)) (i : ℕ) (z : ℤ) (old so_far more : List ℤ) → i < length nodes → z ≡ slice_index_or (get_or nodes i []) k (pos 0)
    → so_far ≡ old ++ component k (take i nodes) → more ≡ so_far ++ z ∷ [] → more ≡ old ++ component k (take (i + 1) nodes)
component_more k nodes i z old so_far more below is h step =
    let one = slice_index_or (get_or nodes i []) k (pos 0) in
    step ∙ ap (λ y. so_far ++ y ∷ []) is ∙ ap (λ l. l ++ one ∷ []) h ∙ append_assoc old (component k (take i nodes)) (one ∷ [])
    ∙ ap (λ l. old ++ l) (sym (map_more (λ t. slice_index_or t k (pos 0)) nodes i [] below))
