-- A corner of a panel stands among the nodes at its number.
use Rattle.std.proofs.Common.{◌≡◌, ◌-◌, ◌≤◌, ◌<◌, ℕ, ℤ, Bool, true, false, ◌||◌, List, [], arith, length, subst, sym, get_or, refl}
use Rattle.std.proofs.lemmas.List.Sums.{passes_at_first}
use Rattle.std.specs.Cmp.Rules.{signed_items}
use Rattle.std.specs.Cmp.Lexicographic.{pointwise}
use Rattle.std.specs.Ordering.{int_eq}
use Rattle.std.specs.List.{position_or_len}
use Rattle.vec_exact.specs.declared.panels.Panel.{Panel}
use Rattle.vec_exact.specs.declared.panels.Panel.TheVariants.{PlusX, PlusY, MinusX, MinusY, PlusZ, MinusZ}
use Rattle.gen_cs.specs.CubedSphere.{corner, is_end, node_at, nodes_of}
use Rattle.gen_cs.proofs.NodeNumbers.{found_within}
use Rattle.gen_cs.proofs.Rows.{last_is_end}
use Rattle.gen_cs.proofs.Corners.{corner_plus_x, corner_plus_y, corner_minus_x, corner_minus_y, corner_plus_z, corner_minus_z}

-- the search for a triple among the nodes finds it
pub record IsFound (nodes : List (List ℤ)) (t : List ℤ) : Type 0 where
  pub within : position_or_len (λ m. pointwise int_eq m t) nodes < length nodes
  pub is : get_or nodes (position_or_len (λ m. pointwise int_eq m t) nodes) [] ≡ t

node_found : (n a b c : ℕ) → 1 ≤ n → a ≤ n → b ≤ n → c ≤ n → (is_end n a || is_end n b || is_end n c) ≡ true → IsFound (nodes_of n) (node_at n a b c)
node_found n a b c least a_le b_le c_le node =
    let t = node_at n a b c in
    let p = λ (m : List ℤ). pointwise int_eq m t in
    let within = found_within n a b c least a_le b_le c_le node in
    record {
      within = within;
      is = (signed_items (get_or (nodes_of n) (position_or_len p (nodes_of n)) []) t).0 (passes_at_first p (nodes_of n) [] within);
    }

first_is : (x y z : Bool) → x ≡ true → (x || y || z) ≡ true
first_is x y z h = rw h refl

second_is : (x y z : Bool) → y ≡ true → (x || y || z) ≡ true
second_is true y z h = refl
second_is false y z h = rw h refl

third_is : (x y z : Bool) → z ≡ true → (x || y || z) ≡ true
third_is true y z h = refl
third_is false true z h = refl
third_is false false z h = h

pub corner_found : (n : ℕ) (panel : Panel) (i j : ℕ) → 1 ≤ n → i ≤ n → j ≤ n → IsFound (nodes_of n) (corner n panel i j)
corner_found n PlusX i j least i_le j_le =
    subst (IsFound (nodes_of n)) (sym (corner_plus_x n i j)) (node_found n n i j least (omega arith) i_le j_le (first_is (is_end n n) (is_end n i) (is_end n j) (last_is_end n)))
corner_found n PlusY i j least i_le j_le =
    subst (IsFound (nodes_of n)) (sym (corner_plus_y n i j i_le)) (node_found n (n - i) n j least (omega arith) (omega arith) j_le (second_is (is_end n (n - i)) (is_end n n) (is_end n j) (last_is_end n)))
corner_found n MinusX i j least i_le j_le =
    subst (IsFound (nodes_of n)) (sym (corner_minus_x n i j i_le)) (node_found n 0 (n - i) j least (omega arith) (omega arith) j_le refl)
corner_found n MinusY i j least i_le j_le =
    subst (IsFound (nodes_of n)) (sym (corner_minus_y n i j)) (node_found n i 0 j least i_le (omega arith) j_le (second_is (is_end n i) true (is_end n j) refl))
corner_found n PlusZ i j least i_le j_le =
    subst (IsFound (nodes_of n)) (sym (corner_plus_z n i j j_le)) (node_found n (n - j) i n least (omega arith) i_le (omega arith) (third_is (is_end n (n - j)) (is_end n i) (is_end n n) (last_is_end n)))
corner_found n MinusZ i j least i_le j_le =
    subst (IsFound (nodes_of n)) (sym (corner_minus_z n i j)) (node_found n j i 0 least j_le i_le (omega arith) (third_is (is_end n j) (is_end n i) true refl))
