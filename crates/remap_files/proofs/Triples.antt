-- Numbers three by three.
use Rattle.std.proofs.Common.{◌≡◌, ◌<◌, ◌+◌, ◌-◌, ℕ, zero, suc, ℤ, List, ◌∷◌, length, take, drop, refl, ap, ap₂, sym, ◌∙◌, arith}
use Rattle.exodus_mesh.specs.MeshValues.{rows_of}
use Rattle.exodus_mesh.proofs.NodesAgain.{triple_is}
use Rattle.clip.specs.Columns.{triple_of}

-- one more triple of n, of which k are done
pub next_triple : (n k : ℕ) (rest front behind : List ℤ) → k < n → front ≡ take 3 rest → behind ≡ drop 3 rest → length front ≡ 3 → rows_of (n - k) 3 rest ≡ triple_of front ∷ rows_of (n - (k + 1)) 3 behind
next_triple n k rest front behind below is_front is_behind three =
    let more : n - k ≡ suc (n - (k + 1)) = omega arith in
    let one : rows_of (suc (n - (k + 1))) 3 rest ≡ take 3 rest ∷ rows_of (n - (k + 1)) 3 (drop 3 rest) = refl in
    ap (λ m. rows_of m 3 rest) more ∙ one
    ∙ ap₂ (λ (c l : List ℤ). c ∷ rows_of (n - (k + 1)) 3 l) (sym is_front ∙ sym (triple_is front three)) (sym is_behind)

-- there are as many triples as were asked for
pub length_rows : (n width : ℕ) (numbers : List ℤ) → length (rows_of n width numbers) ≡ n
length_rows zero width numbers = refl
length_rows (suc n) width numbers = ap (λ k. suc k) (length_rows n width (drop width numbers))
