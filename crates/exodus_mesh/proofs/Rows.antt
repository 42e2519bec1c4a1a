-- Rows of blocks, and blocks of rows, one behind another.
use Rattle.std.proofs.Common.{◌≡◌, ◌<◌, ◌≤◌, ◌+◌, ◌-◌, ◌*◌, ℕ, suc, ℤ, List, [], ◌∷◌, ◌++◌, length, map, take, drop, ap, sym, ◌∙◌, arith, slice_index_or}
use Rattle.std.proofs.lemmas.List.{length-map, get_or-map}
use Rattle.std.proofs.Math.Seq.{drop-cons}
use Rattle.exodus_mesh.specs.declared.vars.BlockVar.{BlockVar}
use Rattle.exodus_mesh.specs.MeshValues.{row_lens, face_of_row, rows_of, block_faces, faces_of}

-- one more row of n, of which k are done
pub next_row : (n k width : ℕ) (numbers : List ℤ) → k < n → map face_of_row (rows_of (n - k) width numbers) ≡ face_of_row (take width numbers) ∷ map face_of_row (rows_of (n - (k + 1)) width (drop width numbers))
next_row n k width numbers below = let more : n - k ≡ suc (n - (k + 1)) = omega arith in ap (λ m. map face_of_row (rows_of m width numbers)) more

-- what is left is as long as the rows that are left
pub row_left : (n k width len : ℕ) → k < n → len ≡ (n - k) * width → (width ≤ len) × (len - width ≡ (n - (k + 1)) * width)
row_left n k width len below is =
    let more : n - k ≡ suc (n - (k + 1)) = omega arith in
    let long : len ≡ suc (n - (k + 1)) * width = is ∙ ap (λ m. m * width) more in
    (omega (arith, long), omega (arith, long))

pub no_rows : (n k width : ℕ) (numbers : List ℤ) → n ≤ k → map face_of_row (rows_of (n - k) width numbers) ≡ []
no_rows n k width numbers past = let none : n - k ≡ 0 = omega arith in ap (λ m. map face_of_row (rows_of m width numbers)) none

-- there are as many lists of numbers as blocks
pub as_many : (blocks : List BlockVar) (rows : List (List ℤ)) → map length rows ≡ row_lens blocks → length rows ≡ length blocks
as_many blocks rows lens = sym (length-map rows length) ∙ ap length lens ∙ length-map blocks (λ (b : BlockVar). b.faces * b.width)

pub row_len_at : (blocks : List BlockVar) (rows : List (List ℤ)) (k : ℕ) (block : BlockVar) (numbers : List ℤ) → map length rows ≡ row_lens blocks → k < length blocks
    → length (slice_index_or rows k numbers) ≡ (slice_index_or blocks k block).faces * (slice_index_or blocks k block).width
row_len_at blocks rows k block numbers lens below =
    let there : k < length rows = omega (arith, as_many blocks rows lens) in
    sym (get_or-map length rows k numbers 0 there)
    ∙ ap (λ l. slice_index_or l k 0) lens
    ∙ get_or-map (λ (b : BlockVar). b.faces * b.width) blocks k block 0 below

-- one more block
pub next_faces : (blocks : List BlockVar) (rows : List (List ℤ)) (k : ℕ) (block : BlockVar) (numbers : List ℤ) → map length rows ≡ row_lens blocks → k < length blocks
    → faces_of (drop k blocks) (drop k rows) ≡ block_faces (slice_index_or blocks k block) (slice_index_or rows k numbers) ++ faces_of (drop (k + 1) blocks) (drop (k + 1) rows)
next_faces blocks rows k block numbers lens below =
    let there : k < length rows = omega (arith, as_many blocks rows lens) in
    let at : suc k ≡ k + 1 = omega arith in
    ap (λ l. faces_of l (drop k rows)) (drop-cons blocks k block below)
    ∙ ap (λ l. faces_of (slice_index_or blocks k block ∷ drop (suc k) blocks) l) (drop-cons rows k numbers there)
    ∙ ap (λ j. block_faces (slice_index_or blocks k block) (slice_index_or rows k numbers) ++ faces_of (drop j blocks) (drop j rows)) at
