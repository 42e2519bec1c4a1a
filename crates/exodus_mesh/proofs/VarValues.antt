-- How many numbers the variables of a mesh have in a file.
use Rattle.std.proofs.Common.{◌≡◌, ◌≢◌, ◌==◌, ◌<◌, ◌*◌, ◌/◌, ◌%◌, ℕ, zero, suc, false, if◌then◌else◌, List, [], ◌∷◌, length, map, drop, All, Some, slice_get, slice_index, refl, ap, ap₂, sym, subst, ◌∙◌, arith}
use Rattle.std.proofs.Math.Nat.{mul-div_cancel, zero-mod}
use Rattle.std.proofs.lemmas.Nat.{mul-mod_first}
use Rattle.std.proofs.lemmas.List.Elements.{All-head, All-tail}
use Rattle.std.proofs.lemmas.List.FromFn.{length-map-range_with_len}
use Rattle.nc_write.specs.declared.NcKind.{NcKind}
use Rattle.nc_write.specs.declared.NcKind.TheVariants as kinds
use Rattle.nc_write.specs.Kinds.{size_of}
use Rattle.nc_write.specs.Extents.{lens_of, product_of, has_records, piece_count, piece_len}
use Rattle.nc_format.specs.declared.NcVar.{NcVar}
use Rattle.nc_format.specs.declared.NcFile.{NcFile}
use Rattle.nc_format.specs.Placing.{is_record_var, var_piece_len, part_of, IsPlaced}
use Rattle.nc_format.specs.Header.{IsHeader}
use Rattle.nc_format.specs.Numbers.{number_in, numbers_in, HasPieces, HasWholePieces, gathered}
use Rattle.nc_format.proofs.Pieces.{gathered_len, header_has_pieces, header_is_placed}
use Rattle.exodus_mesh.specs.declared.kinds.NumberKind.{NumberKind}
use Rattle.exodus_mesh.specs.declared.vars.CoordVars.{CoordVars}
use Rattle.exodus_mesh.specs.declared.vars.CoordVars.TheVariants.{Whole, Split}
use Rattle.exodus_mesh.specs.declared.vars.BlockVar.{BlockVar}
use Rattle.exodus_mesh.specs.MeshValues.{coord_lens, row_lens}
use Rattle.exodus_mesh.specs.MeshIn.{numbers_of_var, values_in, coords_in, rows_in}
use Rattle.exodus_mesh.specs.VarLens.{IsNumberVar}
use Rattle.exodus_mesh.specs.Found.{AreCoordVars, IsBlockVar}
use Rattle.exodus_mesh.proofs.NumberVars.{not_zero}

-- what holds of all items holds of the one at a place
pub got : {A : Type 0} (P : A → Type 0) (xs : List A) (k : ℕ) (x : A) → All P xs → slice_get xs k ≡ Some x → P x
got P [] k x all h = absurd cc
got P (y ∷ ys) zero x all h = let same : y ≡ x = cc in subst P same (All-head P y ys all)
got P (y ∷ ys) (suc k) x all h = got P ys k x (All-tail P y ys all) h

-- the product of some lengths
pub product : List ℕ → ℕ
product [] = 1
product (n ∷ ns) = n * product ns

some_bytes : (kind : NcKind) → 0 < size_of kind
some_bytes kinds.Byte = omega arith
some_bytes kinds.Char = omega arith
some_bytes kinds.Short = omega arith
some_bytes kinds.Int = omega arith
some_bytes kinds.Float = omega arith
some_bytes kinds.Double = omega arith
some_bytes kinds.UByte = omega arith
some_bytes kinds.UShort = omega arith
some_bytes kinds.UInt = omega arith
some_bytes kinds.Int64 = omega arith
some_bytes kinds.UInt64 = omega arith

product_is : (lens ids : List ℕ) → product_of lens ids ≡ product (map (slice_index lens) ids)
unfolding product_of product
product_is lens [] = refl
product_is lens (id ∷ ids) = ap (λ n. slice_index lens id * n) (product_is lens ids)

-- no dimension is the record dimension: there is one piece, of all values
fixed_ids : (lens ids : List ℕ) → All (λ n. n ≢ 0) (map (slice_index lens) ids) → (has_records lens ids ≡ false) × (piece_count lens ids ≡ product (map (slice_index lens) ids))
unfolding has_records piece_count product
fixed_ids lens [] h = (refl, refl)
fixed_ids lens (id ∷ ids) h =
    let some : (slice_index lens id == 0) ≡ false = not_zero (slice_index lens id) (All-head (λ n. n ≢ 0) (slice_index lens id) (map (slice_index lens) ids) h) in
    (some, ap (λ b. if b then product_of lens ids else product_of lens (id ∷ ids)) some ∙ product_is lens (id ∷ ids))

numbers_len : (kind : NcKind) (bytes : List ℕ) (count : ℕ) → length bytes ≡ count * size_of kind → length (numbers_in kind bytes) ≡ count
unfolding numbers_in
numbers_len kind bytes count h =
    length-map-range_with_len (λ k. number_in kind (drop (k * size_of kind) bytes)) 0 (length bytes / size_of kind)
    ∙ ap (λ n. n / size_of kind) h
    ∙ mul-div_cancel count (some_bytes kind)

pub bytes_len : (v : NcVar) (file : List ℕ) → HasPieces (length file) v → length (gathered v file) ≡ v.parts * v.part
unfolding gathered
bytes_len v file h = gathered_len v file v.parts h (omega arith)

part_is : (f : NcFile) (v : NcVar) → IsPlaced f v → is_record_var f.dims v ≡ false → (v.parts ≡ 1) × (v.part ≡ size_of v.kind * piece_count (lens_of f.dims) v.dims)
unfolding piece_len
part_is f v h fixed =
    let one : v.parts ≡ 1 = h.parts ∙ ap (λ b. if b then f.records else 1) fixed in
    (one, h.part ∙ ap (λ n. part_of n (var_piece_len f.dims v)) one)

-- a variable without the record dimension has as many numbers as the product of its lengths says
pub values_len : {kind : NumberKind} (bytes : List ℕ) (file : NcFile) (lens : List ℕ) (place : ℕ) → IsHeader bytes (length bytes) file → IsNumberVar kind file lens place → length (values_in file bytes place) ≡ product lens
values_len bytes file lens place h i =
    let v = i.var in
    let pieces = got (HasWholePieces (length bytes)) file.vars place v (header_has_pieces bytes (length bytes) file h) i.there in
    let placed = got (IsPlaced file) file.vars place v (header_is_placed bytes (length bytes) file h) i.there in
    let ids = fixed_ids (lens_of file.dims) v.dims (subst (λ (l : List ℕ). All (λ n. n ≢ 0) l) (sym i.shape) i.fixed) in
    let one = part_is file v placed ids.0 in
    let count : piece_count (lens_of file.dims) v.dims ≡ product lens = ids.1 ∙ ap (λ l. product l) i.shape in
    let long : length (gathered v bytes) ≡ product lens * size_of v.kind = bytes_len v bytes pieces.inside ∙ ap₂ (λ (a b : ℕ). a * b) one.0 (one.1 ∙ ap (λ n. size_of v.kind * n) count) ∙ omega arith in
    ap (λ o. length (numbers_of_var bytes o)) i.there ∙ numbers_len v.kind (gathered v bytes) (product lens) long

one_factor : (n : ℕ) → product (n ∷ []) ≡ n
unfolding product
one_factor n = omega arith

two_factors : (n m : ℕ) → product (n ∷ m ∷ []) ≡ n * m
unfolding product
two_factors n m = ap (λ k. n * k) (omega arith)

-- a variable of one dimension, and of two
pub len_values : {kind : NumberKind} (bytes : List ℕ) (file : NcFile) (n place : ℕ) → IsHeader bytes (length bytes) file → IsNumberVar kind file (n ∷ []) place → length (values_in file bytes place) ≡ n
len_values bytes file n place h i = values_len bytes file (n ∷ []) place h i ∙ one_factor n

pub lens_values : {kind : NumberKind} (bytes : List ℕ) (file : NcFile) (n m place : ℕ) → IsHeader bytes (length bytes) file → IsNumberVar kind file (n ∷ m ∷ []) place → length (values_in file bytes place) ≡ n * m
lens_values bytes file n m place h i = values_len bytes file (n ∷ m ∷ []) place h i ∙ two_factors n m

pub coords_len : (bytes : List ℕ) (file : NcFile) (nodes : ℕ) (coord : CoordVars) → IsHeader bytes (length bytes) file → AreCoordVars file nodes coord → map length (coords_in file bytes coord) ≡ coord_lens coord nodes
coords_len bytes file nodes (Whole c) h i = ap (λ n. n ∷ []) (lens_values bytes file 3 nodes c h i)
coords_len bytes file nodes (Split x y z) h i =
    ap₂ (λ n l. n ∷ l) (len_values bytes file nodes x h i.0) (ap₂ (λ n l. n ∷ l) (len_values bytes file nodes y h i.1) (ap (λ n. n ∷ []) (len_values bytes file nodes z h i.2)))

pub rows_len : (bytes : List ℕ) (file : NcFile) (blocks : List BlockVar) → IsHeader bytes (length bytes) file → All (IsBlockVar file) blocks → map length (rows_in file bytes blocks) ≡ row_lens blocks
rows_len bytes file [] h all = refl
rows_len bytes file (b ∷ bs) h all =
    ap₂ (λ n l. n ∷ l) (lens_values bytes file b.faces b.width b.var h (All-head (IsBlockVar file) b bs all))
    (rows_len bytes file bs h (All-tail (IsBlockVar file) b bs all))

whole_times : (a b m : ℕ) → b % m ≡ 0 → (a * b) % m ≡ 0
whole_times a b m h =
    let turned : a * b ≡ b * a = omega arith in
    let none : 0 * a ≡ 0 = omega arith in
    ap (λ n. n % m) turned ∙ sym (mul-mod_first b a m) ∙ ap (λ r. (r * a) % m) h ∙ ap (λ n. n % m) none ∙ zero-mod m

-- the bytes of a variable are those of whole values
pub whole_bytes : (bytes : List ℕ) (file : NcFile) (place : ℕ) (v : NcVar) → IsHeader bytes (length bytes) file → slice_get file.vars place ≡ Some v → length (gathered v bytes) % size_of v.kind ≡ 0
whole_bytes bytes file place v h there =
    let pieces = got (HasWholePieces (length bytes)) file.vars place v (header_has_pieces bytes (length bytes) file h) there in
    ap (λ n. n % size_of v.kind) (bytes_len v bytes pieces.inside) ∙ whole_times v.parts v.part (size_of v.kind) pieces.whole

pub has_pieces : (bytes : List ℕ) (file : NcFile) (place : ℕ) (v : NcVar) → IsHeader bytes (length bytes) file → slice_get file.vars place ≡ Some v → HasPieces (length bytes) v
has_pieces bytes file place v h there = (got (HasWholePieces (length bytes)) file.vars place v (header_has_pieces bytes (length bytes) file h) there).inside
