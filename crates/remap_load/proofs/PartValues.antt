-- The numbers of a part of the bytes are that part of the numbers.
use Rattle.std.proofs.Common.{◌≡◌, ◌∙◌, ℕ, zero, suc, ◌+◌, ◌-◌, ◌*◌, ◌/◌, ◌^◌, ◌<◌, ◌≤◌, ℤ, pos, List, [], ◌++◌, length, map, take, drop, slice_range, refl, ap, ap₂, sym, arith}
use Rattle.std.specs.List.{flat_map, range_with_len}
use Rattle.std.specs.Int.{cast_signed}
use Rattle.std.proofs.Math.Nat.{add-mul, suc-mul, mul-le-mul_right, mul-div_cancel, le-div_iff_mul-le}
use Rattle.std.proofs.lemmas.List.{append-nil, length-drop, length-take-le, get_or-take, get_or-drop, drop-drop, drop-take, take-take}
use Rattle.std.proofs.lemmas.List.Concat.{flat_map-cons}
use Rattle.std.proofs.lemmas.List.FromFn.{length-map-range_with_len, get_or-map-range_with_len, fill_by_all}
use Rattle.byteorder.specs.Endian.{big_from}
use Rattle.nc_write.specs.declared.NcKind.{NcKind}
use Rattle.nc_write.specs.Kinds.{size_of, bits_of}
use Rattle.nc_write.specs.declared.NcKind.TheVariants as kinds
use Rattle.nc_format.specs.declared.NcVar.{NcVar}
use Rattle.nc_format.specs.Numbers.{number_in, numbers_in, piece_of, gathered, HasPieces}
use Rattle.remap_load.specs.Pieces.{value_count}

-- a number depends on its own bytes alone
big_front : (i n m : ℕ) (xs : List ℕ) → i + n ≤ m → big_from i n (take m xs) ≡ big_from i n xs
big_front i zero m xs le = refl
big_front i (suc n) m xs le =
    ap₂ (λ (a b : ℕ). a * 256 ^ n + b) (get_or-take m xs i 0 (omega arith)) (big_front (suc i) n m xs (omega arith))

number_of_front : (kind : NcKind) (m : ℕ) (bytes : List ℕ) → size_of kind ≤ m → number_in kind (take m bytes) ≡ number_in kind bytes
unfolding number_in
number_of_front kind m bytes le = ap (cast_signed (bits_of kind)) (big_front 0 (size_of kind) m bytes (omega arith))

-- number k of a part is a number of the whole
number_of_part : (kind : NcKind) (bytes : List ℕ) (f c k : ℕ) → k < c
    → number_in kind (drop (k * size_of kind) (slice_range bytes (f * size_of kind) (f * size_of kind + c * size_of kind))) ≡ number_in kind (drop ((f + k) * size_of kind) bytes)
number_of_part kind bytes f c k lt =
    let s = size_of kind in
    let room : suc k * s ≤ c * s = mul-le-mul_right s (omega arith) in
    let left = c * s - k * s in
    let long : f * s + c * s - f * s ≡ k * s + left = omega (arith, room, suc-mul k s) in
    ap (λ (n : ℕ). number_in kind (drop (k * s) (take n (drop (f * s) bytes)))) long
    ∙ ap (number_in kind) (drop-take (k * s) left (drop (f * s) bytes))
    ∙ number_of_front kind left (drop (k * s) (drop (f * s) bytes)) (omega (arith, room, suc-mul k s))
    ∙ ap (number_in kind) (drop-drop (k * s) (f * s) bytes)
    ∙ ap (λ (n : ℕ). number_in kind (drop n bytes)) (sym (add-mul f k s))

some_size : (kind : NcKind) → 0 < size_of kind
some_size kinds.Byte = omega arith
some_size kinds.Char = omega arith
some_size kinds.Short = omega arith
some_size kinds.Int = omega arith
some_size kinds.Float = omega arith
some_size kinds.Double = omega arith
some_size kinds.UByte = omega arith
some_size kinds.UShort = omega arith
some_size kinds.UInt = omega arith
some_size kinds.Int64 = omega arith
some_size kinds.UInt64 = omega arith

numbers_of_part : (kind : NcKind) (bytes : List ℕ) (f c : ℕ) → (f + c) * size_of kind ≤ length bytes
    → numbers_in kind (slice_range bytes (f * size_of kind) (f * size_of kind + c * size_of kind)) ≡ slice_range (numbers_in kind bytes) f (f + c)
unfolding numbers_in
numbers_of_part kind bytes f c within =
    let s = size_of kind in
    let part = slice_range bytes (f * s) (f * s + c * s) in
    let n = length bytes / s in
    let h : ℕ → ℤ = λ k. number_in kind (drop (k * s) bytes) in
    let all = map h (range_with_len 0 n) in
    let whole : length all ≡ n = length-map-range_with_len h 0 n in
    let few : f + c ≤ n = (le-div_iff_mul-le (some_size kind)).1 within in
    let long : length part ≡ c * s = length-take-le (f * s + c * s - f * s) (drop (f * s) bytes) (omega (arith, length-drop (f * s) bytes, add-mul f c s, within)) ∙ omega arith in
    let many : length part / s ≡ c = ap (λ (k : ℕ). k / s) long ∙ mul-div_cancel c (some_size kind) in
    let size : length (slice_range all f (f + c)) ≡ c = length-take-le (f + c - f) (drop f all) (omega (arith, length-drop f all, whole, few)) ∙ omega arith in
    ap (λ (q : ℕ). map (λ (k : ℕ). number_in kind (drop (k * s) part)) (range_with_len 0 q)) many
    ∙ sym (fill_by_all (λ (k : ℕ). number_in kind (drop (k * s) part)) (slice_range all f (f + c)) c (pos 0) size (λ k lt.
    get_or-take (f + c - f) (drop f all) k (pos 0) (omega arith)
    ∙ get_or-drop f all k (pos 0)
    ∙ get_or-map-range_with_len h 0 n (f + k) (f + k) (pos 0) (omega (arith, lt, few)) (omega arith)
    ∙ sym (number_of_part kind bytes f c k lt)))

-- a variable in one piece is that piece
gathered_whole : (v : NcVar) (file : List ℕ) → v.parts ≡ 1 → gathered v file ≡ slice_range file v.begin (v.begin + v.part)
unfolding gathered
gathered_whole v file one =
    let first : v.begin + 0 * v.step ≡ v.begin = omega arith in
    ap (λ (n : ℕ). flat_map (piece_of v file) (range_with_len 0 n)) one
    ∙ flat_map-cons (piece_of v file) 0 []
    ∙ append-nil (piece_of v file 0)
    ∙ ap (λ (at : ℕ). slice_range file at (at + v.part)) first

slice_of_slice : (file : List ℕ) (b p i j : ℕ) → i ≤ j → j ≤ p → slice_range (slice_range file b (b + p)) i j ≡ slice_range file (b + i) (b + j)
slice_of_slice file b p i j le within =
    let left = p - i in
    let long : b + p - b ≡ i + left = omega arith in
    let few : j - i ≡ b + j - (b + i) = omega arith in
    ap (λ (n : ℕ). take (j - i) (drop i (take n (drop b file)))) long
    ∙ ap (take (j - i)) (drop-take i left (drop b file))
    ∙ take-take (j - i) left (drop i (drop b file)) (omega arith)
    ∙ ap₂ (λ (n : ℕ) (xs : List ℕ). take n xs) few (drop-drop i b file)

-- as many bytes as the values of the part have are there
pub part_within : (v : NcVar) (f c : ℕ) → v.parts ≡ 1 → f + c ≤ v.parts * v.part / size_of v.kind → (f + c) * size_of v.kind ≤ v.part
part_within v f c one le =
    let whole : v.parts * v.part ≡ v.part = ap (λ (n : ℕ). n * v.part) one ∙ omega arith in
    omega (arith, whole, (le-div_iff_mul-le (some_size v.kind)).0 le)

-- the values of a part of a variable in one piece
pub part_numbers : (v : NcVar) (file : List ℕ) (f c : ℕ) → v.parts ≡ 1 → (f + c) * size_of v.kind ≤ v.part → v.begin + v.part ≤ length file
    → numbers_in v.kind (slice_range file (v.begin + f * size_of v.kind) (v.begin + f * size_of v.kind + c * size_of v.kind)) ≡ slice_range (numbers_in v.kind (gathered v file)) f (f + c)
part_numbers v file f c one within there =
    let s = size_of v.kind in
    let whole = gathered_whole v file one in
    let piece = slice_range file v.begin (v.begin + v.part) in
    let end : v.begin + f * s + c * s ≡ v.begin + (f * s + c * s) = omega arith in
    let long : length piece ≡ v.part = length-take-le (v.begin + v.part - v.begin) (drop v.begin file) (omega (arith, length-drop v.begin file)) ∙ omega arith in
    ap (λ (k : ℕ). numbers_in v.kind (slice_range file (v.begin + f * s) k)) end
    ∙ ap (numbers_in v.kind) (sym (slice_of_slice file v.begin v.part (f * s) (f * s + c * s) (omega arith) (omega (arith, within, add-mul f c s))))
    ∙ numbers_of_part v.kind piece f c (omega (arith, long, within))
    ∙ ap (λ (bytes : List ℕ). slice_range (numbers_in v.kind bytes) f (f + c)) (sym whole)

pub length_part : (v : NcVar) (c : ℕ) (bytes : List ℕ) → length bytes ≡ c * size_of v.kind → length (numbers_in v.kind bytes) ≡ c
unfolding numbers_in
length_part v c bytes long =
    length-map-range_with_len (λ (k : ℕ). number_in v.kind (drop (k * size_of v.kind) bytes)) 0 (length bytes / size_of v.kind)
    ∙ ap (λ (n : ℕ). n / size_of v.kind) long
    ∙ mul-div_cancel c (some_size v.kind)

-- what was read behind nothing are the values of the part
pub part_read : (v : NcVar) (file : List ℕ) (f c size len : ℕ) (old new : List ℕ) → v.parts ≡ 1 → f + c ≤ value_count v → HasPieces len v → len ≡ length file → size ≡ size_of v.kind → old ≡ []
    → new ≡ old ++ slice_range file (v.begin + f * size) (v.begin + f * size + c * size) → numbers_in v.kind new ≡ slice_range (numbers_in v.kind (gathered v file)) f (f + c)
part_read v file f c size len old new one within pieces long wide none read =
    let there : v.begin + 0 * v.step + v.part ≤ len = pieces 0 (omega arith) in
    ap (numbers_in v.kind) (read ∙ ap₂ (λ (l : List ℕ) (s : ℕ). l ++ slice_range file (v.begin + f * s) (v.begin + f * s + c * s)) none wide)
    ∙ part_numbers v file f c one (part_within v f c one within) (omega arith)
