-- The numbers of the variables of a map, as they were loaded.
use Rattle.std.proofs.Common.{◌≡◌, ℕ, ℤ, true, ◌+◌, List, [], ◌∷◌, length, Option, IsSomeAnd, slice_index, sym, ap, subst, ◌∙◌, arith}
use Rattle.std.specs.List.{sum_by}
use Rattle.std.proofs.lemmas.List.Sums.{sum_by-cons}
use Rattle.nc_format.specs.declared.NcFile.{NcFile}
use Rattle.nc_format.specs.declared.NcVar.{NcVar}
use Rattle.nc_format.specs.Header.{IsHeader}
use Rattle.nc_format.specs.Numbers.{gathered}
use Rattle.exodus_mesh.specs.declared.kinds.NumberKind.{NumberKind}
use Rattle.exodus_mesh.specs.VarLens.{IsNumberVar, HasKind, is_of}
use Rattle.exodus_mesh.specs.MeshIn.{values_in}
use Rattle.exodus_mesh.proofs.VarValues.{bytes_len, has_pieces, len_values}
use Rattle.remap_io.specs.Folder.{Folder, OnFile}
use Rattle.remap_io.specs.Outside.{FilesSeen}
use Rattle.map_files.specs.declared.vars.MapVars.{MapVars}
use Rattle.remap_load.specs.declared.Head.{Head}
use Rattle.remap_load.specs.Heads.{IsHead}
use Rattle.remap_load.specs.Loading.{ReadsAtMost}
use Rattle.remap_load.specs.Pieces.{numbers_of, numbers_at, count_of, count_at, bytes_at}
use Rattle.remap_load.proofs.Costs.{numbers_len}
use Rattle.remap_load.proofs.Contents.{filled}
use Rattle.remap_load.proofs.Fronts.{on_file}
use Rattle.remap_load.proofs.Reading.{asks_on, asks_more}
use Rattle.map_load.specs.declared.values.MapNumbers.{MapNumbers}
use Rattle.map_load.specs.MapFile.{map_bytes}
use Rattle.map_load.specs.Numbers.{numbers_in}

-- a variable of a kind stands at the place
pub has_kind : (kind : NumberKind) (file : NcFile) (n place : ℕ) → IsNumberVar kind file (n ∷ []) place → HasKind kind file place
has_kind kind file n place i = subst (λ (o : Option NcVar). IsSomeAnd o (λ v. is_of kind v.kind ≡ true)) (sym i.there) i.whole

count_is : (kind : NumberKind) (file : NcFile) (bytes : List ℕ) (n place : ℕ) → IsNumberVar kind file (n ∷ []) place → IsHeader bytes (length bytes) file → count_at file place ≡ length (values_in file bytes place)
count_is kind file bytes n place i h =
    let var = i.var in
    ap count_of i.there ∙ sym (numbers_len var (gathered var bytes) (bytes_len var bytes (has_pieces bytes file place var h i.there))) ∙ ap (λ (o : Option NcVar). length (numbers_of bytes o)) (sym i.there)

-- it has as many numbers as it has values
pub count_of_head : (kind : NumberKind) (head : Head) (n place : ℕ) → IsHead head → IsNumberVar kind head.file (n ∷ []) place → count_at head.file place ≡ n
count_of_head kind head n place is i =
    let some = filled head is in
    count_is kind head.file some.0 n place i some.1 ∙ len_values some.0 head.file n place some.1 i

-- the bytes of five variables
five_bytes : (f : ℕ → ℕ) (l : List ℕ) → length l ≡ 5 → sum_by f l ≡ f (slice_index l 0) + f (slice_index l 1) + f (slice_index l 2) + f (slice_index l 3) + f (slice_index l 4)
five_bytes f (a ∷ b ∷ c ∷ d ∷ e ∷ []) h =
    omega (arith, sum_by-cons f a (b ∷ c ∷ d ∷ e ∷ []), sum_by-cons f b (c ∷ d ∷ e ∷ []), sum_by-cons f c (d ∷ e ∷ []), sum_by-cons f d (e ∷ []), sum_by-cons f e [])
five_bytes f l h = absurd (omega arith)

abbrev bytes_of : NcFile → MapVars → ℕ → ℕ
bytes_of file vars k = bytes_at file (slice_index vars.vars k)

two : (x y z : FilesSeen) (n k : ℕ) → ReadsAtMost x y n → ReadsAtMost y z k → ReadsAtMost x z (n + k)
two x y z n k h l = asks_on x y z n k (n + k) (omega arith) h l

-- what was read of the first variables is no more than all bytes of the five

pub first_reads : (file : NcFile) (vars : MapVars) (a b : FilesSeen) → length vars.vars ≡ 5 → ReadsAtMost a b (bytes_of file vars 0) → ReadsAtMost a b (map_bytes file vars)
first_reads file vars a b five h =
    let n = bytes_of file vars in
    asks_more a b (n 0) (map_bytes file vars) (omega (arith, five_bytes (bytes_at file) vars.vars five)) h

pub second_reads : (file : NcFile) (vars : MapVars) (a b c : FilesSeen) → length vars.vars ≡ 5 → ReadsAtMost a b (bytes_of file vars 0) → ReadsAtMost b c (bytes_of file vars 1) → ReadsAtMost a c (map_bytes file vars)
second_reads file vars a b c five h i =
    let n = bytes_of file vars in
    asks_more a c (n 0 + n 1) (map_bytes file vars) (omega (arith, five_bytes (bytes_at file) vars.vars five)) (two a b c (n 0) (n 1) h i)

pub third_reads : (file : NcFile) (vars : MapVars) (a b c d : FilesSeen) → length vars.vars ≡ 5 → ReadsAtMost a b (bytes_of file vars 0) → ReadsAtMost b c (bytes_of file vars 1) → ReadsAtMost c d (bytes_of file vars 2) → ReadsAtMost a d (map_bytes file vars)
third_reads file vars a b c d five h i j =
    let n = bytes_of file vars in
    asks_more a d (n 0 + n 1 + n 2) (map_bytes file vars) (omega (arith, five_bytes (bytes_at file) vars.vars five)) (two a c d (n 0 + n 1) (n 2) (two a b c (n 0) (n 1) h i) j)

pub fourth_reads : (file : NcFile) (vars : MapVars) (a b c d e : FilesSeen) → length vars.vars ≡ 5 → ReadsAtMost a b (bytes_of file vars 0) → ReadsAtMost b c (bytes_of file vars 1) → ReadsAtMost c d (bytes_of file vars 2) → ReadsAtMost d e (bytes_of file vars 3) → ReadsAtMost a e (map_bytes file vars)
fourth_reads file vars a b c d e five h i j k =
    let n = bytes_of file vars in
    asks_more a e (n 0 + n 1 + n 2 + n 3) (map_bytes file vars) (omega (arith, five_bytes (bytes_at file) vars.vars five)) (two a d e (n 0 + n 1 + n 2) (n 3) (two a c d (n 0 + n 1) (n 2) (two a b c (n 0) (n 1) h i) j) k)

pub all_reads : (file : NcFile) (vars : MapVars) (a b c d e f : FilesSeen) → length vars.vars ≡ 5 → ReadsAtMost a b (bytes_of file vars 0) → ReadsAtMost b c (bytes_of file vars 1) → ReadsAtMost c d (bytes_of file vars 2) → ReadsAtMost d e (bytes_of file vars 3) → ReadsAtMost e f (bytes_of file vars 4) → ReadsAtMost a f (map_bytes file vars)
all_reads file vars a b c d e f five h i j k l =
    let n = bytes_of file vars in
    asks_more a f (n 0 + n 1 + n 2 + n 3 + n 4) (map_bytes file vars) (omega (arith, five_bytes (bytes_at file) vars.vars five)) (two a e f (n 0 + n 1 + n 2 + n 3) (n 4) (two a d e (n 0 + n 1 + n 2) (n 3) (two a c d (n 0 + n 1) (n 2) (two a b c (n 0) (n 1) h i) j) k) l)

-- The numbers that were loaded are those of the file.

abbrev IsOf : NcFile → MapVars → ℕ → List ℤ → List ℕ → Type 0
IsOf file vars k numbers bytes = numbers ≡ numbers_at file bytes (slice_index vars.vars k)

abbrev AreOf : NcFile → MapVars → MapNumbers → List ℕ → Type 0
AreOf file vars n bytes = n ≡ numbers_in file bytes vars

unfoldable made : List ℤ → List ℤ → List ℤ → List ℤ → List ℤ → MapNumbers
made a b c d e = record { col = a; row = b; s = c; area_a = d; area_b = e }

all_of : (file : NcFile) (vars : MapVars) (n : MapNumbers) (bytes : List ℕ) → IsOf file vars 0 n.col bytes → IsOf file vars 1 n.row bytes → IsOf file vars 2 n.s bytes → IsOf file vars 3 n.area_a bytes → IsOf file vars 4 n.area_b bytes → AreOf file vars n bytes
unfolding made
all_of file vars n bytes h i j k l =
    let v = λ (at : ℕ). values_in file bytes (slice_index vars.vars at) in
    ap (λ x. made x n.row n.s n.area_a n.area_b) h ∙ ap (λ x. made (v 0) x n.s n.area_a n.area_b) i ∙ ap (λ x. made (v 0) (v 1) x n.area_a n.area_b) j ∙ ap (λ x. made (v 0) (v 1) (v 2) x n.area_b) k ∙ ap (λ x. made (v 0) (v 1) (v 2) (v 3) x) l

moved : (name : List ℕ) (f g : Option Folder) (P : List ℕ → Type 0) → g ≡ f → OnFile g name P → OnFile f name P
moved name f g P e h = subst (λ (m : Option Folder). OnFile m name P) e h

pub values_are : (file : NcFile) (vars : MapVars) (name : List ℕ) (n : MapNumbers) (f g h i j : Option Folder) → g ≡ f → h ≡ g → i ≡ h → j ≡ i → OnFile f name (IsOf file vars 0 n.col) → OnFile g name (IsOf file vars 1 n.row)
    → OnFile h name (IsOf file vars 2 n.s) → OnFile i name (IsOf file vars 3 n.area_a) → OnFile j name (IsOf file vars 4 n.area_b) → OnFile f name (AreOf file vars n)
values_are file vars name n f g h i j eg eh ei ej a b c d e =
    let P = λ (k : ℕ) (l : List ℤ). IsOf file vars k l in
    let b = moved name f g (P 1 n.row) eg b in
    let c = moved name f h (P 2 n.s) (eh ∙ eg) c in
    let d = moved name f i (P 3 n.area_a) (ei ∙ eh ∙ eg) d in
    let e = moved name f j (P 4 n.area_b) (ej ∙ ei ∙ eh ∙ eg) e in
    let ab = on_file f name (P 0 n.col) (P 1 n.row) (λ s. P 0 n.col s × P 1 n.row s) (λ s x y. (x, y)) a b in
    let cd = on_file f name (P 2 n.s) (P 3 n.area_a) (λ s. P 2 n.s s × P 3 n.area_a s) (λ s x y. (x, y)) c d in
    let cde = on_file f name (λ s. P 2 n.s s × P 3 n.area_a s) (P 4 n.area_b) (λ s. P 2 n.s s × P 3 n.area_a s × P 4 n.area_b s) (λ s x y. (x.0, x.1, y)) cd e in
    on_file f name (λ s. P 0 n.col s × P 1 n.row s) (λ s. P 2 n.s s × P 3 n.area_a s × P 4 n.area_b s) (AreOf file vars n) (λ s x y. all_of file vars n s x.0 x.1 y.0 y.1 y.2) ab cde
