-- The numbers of the variables of an overlap, as they were loaded.
use Rattle.std.proofs.Common.{◌≡◌, ℕ, ℤ, true, List, [], ◌∷◌, map, All, length, Option, IsSomeAnd, slice_get, refl, sym, ap, ap₂, subst, ◌∙◌}
use Rattle.std.proofs.lemmas.List.Elements.{All-nil, All-cons, All-head, All-tail}
use Rattle.nc_format.specs.declared.NcFile.{NcFile}
use Rattle.nc_format.specs.declared.NcVar.{NcVar}
use Rattle.nc_format.specs.Header.{IsHeader}
use Rattle.nc_format.specs.Numbers.{is_int, gathered}
use Rattle.exodus_mesh.specs.Found.{IsSomeIntVar}
use Rattle.exodus_mesh.specs.MeshIn.{values_in}
use Rattle.exodus_mesh.proofs.VarValues.{bytes_len, has_pieces}
use Rattle.remap_io.specs.Folder.{Folder, OnFile}
use Rattle.remap_files.specs.declared.vars.OverlapVars.{OverlapVars}
use Rattle.remap_files.specs.OverlapIn.{lists_in}
use Rattle.remap_files.specs.OverlapRows.{overlap_lens}
use Rattle.remap_files.proofs.FoundOverlap.{AreOverlapVars}
use Rattle.remap_load.specs.Pieces.{numbers_of, numbers_at, count_of, count_at}
use Rattle.remap_load.proofs.Costs.{numbers_len}
use Rattle.remap_load.proofs.Fronts.{on_this_file}

-- a variable of a type of whole numbers stands at the place
abbrev HasInts : NcFile → ℕ → Type 0
HasInts file place = IsSomeAnd (slice_get file.vars place) (λ v. is_int v.kind ≡ true)

has_ints : (file : NcFile) (place : ℕ) → IsSomeIntVar file place → HasInts file place
has_ints file place i = subst (λ (o : Option NcVar). IsSomeAnd o (λ v. is_int v.kind ≡ true)) (sym (i.1).there) (i.1).whole

pub all_ints : (file : NcFile) (places : List ℕ) → All (IsSomeIntVar file) places → All (HasInts file) places
all_ints file [] all = All-nil (HasInts file)
all_ints file (p ∷ ps) all = All-cons (HasInts file) p ps (has_ints file p (All-head (IsSomeIntVar file) p ps all)) (all_ints file ps (All-tail (IsSomeIntVar file) p ps all))

same_lists : (lists : List (List ℤ)) → map (λ (l : List ℤ). l) lists ≡ lists
same_lists [] = refl
same_lists (l ∷ ls) = ap (λ (r : List (List ℤ)). l ∷ r) (same_lists ls)

lists_at : (file : NcFile) (bytes : List ℕ) (places : List ℕ) → map (numbers_at file bytes) places ≡ lists_in file bytes places
lists_at file bytes [] = refl
lists_at file bytes (p ∷ ps) = ap (λ (r : List (List ℤ)). values_in file bytes p ∷ r) (lists_at file bytes ps)

-- the lists are those of the variables at these places
abbrev AreAt : NcFile → List ℕ → List (List ℤ) → List ℕ → Type 0
AreAt file places lists bytes = map (λ (l : List ℤ). l) lists ≡ map (numbers_at file bytes) places

pub lists_are : (file : NcFile) (folder : Option Folder) (name : List ℕ) (places wanted : List ℕ) (lists : List (List ℤ)) → places ≡ wanted → OnFile folder name (AreAt file places lists) → OnFile folder name (λ bytes. lists ≡ lists_in file bytes wanted)
lists_are file folder name places wanted lists same h =
    on_this_file folder name (AreAt file places lists) (λ bytes. lists ≡ lists_in file bytes wanted)
    (λ bytes k. sym (same_lists lists) ∙ k ∙ lists_at file bytes places ∙ ap (lists_in file bytes) same) h

-- Each list has as many numbers as its variable has values.

count_is : (file : NcFile) (bytes : List ℕ) (place : ℕ) → IsSomeIntVar file place → IsHeader bytes (length bytes) file → count_at file place ≡ length (values_in file bytes place)
count_is file bytes place i h =
    let var = (i.1).var in
    ap count_of (i.1).there ∙ sym (numbers_len var (gathered var bytes) (bytes_len var bytes (has_pieces bytes file place var h (i.1).there))) ∙ ap (λ (o : Option NcVar). length (numbers_of bytes o)) (sym (i.1).there)

pub counts_are : (file : NcFile) (bytes : List ℕ) (places : List ℕ) → All (IsSomeIntVar file) places → IsHeader bytes (length bytes) file → map (count_at file) places ≡ map length (lists_in file bytes places)
counts_are file bytes [] all h = refl
counts_are file bytes (p ∷ ps) all h =
    ap₂ (λ (n : ℕ) (l : List ℕ). n ∷ l) (count_is file bytes p (All-head (IsSomeIntVar file) p ps all) h) (counts_are file bytes ps (All-tail (IsSomeIntVar file) p ps all) h)

pub lens_are : (file : NcFile) (bytes : List ℕ) (vars : OverlapVars) (places : List ℕ) (lists : List (List ℤ)) → IsHeader bytes (length bytes) file → AreOverlapVars file vars → places ≡ vars.vars → map (λ (l : List ℤ). length l) lists ≡ map (count_at file) places
    → map length lists ≡ overlap_lens vars
lens_are file bytes vars places lists h are same long =
    long ∙ ap (map (count_at file)) same ∙ counts_are file bytes vars.vars are.vars h ∙ are.lens bytes h
