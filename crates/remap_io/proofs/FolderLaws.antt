-- What a folder holds at a name.
use Rattle.std.proofs.Common.{◌≡◌, ◌≢◌, ℕ, List, Bool, true, false, cond, Some, None, refl, sym, ap, ◌∙◌}
use Rattle.std.specs.Ordering.{nat_cmp, eq_by_cmp}
use Rattle.std.specs.Cmp.Lexicographic.{slice_cmp, nat_list_cmp_total}
use Rattle.std.specs.FinMap.{empty, get-empty, get-insert, same_map}
use Rattle.std.proofs.lemmas.Map.Lookups.{exact_bytes}
use Rattle.remap_io.proofs.Folders.{tied, other_name}
use Rattle.remap_io.specs.Folder.{Folder, file_at, with_file}

-- an empty folder holds no name
pub file_at-empty : (name : List ℕ) → file_at empty name ≡ None
file_at-empty name = get-empty (slice_cmp nat_cmp) name

-- the name that was set
pub file_at-same : (m : Folder) (name bytes : List ℕ) → file_at (with_file m name bytes) name ≡ Some bytes
file_at-same m name bytes = get-insert nat_list_cmp_total m name bytes name ∙ ap (λ b. cond b (Some bytes) (file_at m name)) (tied name)

-- every other name
pub file_at-other : (m : Folder) (name bytes other : List ℕ) → other ≢ name → file_at (with_file m name bytes) other ≡ file_at m other
file_at-other m name bytes other ne = get-insert nat_list_cmp_total m name bytes other ∙ ap (λ b. cond b (Some bytes) (file_at m other)) (other_name other name ne)

-- two folders that hold the same at each name are one
pub same_folder : (m n : Folder) → ((name : List ℕ) → file_at m name ≡ file_at n name) → m ≡ n
same_folder m n alike = same_map nat_list_cmp_total exact_bytes m n alike

over : {A : Type 0} (b : Bool) (x y z : A) → cond b x (cond b y z) ≡ cond b x z
over true x y z = refl
over false x y z = refl

-- the later of two files of one name stands
pub with_file-with_file : (m : Folder) (name first second : List ℕ) → with_file (with_file m name first) name second ≡ with_file m name second
with_file-with_file m name first second =
    same_folder _ _ (λ q.
    get-insert nat_list_cmp_total (with_file m name first) name second q
    ∙ ap (cond (eq_by_cmp (slice_cmp nat_cmp) q name) (Some second)) (get-insert nat_list_cmp_total m name first q)
    ∙ over (eq_by_cmp (slice_cmp nat_cmp) q name) (Some second) (Some first) (file_at m q)
    ∙ sym (get-insert nat_list_cmp_total m name second q))
