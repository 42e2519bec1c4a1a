-- Files in a list, where the first of a name counts.
use Rattle.std.proofs.Common.{◌≡◌, ◌≢◌, ◌<◌, ◌+◌, ℕ, zero, suc, List, [], ◌∷◌, ◌++◌, map, length, get_or, set, drop, drop-cons, add-one, Bool, true, false, cond, Some, None, string_bytes, refl, sym, ap, ◌∙◌, arith}
use Rattle.std.specs.Ordering.{nat_cmp, eq_by_cmp, is_eq}
use Rattle.std.specs.declared.cmp.Ordering.{Ordering}
use Rattle.std.specs.declared.cmp.Ordering.TheVariants.{Less, Equal, Greater}
use Rattle.std.specs.Cmp.Lexicographic.{slice_cmp, nat_list_cmp_total}
use Rattle.std.specs.Cmp.{tied_itself}
use Rattle.std.specs.Str.{bytes_eq}
use Rattle.std.proofs.lemmas.Slice.Eq.{bytes_eq-Decides}
use Rattle.std.specs.List.{AllWithin}
use Rattle.std.specs.FinMap.{find, from_entries, from_entries_push, get-from_entries, get-insert, same_map}
use Rattle.std.proofs.lemmas.Map.Lookups.{exact_bytes}
use Rattle.remap_io.specs.Folder.{with_file}
use Rattle.remap_io.specs.Store.{entry_of, folder_of}
use Rattle.remap_io.specs.declared.store.MemFile.{MemFile}

abbrev names : List ℕ → List ℕ → Ordering
names = slice_cmp nat_cmp

equal : (r : Ordering) → is_eq r ≡ true → r ≡ Equal
equal Less p = cc
equal Equal p = refl
equal Greater p = cc

same_name : (a b : List ℕ) → eq_by_cmp names a b ≡ true → a ≡ b
same_name a b h = exact_bytes a b (equal _ h)

pub tied : (a : List ℕ) → eq_by_cmp names a a ≡ true
tied a = ap is_eq (tied_itself nat_list_cmp_total a)

pub other_name : (a b : List ℕ) → a ≢ b → eq_by_cmp names a b ≡ false
other_name a b ne = elim (eq_by_cmp names a b) as (λ t. eq_by_cmp names a b ≡ t → t ≡ false) [ true ↦ λ h. absurd (ne (same_name a b h)) | false ↦ λ h. refl ] refl

-- an entry of another name is passed over
pub find_skip : (q k v : List ℕ) (es : List (List ℕ × List ℕ)) → k ≢ q → find names q ((k, v) ∷ es) ≡ find names q es
find_skip q k v es ne = ap (λ b. cond b (Some v) (find names q es)) (other_name q k (λ e. ne (sym e)))

-- one of the name is taken
pub find_hit : (q k v : List ℕ) (es : List (List ℕ × List ℕ)) → k ≡ q → find names q ((k, v) ∷ es) ≡ Some v
find_hit q k v es e = ap (λ b. cond b (Some v) (find names q es)) (ap (eq_by_cmp names q) e ∙ tied q)

shadowed : {A : Type 0} (b : Bool) (x y z : A) → cond b x z ≡ cond b x (cond b y z)
shadowed true x y z = refl
shadowed false x y z = refl

swapped : {A : Type 0} (a b : Bool) (x y z : A) → (a ≡ true → b ≡ false) → cond a x (cond b y z) ≡ cond b y (cond a x z)
swapped true true x y z apart = cc (apart refl)
swapped true false x y z apart = refl
swapped false b x y z apart = refl

abbrev pub named_otherwise : List ℕ → MemFile → Type 0
named_otherwise name file = string_bytes file.name ≢ name

pub find_none : (name : List ℕ) (files : List MemFile) → AllWithin (named_otherwise name) files 0 (length files) → find names name (map entry_of files) ≡ None
find_none name [] h = refl
find_none name (file ∷ files) h = find_skip name _ _ _ (h 0 file (omega arith) (omega arith)) ∙ find_none name files (λ k d low high. h (suc k) d (omega arith) (omega arith))

pub find_set : (q name : List ℕ) (files : List MemFile) (i : ℕ) (file d : MemFile) → i < length files → AllWithin (named_otherwise name) files 0 i → string_bytes (get_or files i d).name ≡ name → string_bytes file.name ≡ name → find names q (map entry_of (set files i file)) ≡ cond (eq_by_cmp names q name) (Some file.bytes.items) (find names q (map entry_of files))
find_set q name [] i file d lt others here same = absurd (omega arith)
find_set q name (f ∷ fs) zero file d lt others here same =
    ap (λ n. cond (eq_by_cmp names q n) (Some file.bytes.items) (find names q (map entry_of fs))) same
    ∙ shadowed (eq_by_cmp names q name) _ _ _
    ∙ ap (λ n. cond (eq_by_cmp names q name) (Some file.bytes.items) (cond (eq_by_cmp names q n) (Some f.bytes.items) (find names q (map entry_of fs)))) (sym here)
find_set q name (f ∷ fs) (suc i) file d lt others here same =
    ap (cond (eq_by_cmp names q (string_bytes f.name)) (Some f.bytes.items)) (find_set q name fs i file d (omega arith) (λ k e low high. others (suc k) e (omega arith) (omega arith)) here same)
    ∙ sym (swapped (eq_by_cmp names q name) (eq_by_cmp names q (string_bytes f.name)) _ _ _ (λ h. other_name q _ (λ e. others 0 d (omega arith) (omega arith) (sym e ∙ same_name q name h))))

-- the first file of a name gets other bytes
pub folder-set : (name : List ℕ) (files : List MemFile) (i : ℕ) (file d : MemFile) → i < length files → AllWithin (named_otherwise name) files 0 i → string_bytes (get_or files i d).name ≡ name → string_bytes file.name ≡ name → folder_of (set files i file) ≡ with_file (folder_of files) name file.bytes.items
folder-set name files i file d lt others here same =
    same_map nat_list_cmp_total exact_bytes _ _ (λ q.
    get-from_entries nat_list_cmp_total _ q
    ∙ find_set q name files i file d lt others here same
    ∙ sym (get-insert nat_list_cmp_total _ name file.bytes.items q ∙ ap (cond (eq_by_cmp names q name) (Some file.bytes.items)) (get-from_entries nat_list_cmp_total (map entry_of files) q)))

map_push : (files : List MemFile) (file : MemFile) → map entry_of (files ++ file ∷ []) ≡ map entry_of files ++ entry_of file ∷ []
map_push [] file = refl
map_push (f ∷ fs) file = ap (λ es. entry_of f ∷ es) (map_push fs file)

-- a file of a new name
pub folder-push : (name : List ℕ) (files : List MemFile) (file : MemFile) → AllWithin (named_otherwise name) files 0 (length files) → string_bytes file.name ≡ name → folder_of (files ++ file ∷ []) ≡ with_file (folder_of files) name file.bytes.items
folder-push name files file others same =
    ap (from_entries {R = names}) (map_push files file)
    ∙ ap (λ n. from_entries {R = names} (map entry_of files ++ (n, file.bytes.items) ∷ [])) same
    ∙ from_entries_push nat_list_cmp_total exact_bytes (map entry_of files) name file.bytes.items (find_none name files others)

-- what a test of two texts says
pub same_text : (a b : List ℕ) (r : Bool) → r ≡ bytes_eq a b → r ≡ true → a ≡ b
same_text a b r e h = (bytes_eq-Decides a b).0 (sym e ∙ h)

pub other_text : (a b : List ℕ) (r : Bool) → r ≡ bytes_eq a b → r ≡ false → a ≢ b
other_text a b r e h same = let t = (bytes_eq-Decides a b).1 same in cc

-- the file at an index is the first of what is left
at_front : (files : List MemFile) (i : ℕ) (file : MemFile) → i < length files → file ≡ get_or files i file → map entry_of (drop i files) ≡ entry_of file ∷ map entry_of (drop (i + 1) files)
at_front files i file lt is =
    ap (map entry_of) (drop-cons files i file lt ∙ ap (λ f. f ∷ drop (suc i) files) (sym is))
    ∙ ap (λ n. entry_of file ∷ map entry_of (drop n files)) (sym (add-one i))

pub left_hit : (name : List ℕ) (files : List MemFile) (i : ℕ) (file : MemFile) → i < length files → file ≡ get_or files i file → string_bytes file.name ≡ name → find names name (map entry_of (drop i files)) ≡ Some file.bytes.items
left_hit name files i file lt is same = ap (find names name) (at_front files i file lt is) ∙ find_hit name _ _ _ same

pub left_skip : (name : List ℕ) (files : List MemFile) (i : ℕ) (file : MemFile) → i < length files → file ≡ get_or files i file → string_bytes file.name ≢ name → find names name (map entry_of (drop i files)) ≡ find names name (map entry_of (drop (i + 1) files))
left_skip name files i file lt is other = ap (find names name) (at_front files i file lt is) ∙ find_skip name _ _ _ other
