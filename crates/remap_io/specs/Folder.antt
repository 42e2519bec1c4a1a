-- A folder as a value: the bytes of each name that is there.
use Rattle.std.specs.Prelude.{◌≡◌, ◌⊎◌, ℕ, List, take, Option, Some, None, IsSomeAnd, ⊤}
use Rattle.std.specs.Coded.{Coded, coded_list, coded_ℕ}
use Rattle.std.specs.Ordering.{nat_cmp}
use Rattle.std.specs.Cmp.Lexicographic.{slice_cmp}
use Rattle.std.specs.FinMap.{FinMap, get, insert, code}

-- a finite map from names to bytes, where names are in the order of their bytes
abbrev pub Folder : Type 0
Folder = FinMap (slice_cmp nat_cmp) (List ℕ)

-- by which a proof tells folders apart
abbrev pub folder_code : Coded Folder
folder_code = code (coded_list coded_ℕ) (coded_list coded_ℕ)

-- the bytes of a name, if it is there
abbrev pub file_at : Folder → List ℕ → Option (List ℕ)
file_at m name = get m name

-- the folder in which the name holds these bytes, and all else stands
abbrev pub with_file : Folder → List ℕ → List ℕ → Folder
with_file m name bytes = insert m name bytes

-- After a replacement that was refused: all is as it was, or the name holds a prefix of the bytes.
-- What isn't told stays untold.
abbrev pub IsPartlyReplaced : Option Folder → List ℕ → List ℕ → Option Folder → Type 0
IsPartlyReplaced None name bytes new = new ≡ None
IsPartlyReplaced (Some m) name bytes new = (new ≡ Some m) ⊎ ((n : ℕ) × (new ≡ Some (with_file m name (take n bytes))))

-- where the folder is told, it has the name, and this holds of the bytes there
abbrev pub OnFile : Option Folder → List ℕ → (List ℕ → Type 0) → Type 0
OnFile None name P = ⊤
OnFile (Some m) name P = IsSomeAnd (file_at m name) P

-- where the folder is told, it lacks the name
abbrev pub OnNoFile : Option Folder → List ℕ → Type 0
OnNoFile None name = ⊤
OnNoFile (Some m) name = file_at m name ≡ None

-- the folder is told, and the name holds these bytes
abbrev pub Holds : Option Folder → List ℕ → List ℕ → Type 0
Holds None name bytes = ⊥
Holds (Some m) name bytes = file_at m name ≡ Some bytes

-- the folder is told, and it lacks the name
abbrev pub Lacks : Option Folder → List ℕ → Type 0
Lacks None name = ⊥
Lacks (Some m) name = file_at m name ≡ None
