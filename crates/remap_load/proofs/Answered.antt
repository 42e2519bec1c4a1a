-- What is answered for a name, by what is answered at all; and how many bytes were asked for.
use Rattle.std.proofs.Common.{◌≡◌, inl, inr, ℕ, ◌+◌, ◌<◌, ◌≤◌, List, ◌++◌, length, drop, Option, Some, None, IsSomeAnd, Result, Ok, Err, refl, sym, ap, subst, ◌∙◌, arith, append_assoc}
use Rattle.std.specs.Prelude.{IfOk, IfErr}
use Rattle.remap_io.specs.Folder.{Folder, file_at}
use Rattle.nc_format.specs.declared.NcFile.{NcFile}
use Rattle.nc_format.specs.declared.fault.NcFault.{NcFault}
use Rattle.nc_format.specs.Header.{IsHeader, first_fault, header_read}
use Rattle.nc_format.proofs.Whole.{header_whole, no_fault_is, one_header}
use Rattle.nc_format.proofs.Lawful.{ok_is}
use Rattle.remap_load.specs.declared.Head.{Head}
use Rattle.remap_load.specs.declared.fault.LoadFault.{LoadFault}
use Rattle.remap_load.specs.declared.fault.LoadFault.TheVariants.{Absent, Failed, TooLong, Format, NoMemory}
use Rattle.remap_io.specs.Folder.{OnFile, OnNoFile, Holds, Lacks}
use Rattle.remap_load.specs.Heads.{IsHead, IsHeadOfBytes, IsGrown, header_cost}
use Rattle.remap_io.specs.Outside.{FilesSeen}
use Rattle.remap_load.specs.Loading.{IsLoadFault, Refuses, Finds}
use Rattle.remap_load.proofs.Fronts.{front_split, header_longer}

lacks_some : (o : Option (List ℕ)) (P : List ℕ → Type 0) → o ≡ None → IsSomeAnd o P → ⊥
lacks_some None P e h = h
lacks_some (Some bytes) P e h = absurd cc

pub lacks_on : (folder : Option Folder) (name : List ℕ) (P : List ℕ → Type 0) → Lacks folder name → OnFile folder name P → ⊥
lacks_on None name P lacks h = lacks
lacks_on (Some m) name P lacks h = lacks_some (file_at m name) P lacks h

holds_some : (o : Option (List ℕ)) (bytes : List ℕ) (P : List ℕ → Type 0) → o ≡ Some bytes → IsSomeAnd o P → P bytes
holds_some None bytes P e h = absurd h
holds_some (Some other) bytes P e h = let same : other ≡ bytes = cc in subst P same h

-- what is said of the file holds of its bytes
pub holds_on : (folder : Option Folder) (name bytes : List ℕ) (P : List ℕ → Type 0) → Holds folder name bytes → OnFile folder name P → P bytes
holds_on None name bytes P holds h = absurd holds
holds_on (Some m) name bytes P holds h = holds_some (file_at m name) bytes P holds h

none_some : (o : Option (List ℕ)) (bytes : List ℕ) → o ≡ Some bytes → o ≡ None → ⊥
none_some o bytes e h = absurd cc

pub holds_no_file : (folder : Option Folder) (name bytes : List ℕ) → Holds folder name bytes → OnNoFile folder name → ⊥
holds_no_file None name bytes holds h = holds
holds_no_file (Some m) name bytes holds h = none_some (file_at m name) bytes holds h

no_fault : (e : NcFault) → (let none : Option NcFault = None in none ≡ Some e) → ⊥
no_fault e h = absurd cc

one_fault : (o : Option NcFault) (e f : NcFault) → o ≡ Some e → o ≡ Some f → e ≡ f
one_fault o e f h k = cc

pub refuses_absent : (old new : FilesSeen) (name : List ℕ) (r : Result Head LoadFault) → IfOk r (λ head. OnFile old.folder name (IsHeadOfBytes head)) → IfErr r (IsLoadFault old new name) → Lacks old.folder name → Refuses Absent r
refuses_absent old new name (Ok head) of_file fault lacks = absurd (lacks_on old.folder name (IsHeadOfBytes head) lacks of_file)
refuses_absent old new name (Err Absent) of_file fault lacks = inl refl
refuses_absent old new name (Err Failed) of_file fault lacks = inr (inl refl)
refuses_absent old new name (Err (TooLong n)) of_file fault lacks = absurd (lacks_on old.folder name (λ bytes. n ≡ length bytes) lacks fault.1)
refuses_absent old new name (Err (Format e)) of_file fault lacks = absurd (lacks_on old.folder name (λ bytes. (length bytes ≤ 2147483647) × (first_fault bytes (length bytes) ≡ Some e)) lacks fault.1)
refuses_absent old new name (Err NoMemory) of_file fault lacks = inr (inr refl)

pub refuses_long : (old new : FilesSeen) (name bytes : List ℕ) (r : Result Head LoadFault) → IfOk r IsHead → IfOk r (λ head. OnFile old.folder name (IsHeadOfBytes head)) → IfErr r (IsLoadFault old new name) → Holds old.folder name bytes → 2147483647 < length bytes → Refuses (TooLong (length bytes)) r
refuses_long old new name bytes (Ok head) is of_file fault holds long =
    let here = holds_on old.folder name bytes (IsHeadOfBytes head) holds of_file in
    absurd (omega (arith, here.len, is.short))
refuses_long old new name bytes (Err Absent) is of_file fault holds long = absurd (holds_no_file old.folder name bytes holds fault.1)
refuses_long old new name bytes (Err Failed) is of_file fault holds long = inr (inl refl)
refuses_long old new name bytes (Err (TooLong n)) is of_file fault holds long =
    let same : n ≡ length bytes = holds_on old.folder name bytes (λ all. n ≡ length all) holds fault.1 in
    inl (ap (λ (k : ℕ). Err (TooLong k)) same)
refuses_long old new name bytes (Err (Format e)) is of_file fault holds long =
    let here = holds_on old.folder name bytes (λ all. (length all ≤ 2147483647) × (first_fault all (length all) ≡ Some e)) holds fault.1 in
    absurd (omega (arith, here.0))
refuses_long old new name bytes (Err NoMemory) is of_file fault holds long = inr (inr refl)

pub refuses_format : (old new : FilesSeen) (name bytes : List ℕ) (e : NcFault) (r : Result Head LoadFault) → IfOk r (λ head. OnFile old.folder name (IsHeadOfBytes head)) → IfErr r (IsLoadFault old new name) → Holds old.folder name bytes → length bytes ≤ 2147483647 → first_fault bytes (length bytes) ≡ Some e → Refuses (Format e) r
refuses_format old new name bytes e (Ok head) of_file fault holds short is =
    let here = holds_on old.folder name bytes (IsHeadOfBytes head) holds of_file in
    absurd (no_fault e (sym (no_fault_is bytes (length bytes) head.file here.header) ∙ is))
refuses_format old new name bytes e (Err Absent) of_file fault holds short is = absurd (holds_no_file old.folder name bytes holds fault.1)
refuses_format old new name bytes e (Err Failed) of_file fault holds short is = inr (inl refl)
refuses_format old new name bytes e (Err (TooLong n)) of_file fault holds short is =
    let same : n ≡ length bytes = holds_on old.folder name bytes (λ all. n ≡ length all) holds fault.1 in
    absurd (omega (arith, fault.0, same))
refuses_format old new name bytes e (Err (Format f)) of_file fault holds short is =
    let here = holds_on old.folder name bytes (λ all. (length all ≤ 2147483647) × (first_fault all (length all) ≡ Some f)) holds fault.1 in
    inl (ap (λ (x : NcFault). Err (Format x)) (one_fault (first_fault bytes (length bytes)) f e here.1 is))
refuses_format old new name bytes e (Err NoMemory) of_file fault holds short is = inr (inr refl)

pub finds_header : (old new : FilesSeen) (name bytes : List ℕ) (f : NcFile) (r : Result Head LoadFault) → IfOk r (λ head. OnFile old.folder name (IsHeadOfBytes head)) → IfErr r (IsLoadFault old new name) → Holds old.folder name bytes → length bytes ≤ 2147483647 → IsHeader bytes (length bytes) f → Finds f r
finds_header old new name bytes f (Ok head) of_file fault holds short is =
    let here = holds_on old.folder name bytes (IsHeadOfBytes head) holds of_file in
    inl (one_header bytes (length bytes) head.file f here.header is)
finds_header old new name bytes f (Err Absent) of_file fault holds short is = absurd (holds_no_file old.folder name bytes holds fault.1)
finds_header old new name bytes f (Err Failed) of_file fault holds short is = inr (inl refl)
finds_header old new name bytes f (Err (TooLong n)) of_file fault holds short is =
    let same : n ≡ length bytes = holds_on old.folder name bytes (λ all. n ≡ length all) holds fault.1 in
    absurd (omega (arith, fault.0, same))
finds_header old new name bytes f (Err (Format e)) of_file fault holds short is =
    let here = holds_on old.folder name bytes (λ all. (length all ≤ 2147483647) × (first_fault all (length all) ≡ Some e)) holds fault.1 in
    absurd (no_fault e (sym (no_fault_is bytes (length bytes) f is) ∙ here.1))
finds_header old new name bytes f (Err NoMemory) of_file fault holds short is = inr (inr refl)

-- How many bytes were asked for.

pub cost_of_head : (head : Head) (old new : ℕ) → IsGrown head.prefix head.len → new ≤ old + length head.prefix → (h : IsHeader head.prefix head.len head.file) → new ≤ old + header_cost (length h.header)
cost_of_head head old new grown le h =
    elim grown [
      | inl few ↦ omega (arith, few)
      | inr twice ↦ let longer : twice.0 < length h.header = header_longer head.prefix twice.0 head.len head.file h twice.2 in omega (arith, twice.1, longer)
    ]

-- a header of the first bytes is as long as one of all bytes
same_len : (front more b : List ℕ) (len n : ℕ) (f g : NcFile) (h : IsHeader front len f) (k : IsHeader b n g) → front ++ more ≡ b → length h.header ≡ length k.header
same_len front more b len n f g h k e =
    let one : header_read b ≡ Ok (h.fields, length h.header) = header_whole b h.header (h.rest ++ more) h.fields (sym e ∙ ap (λ (s : List ℕ). s ++ more) h.parts ∙ append_assoc h.header h.rest more) h.spelled in
    let other : header_read b ≡ Ok (k.fields, length k.header) = header_whole b k.header k.rest k.fields k.parts k.spelled in
    ap (λ (x : NcFile × ℕ). x.1) (ok_is (h.fields, length h.header) (k.fields, length k.header) (sym one ∙ other))

pub cost_of_bytes : (head : Head) (bytes : List ℕ) (old new : ℕ) → IsHead head → IsGrown head.prefix head.len → IsHeadOfBytes head bytes → new ≤ old + length head.prefix → (h : IsHeader bytes (length bytes) head.file) → new ≤ old + header_cost (length h.header)
cost_of_bytes head bytes old new is grown here le h =
    let split : head.prefix ++ drop (length head.prefix) bytes ≡ bytes = front_split head.prefix head.len bytes (record { whole_len = here.len; is_front = here.front }) in
    let same : length (is.header).header ≡ length h.header = same_len head.prefix (drop (length head.prefix) bytes) bytes head.len (length bytes) head.file head.file is.header h split in
    subst (λ (n : ℕ). new ≤ old + header_cost n) same (cost_of_head head old new grown le is.header)

pub costs_head : (r : Result Head LoadFault) (old new : ℕ) → IfOk r (λ head. IsGrown head.prefix head.len) → IfOk r (λ head. new ≤ old + length head.prefix) → IfOk r (λ head. (h : IsHeader head.prefix head.len head.file) → new ≤ old + header_cost (length h.header))
costs_head (Ok head) old new grown le = cost_of_head head old new grown le
costs_head (Err e) old new grown le = tt

costs_some : (head : Head) (o : Option (List ℕ)) (old new : ℕ) → IsHead head → IsSomeAnd o (IsHeadOfBytes head) → IsGrown head.prefix head.len → new ≤ old + length head.prefix → IsSomeAnd o (λ bytes. (h : IsHeader bytes (length bytes) head.file) → new ≤ old + header_cost (length h.header))
costs_some head None old new is here grown le = here
costs_some head (Some bytes) old new is here grown le = cost_of_bytes head bytes old new is grown here le

pub costs_file : (folder : Option Folder) (name : List ℕ) (r : Result Head LoadFault) (old new : ℕ) → IfOk r IsHead → IfOk r (λ head. OnFile folder name (IsHeadOfBytes head)) → IfOk r (λ head. IsGrown head.prefix head.len) → IfOk r (λ head. new ≤ old + length head.prefix) → IfOk r (λ head. OnFile folder name (λ bytes. (h : IsHeader bytes (length bytes) head.file) → new ≤ old + header_cost (length h.header)))
costs_file None name (Ok head) old new is here grown le = tt
costs_file (Some m) name (Ok head) old new is here grown le = costs_some head (file_at m name) old new is here grown le
costs_file folder name (Err e) old new is here grown le = tt
