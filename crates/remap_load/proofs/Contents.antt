-- A name comes to one thing of a kind, or one refusal, and what it costs.
use Rattle.std.proofs.Common.{◌≡◌, ◌⊎◌, inl, inr, ℕ, ◌+◌, ◌-◌, ◌++◌, replicate, length-append, ◌<◌, ◌≤◌, List, length, Option, Some, None, IsSomeAnd, Result, Ok, Err, IsErrAnd, refl, sym, ap, subst, ◌∙◌, arith}
use Rattle.std.specs.Prelude.{IfOk, IfErr, IfSome, IsOkAnd}
use Rattle.std.proofs.lemmas.Bool.{cases_lt}
use Rattle.remap_io.specs.Folder.{Folder, file_at, OnFile, OnNoFile}
use Rattle.remap_io.specs.Outside.{FilesSeen, OnlyReads}
use Rattle.std.proofs.lemmas.List.{length-replicate}
use Rattle.nc_format.proofs.Prefix.{prefix_header}
use Rattle.remap_load.specs.declared.Head.{Head}
use Rattle.remap_load.proofs.Fronts.{on_file}
use Rattle.remap_load.proofs.Reading.{load_fault_later}
use Rattle.nc_format.specs.declared.NcFile.{NcFile}
use Rattle.nc_format.specs.declared.fault.NcFault.{NcFault}
use Rattle.nc_format.specs.Header.{IsHeader, first_fault, header_read}
use Rattle.nc_format.proofs.Whole.{header_whole, no_fault_is, no_fault, one_header}
use Rattle.remap_load.specs.declared.fault.LoadFault.TheVariants.{Absent, Failed, TooLong, Format, NoMemory}
use Rattle.remap_load.specs.declared.refusal.FileRefusal.{FileRefusal}
use Rattle.remap_load.specs.declared.refusal.FileRefusal.TheVariants.{Load, Content}
use Rattle.remap_load.specs.Heads.{IsHead, IsHeadOfBytes, header_cost}
use Rattle.remap_load.specs.Kinds.{FileKind, IsNetcdf, HasContent, HasFault, IsRefusedBytes, IsRefusedName, IsFile, IsRefusedFile, IsFileRefusal, IsToldRefusal, IsCutOff, read_cost, bytes_cost, head_cost, file_cost}

-- A header and bytes hold one thing of the kind, or have one fault of it.
pub record IsLawful {A C : Type 0} (kind : FileKind A C) : Type 0 where
  pub one_content : (file : NcFile) (bytes : List ℕ) (a b : A) → kind.Holds file bytes a → kind.Holds file bytes b → a ≡ b
  pub one_fault : (file : NcFile) (bytes : List ℕ) (c d : C) → kind.Fails file bytes c → kind.Fails file bytes d → c ≡ d
  pub either : (file : NcFile) (bytes : List ℕ) (a : A) (c : C) → kind.Holds file bytes a → kind.Fails file bytes c → ⊥

-- what bytes come to
abbrev Gives : {A C : Type 0} → FileKind A C → List ℕ → Result A (FileRefusal C) → Type 0
Gives kind bytes (Ok content) = HasContent kind bytes content
Gives kind bytes (Err refusal) = IsRefusedBytes kind bytes refusal

-- what a header and bytes come to
abbrev Leads : {A C : Type 0} → FileKind A C → NcFile → List ℕ → Result A (FileRefusal C) → Type 0
Leads kind file bytes (Ok content) = kind.Holds file bytes content
Leads kind file bytes (Err (Load fault)) = ⊥
Leads kind file bytes (Err (Content fault)) = kind.Fails file bytes fault

leads_one : {A C : Type 0} (kind : FileKind A C) → IsLawful kind → (file : NcFile) (bytes : List ℕ) (a b : Result A (FileRefusal C)) → Leads kind file bytes a → Leads kind file bytes b → a ≡ b
leads_one kind law file bytes (Ok a) (Ok b) h k = ap Ok (law.one_content file bytes a b h k)
leads_one kind law file bytes (Ok a) (Err (Load e)) h k = absurd k
leads_one kind law file bytes (Ok a) (Err (Content c)) h k = absurd (law.either file bytes a c h k)
leads_one kind law file bytes (Err (Load e)) b h k = absurd h
leads_one kind law file bytes (Err (Content c)) (Ok b) h k = absurd (law.either file bytes b c k h)
leads_one kind law file bytes (Err (Content c)) (Err (Load e)) h k = absurd k
leads_one {C = C} kind law file bytes (Err (Content c)) (Err (Content d)) h k = ap (λ (x : C). Err (Content x)) (law.one_fault file bytes c d h k)

no_fault_some : (e : NcFault) → (let none : Option NcFault = None in none ≡ Some e) → ⊥
no_fault_some e h = absurd cc

one_some : (o : Option NcFault) (e f : NcFault) → o ≡ Some e → o ≡ Some f → e ≡ f
one_some o e f h k = cc

-- the header that there is, is the one that is spoken of
same_file : (bytes : List ℕ) (file other : NcFile) → IsNetcdf bytes file → IsNetcdf bytes other → other ≡ file
same_file bytes file other h k = one_header bytes (length bytes) other file k.header h.header

-- with a header, what bytes come to is what they lead to with it
by_header : {A C : Type 0} (kind : FileKind A C) (bytes : List ℕ) (file : NcFile) (a : Result A (FileRefusal C)) → IsNetcdf bytes file → Gives kind bytes a → Leads kind file bytes a
by_header kind bytes file (Ok content) h g = subst (λ (f : NcFile). kind.Holds f bytes content) (same_file bytes file g.file h g.netcdf) g.holds
by_header kind bytes file (Err (Load Absent)) h g = g
by_header kind bytes file (Err (Load Failed)) h g = g
by_header kind bytes file (Err (Load (TooLong n))) h g = absurd (omega (arith, h.short, g.0, g.1))
by_header kind bytes file (Err (Load (Format e))) h g = absurd (no_fault_some e (sym (no_fault_is bytes (length bytes) file h.header) ∙ g.1))
by_header kind bytes file (Err (Load NoMemory)) h g = g
by_header kind bytes file (Err (Content c)) h g = subst (λ (f : NcFile). kind.Fails f bytes c) (same_file bytes file g.file h g.netcdf) g.fails

-- bytes past the limit have that refusal alone
by_length : {A C : Type 0} (kind : FileKind A C) (bytes : List ℕ) (a : Result A (FileRefusal C)) → 2147483647 < length bytes → Gives kind bytes a → a ≡ Err (Load (TooLong (length bytes)))
by_length kind bytes (Ok content) long g = absurd (omega (arith, (g.netcdf).short))
by_length kind bytes (Err (Load Absent)) long g = absurd g
by_length kind bytes (Err (Load Failed)) long g = absurd g
by_length kind bytes (Err (Load (TooLong n))) long g = ap (λ (k : ℕ). Err (Load (TooLong k))) g.0
by_length kind bytes (Err (Load (Format e))) long g = absurd (omega (arith, g.0))
by_length kind bytes (Err (Load NoMemory)) long g = absurd g
by_length kind bytes (Err (Content c)) long g = absurd (omega (arith, (g.netcdf).short))

-- with a first fault of the header there is no header
no_netcdf : (bytes : List ℕ) (file : NcFile) (e : NcFault) → first_fault bytes (length bytes) ≡ Some e → IsNetcdf bytes file → ⊥
no_netcdf bytes file e is h = no_fault_some e (sym (no_fault_is bytes (length bytes) file h.header) ∙ is)

by_fault : {A C : Type 0} (kind : FileKind A C) (bytes : List ℕ) (e : NcFault) (a : Result A (FileRefusal C)) → length bytes ≤ 2147483647 → first_fault bytes (length bytes) ≡ Some e → Gives kind bytes a → a ≡ Err (Load (Format e))
by_fault kind bytes e (Ok content) short is g = absurd (no_netcdf bytes g.file e is g.netcdf)
by_fault kind bytes e (Err (Load Absent)) short is g = absurd g
by_fault kind bytes e (Err (Load Failed)) short is g = absurd g
by_fault kind bytes e (Err (Load (TooLong n))) short is g = absurd (omega (arith, g.0, g.1))
by_fault kind bytes e (Err (Load (Format f))) short is g = ap (λ (x : NcFault). Err (Load (Format x))) (one_some (first_fault bytes (length bytes)) f e g.1 is)
by_fault kind bytes e (Err (Load NoMemory)) short is g = absurd g
by_fault kind bytes e (Err (Content c)) short is g = absurd (no_netcdf bytes g.file e is g.netcdf)

came : (o : Option NcFault) → (o ≡ None) ⊎ ((e : NcFault) × (o ≡ Some e))
came None = inl refl
came (Some e) = inr (e, refl)

gives_one : {A C : Type 0} (kind : FileKind A C) → IsLawful kind → (bytes : List ℕ) (a b : Result A (FileRefusal C)) → Gives kind bytes a → Gives kind bytes b → a ≡ b
gives_one kind law bytes a b g h =
    elim (cases_lt 2147483647 (length bytes)) [
      | inl long ↦ by_length kind bytes a long g ∙ sym (by_length kind bytes b long h)
      | inr short ↦ elim (came (first_fault bytes (length bytes))) [
        | inl none ↦
            let header : (f : NcFile) × IsHeader bytes (length bytes) f = no_fault bytes (length bytes) none in
            let netcdf : IsNetcdf bytes header.0 = record { short = short; header = header.1 } in
            leads_one kind law header.0 bytes a b (by_header kind bytes header.0 a netcdf g) (by_header kind bytes header.0 b netcdf h)
        | inr fault ↦ by_fault kind bytes fault.0 a short fault.1 g ∙ sym (by_fault kind bytes fault.0 b short fault.1 h)
      ]
    ]

-- what a name comes to
abbrev Has : {A C : Type 0} → FileKind A C → Option (List ℕ) → Result A (FileRefusal C) → Type 0
Has kind None (Ok content) = ⊥
Has kind None (Err refusal) = refusal ≡ Load Absent
Has kind (Some bytes) a = Gives kind bytes a

has_one : {A C : Type 0} (kind : FileKind A C) → IsLawful kind → (o : Option (List ℕ)) (a b : Result A (FileRefusal C)) → Has kind o a → Has kind o b → a ≡ b
has_one kind law None (Ok a) b g h = absurd g
has_one kind law None (Err r) (Ok b) g h = absurd h
has_one {C = C} kind law None (Err r) (Err s) g h = ap (λ (x : FileRefusal C). Err x) (g ∙ sym h)
has_one kind law (Some bytes) a b g h = gives_one kind law bytes a b g h

has_content : {A C : Type 0} (kind : FileKind A C) (o : Option (List ℕ)) (a : A) → IsSomeAnd o (λ bytes. HasContent kind bytes a) → Has kind o (Ok a)
has_content kind None a h = h
has_content kind (Some bytes) a h = h

has_refusal : {A C : Type 0} (kind : FileKind A C) (o : Option (List ℕ)) (r : FileRefusal C) → IsRefusedName kind o r → Has kind o (Err r)
has_refusal kind None r h = h
has_refusal kind (Some bytes) r h = h

same_ok : {A E : Type 0} (a b : A) → (let r : Result A E = Ok a in r ≡ Ok b) → a ≡ b
same_ok a b h = cc

same_err : {A E : Type 0} (a b : E) → (let r : Result A E = Err a in r ≡ Err b) → a ≡ b
same_err a b h = cc

ok_err : {A E : Type 0} (a : A) (b : E) → (let r : Result A E = Ok a in r ≡ Err b) → ⊥
ok_err a b h = absurd cc

pub one_content : {A C : Type 0} (kind : FileKind A C) → IsLawful kind → (m : Folder) (name : List ℕ) (a b : A) → IsFile kind m name a → IsFile kind m name b → a ≡ b
one_content {A = A} {C = C} kind law m name a b g h =
    same_ok {A = A} {E = FileRefusal C} a b (has_one kind law (file_at m name) (Ok a) (Ok b) (has_content kind (file_at m name) a g) (has_content kind (file_at m name) b h))

pub one_refusal : {A C : Type 0} (kind : FileKind A C) → IsLawful kind → (m : Folder) (name : List ℕ) (a b : FileRefusal C) → IsRefusedFile kind m name a → IsRefusedFile kind m name b → a ≡ b
one_refusal {A = A} {C = C} kind law m name a b g h =
    same_err {A = A} {E = FileRefusal C} a b (has_one kind law (file_at m name) (Err a) (Err b) (has_refusal kind (file_at m name) a g) (has_refusal kind (file_at m name) b h))

pub not_both : {A C : Type 0} (kind : FileKind A C) → IsLawful kind → (m : Folder) (name : List ℕ) (a : A) (refusal : FileRefusal C) → IsFile kind m name a → IsRefusedFile kind m name refusal → ⊥
not_both {A = A} {C = C} kind law m name a refusal g h =
    ok_err {A = A} {E = FileRefusal C} a refusal (has_one kind law (file_at m name) (Ok a) (Err refusal) (has_content kind (file_at m name) a g) (has_refusal kind (file_at m name) refusal h))

-- What is answered where the folder is told.

pub told_content : {A C : Type 0} (kind : FileKind A C) (folder : Option Folder) (m : Folder) (name : List ℕ) (a : A) → folder ≡ Some m → OnFile folder name (λ bytes. HasContent kind bytes a) → IsFile kind m name a
told_content kind folder m name a is h = let here : OnFile (Some m) name (λ bytes. HasContent kind bytes a) = subst (λ (o : Option Folder). OnFile o name (λ bytes. HasContent kind bytes a)) is h in here

absent_name : {A C : Type 0} (kind : FileKind A C) (o : Option (List ℕ)) → o ≡ None → IsRefusedName kind o (Load Absent)
absent_name kind None h = refl
absent_name kind (Some bytes) h = absurd cc

name_on : {A C : Type 0} (kind : FileKind A C) (o : Option (List ℕ)) (why : FileRefusal C) → IsSomeAnd o (λ bytes. IsRefusedBytes kind bytes why) → IsRefusedName kind o why
name_on kind None why h = absurd h
name_on kind (Some bytes) why h = h

some_more : (o : Option (List ℕ)) (P Q : List ℕ → Type 0) → ((bytes : List ℕ) → P bytes → Q bytes) → IsSomeAnd o P → IsSomeAnd o Q
some_more None P Q f h = h
some_more (Some bytes) P Q f h = f bytes h

-- a refusal that was answered: a read failed, memory ran out, or it stands in the folder
pub told_refusal : {A C : Type 0} (kind : FileKind A C) (old new : FilesSeen) (m : Folder) (name : List ℕ) (why : FileRefusal C) → old.folder ≡ Some m → IsFileRefusal kind old new name why
    → ((why ≡ Load Failed) ⊎ (why ≡ Load NoMemory)) ⊎ IsRefusedFile kind m name why
told_refusal kind old new m name (Load Absent) is h =
    let here : OnNoFile (Some m) name = subst (λ (o : Option Folder). OnNoFile o name) is h.1 in
    inr (absent_name kind (file_at m name) here)
told_refusal kind old new m name (Load Failed) is h = inl (inl refl)
told_refusal kind old new m name (Load (TooLong n)) is h =
    let here : OnFile (Some m) name (λ bytes. n ≡ length bytes) = subst (λ (o : Option Folder). OnFile o name (λ bytes. n ≡ length bytes)) is h.1 in
    inr (name_on kind (file_at m name) (Load (TooLong n)) (some_more (file_at m name) (λ bytes. n ≡ length bytes) (λ bytes. IsRefusedBytes kind bytes (Load (TooLong n))) (λ bytes k. (k, h.0)) here))
told_refusal kind old new m name (Load (Format e)) is h =
    let P : List ℕ → Type 0 = λ bytes. (length bytes ≤ 2147483647) × (first_fault bytes (length bytes) ≡ Some e) in
    let here : OnFile (Some m) name P = subst (λ (o : Option Folder). OnFile o name P) is h.1 in
    inr (name_on kind (file_at m name) (Load (Format e)) here)
told_refusal kind old new m name (Load NoMemory) is h = inl (inr refl)
told_refusal kind old new m name (Content c) is h =
    let here : OnFile (Some m) name (λ bytes. HasFault kind bytes c) = subst (λ (o : Option Folder). OnFile o name (λ bytes. HasFault kind bytes c)) is h.1 in
    inr (name_on kind (file_at m name) (Content c) here)

-- what the folder holds is answered, unless a read fails or memory runs out
pub finds : {A C : Type 0} (kind : FileKind A C) → IsLawful kind → (old new : FilesSeen) (name : List ℕ) (r : Result A (FileRefusal C)) → IfOk r (λ a. OnFile old.folder name (λ bytes. HasContent kind bytes a)) → IfErr r (IsFileRefusal kind old new name)
    → (m : Folder) (a : A) → old.folder ≡ Some m → IsFile kind m name a → IsOkAnd r (λ b. b ≡ a) ⊎ IsCutOff r
finds kind law old new name (Ok b) ok err m a is there = inl (one_content kind law m name b a (told_content kind old.folder m name b is ok) there)
finds {A = A} {C = C} kind law old new name (Err why) ok err m a is there =
    elim (told_refusal kind old new m name why is err) [
      | inl (inl failed) ↦ inr (inl (ap (λ (x : FileRefusal C). Err x) failed))
      | inl (inr memory) ↦ inr (inr (ap (λ (x : FileRefusal C). Err x) memory))
      | inr refused ↦ absurd (not_both kind law m name a why there refused)
    ]

pub refuses : {A C : Type 0} (kind : FileKind A C) → IsLawful kind → (old new : FilesSeen) (name : List ℕ) (r : Result A (FileRefusal C)) → IfOk r (λ a. OnFile old.folder name (λ bytes. HasContent kind bytes a)) → IfErr r (IsFileRefusal kind old new name)
    → (m : Folder) (why : FileRefusal C) → old.folder ≡ Some m → IsRefusedFile kind m name why → (r ≡ Err why) ⊎ IsCutOff r
refuses kind law old new name (Ok b) ok err m why is there = absurd (not_both kind law m name b why (told_content kind old.folder m name b is ok) there)
refuses {A = A} {C = C} kind law old new name (Err found) ok err m why is there =
    elim (told_refusal kind old new m name found is err) [
      | inl (inl failed) ↦ inr (inl (ap (λ (x : FileRefusal C). Err x) failed))
      | inl (inr memory) ↦ inr (inr (ap (λ (x : FileRefusal C). Err x) memory))
      | inr refused ↦ inl (ap (λ (x : FileRefusal C). Err x) (one_refusal kind law m name found why refused there))
    ]

-- How many bytes are asked for.

cost_is : (needed : NcFile → ℕ) (bytes : List ℕ) (o : Option (List ℕ)) (file : NcFile) (h : IsHeader bytes (length bytes) file) → o ≡ Some bytes → bytes_cost needed o ≡ header_cost (length h.header) + needed file
cost_is needed bytes o file h there =
    let read : header_read bytes ≡ Ok (h.fields, length h.header) = header_whole bytes h.header h.rest h.fields h.parts h.spelled in
    ap (bytes_cost needed) there ∙ ap (read_cost needed) read ∙ ap (λ (f : NcFile). header_cost (length h.header) + needed f) (sym h.placed)

pub file_cost_is : {A C : Type 0} (kind : FileKind A C) (m : Folder) (name bytes : List ℕ) (file : NcFile) (h : IsHeader bytes (length bytes) file) → file_at m name ≡ Some bytes → file_cost kind m name ≡ header_cost (length h.header) + kind.needed file
unfolding file_cost
file_cost_is kind m name bytes file h there = cost_is kind.needed bytes (file_at m name) file h there

-- what is said of a header of the file, and of how much was asked for with it
abbrev HasHeader : NcFile → List ℕ → Type 0
HasHeader file bytes = IsHeader bytes (length bytes) file

abbrev AsksForHeader : NcFile → ℕ → ℕ → List ℕ → Type 0
AsksForHeader file old mid bytes = (h : IsHeader bytes (length bytes) file) → mid ≤ old + header_cost (length h.header)

cost_some : (needed : NcFile → ℕ) (o : Option (List ℕ)) (file : NcFile) (old mid new : ℕ) → IsSomeAnd o (HasHeader file) → IsSomeAnd o (AsksForHeader file old mid) → new ≤ mid + needed file → new ≤ old + bytes_cost needed o
cost_some needed None file old mid new header le more = absurd header
cost_some needed (Some bytes) file old mid new header le more = omega (arith, cost_is needed bytes (Some bytes) file header refl, le header, more)

pub cost_of_file : {A C : Type 0} (kind : FileKind A C) (folder : Option Folder) (name : List ℕ) (file : NcFile) (old mid new : ℕ) → OnFile folder name (HasHeader file) → OnFile folder name (AsksForHeader file old mid) → new ≤ mid + kind.needed file
    → IfSome folder (λ m. new ≤ old + file_cost kind m name)
unfolding file_cost
cost_of_file kind None name file old mid new header le more = tt
cost_of_file kind (Some m) name file old mid new header le more = cost_some kind.needed (file_at m name) file old mid new header le more

pub cost_of_head : (folder : Option Folder) (name : List ℕ) (file : NcFile) (old mid new : ℕ) → OnFile folder name (HasHeader file) → OnFile folder name (AsksForHeader file old mid) → new ≤ mid → IfSome folder (λ m. new ≤ old + head_cost m name)
unfolding head_cost
cost_of_head None name file old mid new header le more = tt
cost_of_head (Some m) name file old mid new header le more = cost_some (λ f. 0) (file_at m name) file old mid new header le (omega (arith, more))

-- What is said by a head that was loaded.

netcdf : (head : Head) (bytes : List ℕ) → IsHead head → IsHeadOfBytes head bytes → IsNetcdf bytes head.file
netcdf head bytes is here = record { short = omega (arith, is.short, here.len); header = here.header }

pub content_of_head : {A C : Type 0} (kind : FileKind A C) (folder : Option Folder) (name : List ℕ) (head : Head) (a : A) → IsHead head → OnFile folder name (IsHeadOfBytes head) → OnFile folder name (λ bytes. kind.Holds head.file bytes a)
    → OnFile folder name (λ bytes. HasContent kind bytes a)
content_of_head kind folder name head a is here holds =
    on_file folder name (IsHeadOfBytes head) (λ bytes. kind.Holds head.file bytes a) (λ bytes. HasContent kind bytes a) (λ bytes h k. record { file = head.file; netcdf = netcdf head bytes is h; holds = k }) here holds

pub fault_of_head : {A C : Type 0} (kind : FileKind A C) (folder : Option Folder) (name : List ℕ) (head : Head) (c : C) → IsHead head → OnFile folder name (IsHeadOfBytes head) → OnFile folder name (λ bytes. kind.Fails head.file bytes c)
    → OnFile folder name (λ bytes. HasFault kind bytes c)
fault_of_head kind folder name head c is here fails =
    on_file folder name (IsHeadOfBytes head) (λ bytes. kind.Fails head.file bytes c) (λ bytes. HasFault kind bytes c) (λ bytes h k. record { file = head.file; netcdf = netcdf head bytes is h; fails = k }) here fails

-- some bytes of the length of the file that begin with the first bytes, whatever is told of the folder
pub filled : (head : Head) → IsHead head → (bytes : List ℕ) × IsHeader bytes (length bytes) head.file
filled head is =
    let behind = replicate (head.len - length head.prefix) 0 in
    let bytes = head.prefix ++ behind in
    let long : head.len ≡ length bytes = omega (arith, length-append head.prefix behind, length-replicate {A = ℕ} (head.len - length head.prefix) 0, is.within) in
    (bytes, subst (λ (n : ℕ). IsHeader bytes n head.file) long (prefix_header head.prefix behind head.len head.file is.header))

-- A refusal behind reads, and in more words.

pub refusal_later : {A C : Type 0} (kind : FileKind A C) (old mid new : FilesSeen) (name : List ℕ) (why : FileRefusal C) → OnlyReads old mid → IsFileRefusal kind mid new name why → IsFileRefusal kind old new name why
refusal_later kind old mid new name (Load fault) reads h = load_fault_later old mid new name fault reads h
refusal_later kind old mid new name (Content c) reads h = (h.0, subst (λ (m : Option Folder). OnFile m name (λ bytes. HasFault kind bytes c)) reads.same_folder h.1)

pub each_refusal : {A C : Type 0} (P Q : FileRefusal C → Type 0) (r : Result A (FileRefusal C)) → ((why : FileRefusal C) → P why → Q why) → IfErr r P → IfErr r Q
each_refusal P Q (Ok a) f h = tt
each_refusal P Q (Err why) f h = f why h

pub handed : {A C : Type 0} (P : FileRefusal C → Type 0) (r : Result A (FileRefusal C)) (why : FileRefusal C) → r ≡ Err why → P why → IfErr r P
handed {A = A} {C = C} P r why is p = subst (λ (x : Result A (FileRefusal C)). IfErr x P) (sym is) p

pub handed_on : {A C : Type 0} (P : FileRefusal C → Type 0) (r : Result A (FileRefusal C)) (why : FileRefusal C) → IsErrAnd r (λ e. e ≡ why) → P why → IfErr r P
handed_on P (Ok x) why h p = tt
handed_on P (Err e) why h p = subst P (sym h) p

pub told_of : {A C : Type 0} (kind : FileKind A C) (old new : FilesSeen) (name : List ℕ) (why : FileRefusal C) → IsFileRefusal kind old new name why → IsToldRefusal kind why
told_of kind old new name (Load Absent) h = tt
told_of kind old new name (Load Failed) h = tt
told_of kind old new name (Load (TooLong n)) h = h.0
told_of kind old new name (Load (Format e)) h = h.0
told_of kind old new name (Load NoMemory) h = tt
told_of kind old new name (Content c) h = h.0
