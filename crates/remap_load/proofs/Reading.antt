-- Reads of a file, one after another.
use Rattle.std.proofs.Common.{◌≡◌, ◌≤◌, ◌+◌, ◌∙◌, ℕ, List, length, Option, None, Some, Result, Ok, Err, IsErrAnd, subst, sym, arith}
use Rattle.std.specs.Prelude.{IfOk, IfErr, OnOk}
use Rattle.remap_io.specs.Folder.{Folder, OnFile, OnNoFile}
use Rattle.nc_format.specs.Header.{first_fault}
use Rattle.remap_io.specs.Outside.{FilesSeen, OnlyReads}
use Rattle.remap_io.proofs.Counts.{rose_later, reads_on, reads_nothing}
use Rattle.remap_load.specs.declared.fault.LoadFault.{LoadFault}
use Rattle.remap_load.specs.declared.fault.LoadFault.TheVariants.{Absent, Failed, TooLong, Format, NoMemory}
use Rattle.remap_load.specs.Loading.{IsLoadFault, IsReadFault, ReadsAtMost}

-- nothing is asked for
pub asks_nothing : (a : FilesSeen) (n : ℕ) → ReadsAtMost a a n
asks_nothing a n = record { reads = reads_nothing a; asked = omega arith }

pub asks_on : (a b c : FilesSeen) (n k sum : ℕ) → n + k ≤ sum → ReadsAtMost a b n → ReadsAtMost b c k → ReadsAtMost a c sum
asks_on a b c n k sum le h l = record { reads = reads_on h.reads l.reads; asked = omega (arith, h.asked, l.asked, le) }

pub asks_more : (a b : FilesSeen) (n k : ℕ) → n ≤ k → ReadsAtMost a b n → ReadsAtMost a b k
asks_more a b n k le h = record { reads = h.reads; asked = omega (arith, h.asked, le) }

-- a fault behind reads
pub fault_later : (old mid new : FilesSeen) (fault : LoadFault) → OnlyReads old mid → IsReadFault mid new fault → IsReadFault old new fault
fault_later old mid new Absent reads h = (rose_later _ _ _ reads.counts.misses h.0, sym reads.same_folder ∙ h.1)
fault_later old mid new Failed reads h = rose_later _ _ _ reads.counts.faults h
fault_later old mid new (TooLong n) reads h = h
fault_later old mid new (Format fault) reads h = h
fault_later old mid new NoMemory reads h = tt

no_told : (folder : Option Folder) (name : List ℕ) → folder ≡ None → OnNoFile folder name
no_told None name e = tt
no_told (Some m) name e = absurd cc

-- a fault of a read is one of loading
pub fault_of_load : (old new : FilesSeen) (name : List ℕ) (fault : LoadFault) → IsReadFault old new fault → IsLoadFault old new name fault
fault_of_load old new name Absent h = (h.0, no_told old.folder name h.1)
fault_of_load old new name Failed h = h
fault_of_load old new name (TooLong n) h = absurd h
fault_of_load old new name (Format fault) h = absurd h
fault_of_load old new name NoMemory h = tt

pub load_fault_later : (old mid new : FilesSeen) (name : List ℕ) (fault : LoadFault) → OnlyReads old mid → IsLoadFault mid new name fault → IsLoadFault old new name fault
load_fault_later old mid new name Absent reads h = (rose_later _ _ _ reads.counts.misses h.0, subst (λ (m : Option Folder). OnNoFile m name) reads.same_folder h.1)
load_fault_later old mid new name Failed reads h = rose_later _ _ _ reads.counts.faults h
load_fault_later old mid new name (TooLong n) reads h = (h.0, subst (λ (m : Option Folder). OnFile m name (λ bytes. n ≡ length bytes)) reads.same_folder h.1)
load_fault_later old mid new name (Format fault) reads h =
    (h.0, subst (λ (m : Option Folder). OnFile m name (λ bytes. (length bytes ≤ 2147483647) × (first_fault bytes (length bytes) ≡ Some fault))) reads.same_folder h.1)
load_fault_later old mid new name NoMemory reads h = tt

-- a fault that was handed on
pub handed_on : {A : Type 0} (P : LoadFault → Type 0) (r : Result A LoadFault) (fault : LoadFault) → IsErrAnd r (λ e. e ≡ fault) → P fault → IfErr r P
handed_on P (Ok x) fault h p = tt
handed_on P (Err e) fault h p = subst P (sym h) p

pub each_fault : {A : Type 0} (P Q : LoadFault → Type 0) (r : Result A LoadFault) → ((e : LoadFault) → P e → Q e) → IfErr r P → IfErr r Q
each_fault P Q (Ok x) f h = tt
each_fault P Q (Err e) f h = f e h

pub each_ok : {A E : Type 0} (P Q : A → Type 0) (r : Result A E) → ((x : A) → P x → Q x) → IfOk r P → IfOk r Q
each_ok P Q (Ok x) f h = f x h
each_ok P Q (Err e) f h = tt

pub ok_holds : {A E : Type 0} (r : Result A E) {P : Type 0} → P → OnOk r P
ok_holds (Ok x) h = h
ok_holds (Err e) h = tt
