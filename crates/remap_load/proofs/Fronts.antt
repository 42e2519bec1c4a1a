-- The first bytes of a file, and the header that they begin with.
use Rattle.std.proofs.Common.{◌≡◌, ◌⊎◌, inl, inr, ℕ, ◌+◌, ◌-◌, ◌<◌, ◌≤◌, List, ◌++◌, length, take, drop, slice_range, Option, Some, None, IsSomeAnd, sym, ap, ap₂, subst, ◌∙◌, arith}
use Rattle.std.proofs.lemmas.List.{take-append-drop, take_all}
use Rattle.std.proofs.lemmas.Bool.{cases_lt}
use Rattle.std.proofs.Math.Seq.{take-append-add}
use Rattle.remap_io.specs.Folder.{Folder, file_at}
use Rattle.nc_format.specs.declared.NcFile.{NcFile}
use Rattle.nc_format.specs.declared.fault.NcFault.{NcFault}
use Rattle.nc_format.specs.declared.fault.NcFault.TheVariants.{Truncated}
use Rattle.nc_format.specs.Header.{IsHeader, IsSettled, first_fault}
use Rattle.nc_format.proofs.Whole.{no_fault_is}
use Rattle.nc_format.proofs.Prefix.{prefix_header, prefix_fault}
use Rattle.remap_load.specs.declared.Head.{Head}
use Rattle.remap_load.specs.declared.fault.LoadFault.{LoadFault}
use Rattle.remap_load.specs.declared.fault.LoadFault.TheVariants.{Absent, Failed, TooLong, Format, NoMemory}
use Rattle.remap_io.specs.Folder.{OnFile}
use Rattle.remap_load.specs.Heads.{IsHead, IsHeadOfBytes, IsFront, IsCut, IsGrown}
use Rattle.remap_io.specs.Outside.{FilesSeen}
use Rattle.remap_load.specs.Loading.{IsLoadFault, IsOfFront}

-- what is said of the bytes of a told file
on_bytes : (o : Option (List ℕ)) (P Q R : List ℕ → Type 0) → ((bytes : List ℕ) → P bytes → Q bytes → R bytes) → IsSomeAnd o P → IsSomeAnd o Q → IsSomeAnd o R
on_bytes None P Q R f p q = p
on_bytes (Some bytes) P Q R f p q = f bytes p q

pub on_file : (folder : Option Folder) (name : List ℕ) (P Q R : List ℕ → Type 0) → ((bytes : List ℕ) → P bytes → Q bytes → R bytes) → OnFile folder name P → OnFile folder name Q → OnFile folder name R
on_file None name P Q R f p q = tt
on_file (Some m) name P Q R f p q = on_bytes (file_at m name) P Q R f p q

pub on_this_file : (folder : Option Folder) (name : List ℕ) (P Q : List ℕ → Type 0) → ((bytes : List ℕ) → P bytes → Q bytes) → OnFile folder name P → OnFile folder name Q
on_this_file folder name P Q f p = on_file folder name P P Q (λ bytes h k. f bytes h) p p

-- the bytes behind a front
pub front_split : (front : List ℕ) (len : ℕ) (bytes : List ℕ) → IsFront front len bytes → front ++ drop (length front) bytes ≡ bytes
front_split front len bytes h = ap (λ (s : List ℕ). s ++ drop (length front) bytes) h.is_front ∙ take-append-drop (length front) bytes

-- a front that is as long as the file is the file
pub whole_front : (front : List ℕ) (len : ℕ) (bytes : List ℕ) → IsFront front len bytes → len ≤ length front → front ≡ bytes
whole_front front len bytes h le = h.is_front ∙ take_all (length front) bytes (omega (arith, h.whole_len))

pub next_front : (front next : List ℕ) (len at more : ℕ) (bytes : List ℕ) → at ≡ length front → IsFront front len bytes → next ≡ front ++ slice_range bytes at (at + more) → length next ≡ length front + more → IsFront next len bytes
next_front front next len at more bytes here h is long =
    let gap : at + more - at ≡ more = omega arith in
    let piece : slice_range bytes at (at + more) ≡ take more (drop (length front) bytes) = ap₂ (λ (k n : ℕ). take k (drop n bytes)) gap here in
    let whole : take (length front + more) (front ++ drop (length front) bytes) ≡ front ++ take more (drop (length front) bytes) = take-append-add front (drop (length front) bytes) more in
    record {
      whole_len = h.whole_len;
      is_front = is ∙ ap (λ s. front ++ s) piece ∙ sym whole ∙ ap (λ s. take (length front + more) s) (front_split front len bytes h) ∙ ap (λ k. take k bytes) (sym long);
    }

pub next_grown : (front next : List ℕ) (len more : ℕ) → IsCut front len → take (length front) next ≡ front → length next ≡ length front + more → more ≤ length front → IsGrown next len
next_grown front next len more cut kept long le =
    inr ((length front, omega arith, subst (λ (s : List ℕ). IsCut s len) (sym kept) cut))

no_some : (o : ℕ) → (let none : Option NcFault = None in none ≡ Some (Truncated o)) → ⊥
no_some o h = absurd cc

≤-or-> : (n m : ℕ) → (n ≤ m) ⊎ (m < n)
≤-or-> n m = elim (cases_lt m n) [ inl lt ↦ inr lt | inr le ↦ inl le ]

-- a header of bytes that were cut inside it is longer than what was cut
pub header_longer : (b : List ℕ) (fewer len : ℕ) (f : NcFile) (h : IsHeader b len f) → IsCut (take fewer b) len → fewer < length h.header
header_longer b fewer len f h cut =
    elim (≤-or-> (length h.header) fewer) [
      | inl le ↦
          let rest : take fewer b ≡ h.header ++ take (fewer - length h.header) h.rest =
          ap (λ (s : List ℕ). take fewer s) h.parts ∙ ap (λ (k : ℕ). take k (h.header ++ h.rest)) (let e : fewer ≡ length h.header + (fewer - length h.header) = omega arith in e) ∙ take-append-add h.header h.rest (fewer - length h.header) in
          let short : IsHeader (take fewer b) len f = record { header = h.header; rest = take (fewer - length h.header) h.rest; fields = h.fields; parts = rest; spelled = h.spelled; placed = h.placed; inside = h.inside } in
          absurd (no_some cut.place (sym (no_fault_is (take fewer b) len f short) ∙ cut.fault))
      | inr lt ↦ lt
    ]

pub head_of_bytes : (head : Head) (bytes : List ℕ) → IsHead head → IsFront head.prefix head.len bytes → IsHeadOfBytes head bytes
head_of_bytes head bytes h front =
    let long : IsHeader (head.prefix ++ drop (length head.prefix) bytes) head.len head.file = prefix_header head.prefix (drop (length head.prefix) bytes) head.len head.file h.header in
    let all : IsHeader bytes head.len head.file = subst (λ (s : List ℕ). IsHeader s head.len head.file) (front_split head.prefix head.len bytes front) long in
    record { len = front.whole_len; front = front.is_front; header = subst (λ (n : ℕ). IsHeader bytes n head.file) front.whole_len all }

-- the first fault of a front is that of the file
fault_of_bytes : (front : List ℕ) (len : ℕ) (bytes : List ℕ) (fault : NcFault) → IsFront front len bytes → (length front < len → 65536 ≤ length front) → (length front < len → IsSettled (Some fault)) → first_fault front len ≡ Some fault → first_fault bytes (length bytes) ≡ Some fault
fault_of_bytes front len bytes fault h many settled is =
    subst (λ (n : ℕ). first_fault bytes n ≡ Some fault) h.whole_len (
    elim (cases_lt (length front) len) [
      | inl shorter ↦
          let four : 4 ≤ length front = omega (arith, many shorter) in
          let longer : first_fault (front ++ drop (length front) bytes) len ≡ first_fault front len = prefix_fault front (drop (length front) bytes) len four (subst (λ (o : Option NcFault). IsSettled o) (sym is) (settled shorter)) in
          ap (λ (s : List ℕ). first_fault s len) (sym (front_split front len bytes h)) ∙ longer ∙ is
      | inr all ↦ ap (λ (s : List ℕ). first_fault s len) (sym (whole_front front len bytes h all)) ∙ is
    ])

pub fault_of_front : (old new : FilesSeen) (name : List ℕ) (front : List ℕ) (len : ℕ) (fault : LoadFault) → len ≤ 2147483647 → (length front < len → 65536 ≤ length front) → OnFile old.folder name (IsFront front len) → IsOfFront front len fault → IsLoadFault old new name fault
fault_of_front old new name front len Absent short many h is = absurd is
fault_of_front old new name front len Failed short many h is = absurd is
fault_of_front old new name front len (TooLong n) short many h is = absurd is
fault_of_front old new name front len (Format fault) short many h is =
    (is.0, on_this_file old.folder name (IsFront front len) (λ bytes. (length bytes ≤ 2147483647) × (first_fault bytes (length bytes) ≡ Some fault)) (λ bytes k. (omega (arith, k.whole_len), fault_of_bytes front len bytes fault k many is.2 is.1)) h)
fault_of_front old new name front len NoMemory short many h is = tt
