-- What a call comes to, stage by stage: how it ends, a file that is refused, and what follows a file.
use Rattle.std.proofs.Common.{◌≡◌, ◌≢◌, ◌⊎◌, ◌∙◌, ◌+◌, ◌≤◌, ℕ, List, [], ◌∷◌, Option, Some, None, IfSome, codes, refl, sym, ap, subst, inl, inr, arith}
use Rattle.std.specs.Prelude.{⊤}
use Rattle.std.proofs.lemmas.List.Sums.{sum_by-cons}
use Rattle.remap_io.specs.Causes.{Rose}
use Rattle.remap_io.specs.Folder.{Folder, OnFile}
use Rattle.remap_io.specs.Outside.{FilesSeen, OnlyReads}
use Rattle.remap_io.proofs.Counts.{rose_later}
use Rattle.remap_load.specs.declared.fault.LoadFault.TheVariants as load
use Rattle.remap_load.specs.declared.refusal.FileRefusal.{FileRefusal}
use Rattle.remap_load.specs.declared.refusal.FileRefusal.TheVariants.{Load, Content}
use Rattle.remap_load.specs.Kinds.{HasContent, IsFile, IsFileRefusal, file_cost}
use Rattle.remap_load.proofs.Contents.{told_refusal, told_of}
use Rattle.fault_lines.specs.declared.status.Status.{Status}
use Rattle.fault_lines.specs.declared.status.Status.TheVariants.{Done, Usage, NoFile, Format, Names, Mesh, Rows, Uncovered, Limit, Field, ReadFault, WriteFault, NoMemory}
use Rattle.tempest_top.specs.Scene.{Scene, scene}
use Rattle.fault_lines.specs.Lines.{PutsText}
use Rattle.fault_lines.specs.Faults.{FileWords, status_of, text_of, read_fault_text}
use Rattle.tempest_top.specs.Inputs.{Input, name_of_input, IsGood, cost_of, IsFileText, IsInputText, AreTold, IsReached, reading_cost}
use Rattle.tempest_top.specs.Outcome.{Output, Outcome, AfterFile, refusal}
use Rattle.tempest_top.specs.Promises.{IsTextOf, IsWriteFaultText, IsLate, IsPartlyWritten}
use Rattle.tempest_top.specs.Ends.{IsEnd, IsEndText, written_name, Ends, IsUntouched, IsStopped, IsCutShort, IsEnded, Comes}

-- the texts of a stage
abbrev Own : Type 1
Own = List ℕ → Status → Type 0

-- the outcomes of a stage, by the folder
abbrev pub Goal : Type 1
Goal = Option Folder → Outcome → Type 0

-- A call that ends at once.

-- memory ran out
pub comes_stopped : (inputs : List Input) (own : Own) (output : Option (List ℕ)) (P : Goal) (before after : Scene) (status : Status) → after.files ≡ before.files → after.out ≡ before.out → status ≡ NoMemory → PutsText before.err after.err (codes "no memory")
    → Comes inputs own output P before after status
comes_stopped inputs own output P before after status files out is put = record {
  ends = inr (inl (record { is_memory = is; untouched = record { folder = ap (λ (f : FilesSeen). f.folder) files; out = ap (λ o. o.contents) out }; line = put }));
  missed = λ h. absurd (let e : NoMemory ≡ NoFile = sym is ∙ h in cc);
  asked = λ h. absurd (let e : NoMemory ≡ Done = sym is ∙ h in cc);
  unasked = λ _. ap (λ (f : FilesSeen). f.taken) files;
}

-- the statuses of a refusal that is the outcome
abbrev pub IsPlain : Status → Type 0
IsPlain Done = ⊥
IsPlain ReadFault = ⊥
IsPlain WriteFault = ⊥
IsPlain NoMemory = ⊥
IsPlain status = ⊤

record IsRefusable (s : Status) : Type 0 where
  not_done : s ≢ Done
  not_write : s ≢ WriteFault
  end : (text : List ℕ) (m : Option Folder) → IsEnd (refusal s text m) s
  line : (text : List ℕ) (m : Option Folder) → IsEndText (refusal s text m) text s

refusable : (s : Status) → IsPlain s → IsRefusable s
refusable Done h = absurd h
refusable Usage h = record { not_done = λ e. cc; not_write = λ e. cc; end = λ t m. refl; line = λ t m. refl }
refusable NoFile h = record { not_done = λ e. cc; not_write = λ e. cc; end = λ t m. refl; line = λ t m. refl }
refusable Format h = record { not_done = λ e. cc; not_write = λ e. cc; end = λ t m. refl; line = λ t m. refl }
refusable Names h = record { not_done = λ e. cc; not_write = λ e. cc; end = λ t m. refl; line = λ t m. refl }
refusable Mesh h = record { not_done = λ e. cc; not_write = λ e. cc; end = λ t m. refl; line = λ t m. refl }
refusable Rows h = record { not_done = λ e. cc; not_write = λ e. cc; end = λ t m. refl; line = λ t m. refl }
refusable Uncovered h = record { not_done = λ e. cc; not_write = λ e. cc; end = λ t m. refl; line = λ t m. refl }
refusable Limit h = record { not_done = λ e. cc; not_write = λ e. cc; end = λ t m. refl; line = λ t m. refl }
refusable Field h = record { not_done = λ e. cc; not_write = λ e. cc; end = λ t m. refl; line = λ t m. refl }
refusable ReadFault h = absurd h
refusable WriteFault h = absurd h
refusable NoMemory h = absurd h

-- a refusal that changes nothing ends so
ends_refused : (text : List ℕ) (s : Status) (before after : Scene) → IsRefusable s → after.files.folder ≡ before.files.folder → after.out ≡ before.out → PutsText before.err after.err text → Ends (refusal s text before.files.folder) before after s
ends_refused text s before after r folder out put = record {
  answer = r.end text before.files.folder;
  done_folder = λ h. absurd (r.not_done h);
  done_text = λ h. absurd (r.not_done h);
  refused_folder = λ _. inl folder;
  refused_text = λ _. inl (ap (λ o. o.contents) out);
  text_after_file = inl (ap (λ o. o.contents) out);
  fault_after_file = λ h. absurd (r.not_write h);
  refused_line = λ _ _. (text, r.line text before.files.folder, put);
  fault_line = λ h. absurd (r.not_write h);
}

-- the outcome is a refusal
pub comes_refusal : (inputs : List Input) (own : Own) (output : Option (List ℕ)) (P : Goal) (before after : Scene) (text : List ℕ) (s status : Status) → (AreTold inputs before.files.folder → P before.files.folder (refusal s text before.files.folder))
    → IsTextOf inputs own before.files.folder text s → IsPlain s → (s ≡ NoFile → Rose before.files.misses after.files.misses) → (inputs ≡ [] → after.files.taken ≡ before.files.taken)
    → after.files.folder ≡ before.files.folder → after.out ≡ before.out → status ≡ s → PutsText before.err after.err text → Comes inputs own output P before after status
comes_refusal inputs own output P before after text s status outcome told plain missed unasked folder out is put =
    let r = refusable s plain in
    subst (Comes inputs own output P before after) (sym is) (record {
      ends = inl (refusal s text before.files.folder, record { outcome = outcome; named = λ file e. cc; told = inr (text, told, refl) }, ends_refused text s before after r folder out put);
      missed = missed;
      asked = λ h. absurd (r.not_done h);
      unasked = unasked;
    })

-- the same of a command's own text, where no file was touched
pub comes_own : (inputs : List Input) (own : Own) (output : Option (List ℕ)) (P : Goal) (before after : Scene) (text : List ℕ) (s status : Status) → P before.files.folder (refusal s text before.files.folder) → own text s → IsPlain s → s ≢ NoFile
    → after.files ≡ before.files → after.out ≡ before.out → status ≡ s → PutsText before.err after.err text → Comes inputs own output P before after status
comes_own inputs own output P before after text s status outcome told plain not_missed files out is put =
    comes_refusal inputs own output P before after text s status (λ _. outcome) (inr told) plain (λ h. absurd (not_missed h)) (λ _. ap (λ (f : FilesSeen). f.taken) files) (ap (λ (f : FilesSeen). f.folder) files) out is put

not_no_file : (o : Outcome) (status : Status) → o.status ≡ Done → IsEnd o status → status ≡ NoFile → ⊥
not_no_file o status done end h = let here : IsEnd o NoFile = subst (IsEnd o) h end in cc

none_asked : (m : Option Folder) (old new : ℕ) → new ≡ old → IfSome m (λ f. new ≤ old + reading_cost f [])
none_asked None old new same = tt
none_asked (Some m) old new same = omega (arith, same)

-- the outcome is Done, with this output file or none, and no file was read
pub comes_done : (own : Own) (output : Option (List ℕ)) (P : Goal) (before after : Scene) (o : Outcome) (status : Status) → P before.files.folder o → o.status ≡ Done → ((file : Output) → o.output ≡ Some file → output ≡ Some file.name)
    → after.files.taken ≡ before.files.taken → Ends o before after status → Comes [] own output P before after status
comes_done own output P before after o status outcome done named same ends = record {
  ends = inl (o, record { outcome = λ _. outcome; named = named; told = inl done }, ends);
  missed = λ h. absurd (not_no_file o status done ends.answer h);
  asked = λ _. none_asked before.files.folder before.files.taken after.files.taken same;
  unasked = λ _. same;
}

as_ended : (inputs : List Input) (own : Own) (output : Option (List ℕ)) (P Q : Goal) (before after : Scene) (status : Status) → ((o : Outcome) → P before.files.folder o → Q before.files.folder o)
    → IsEnded inputs own output P before after status ⊎ (IsStopped before after status ⊎ IsCutShort inputs before after status) → IsEnded inputs own output Q before after status ⊎ (IsStopped before after status ⊎ IsCutShort inputs before after status)
as_ended inputs own output P Q before after status f (inl e) = inl (e.0, record { outcome = λ told. f e.0 (e.1.outcome told); named = e.1.named; told = e.1.told }, e.2)
as_ended inputs own output P Q before after status f (inr e) = inr e

-- with other words for the outcomes
pub comes_as : (inputs : List Input) (own : Own) (output : Option (List ℕ)) (P Q : Goal) (before after : Scene) (status : Status) → ((o : Outcome) → P before.files.folder o → Q before.files.folder o)
    → Comes inputs own output P before after status → Comes inputs own output Q before after status
comes_as inputs own output P Q before after status f c = record {
  ends = as_ended inputs own output P Q before after status f c.ends;
  missed = c.missed;
  asked = c.asked;
  unasked = c.unasked;
}

-- A file that is refused.

-- the statuses of faults of what files hold
abbrev pub IsContentStatus : Status → Type 0
IsContentStatus Names = ⊤
IsContentStatus Mesh = ⊤
IsContentStatus Rows = ⊤
IsContentStatus Field = ⊤
IsContentStatus status = ⊥

-- a kind of file whose faults have such statuses
abbrev pub IsSpoken : {A C : Type 0} → FileWords A C → Type 0
IsSpoken {C = C} words = (c : C) → IsContentStatus (words.status c)

content_plain : (s : Status) → IsContentStatus s → IsPlain s × (s ≢ NoFile)
content_plain Done h = absurd h
content_plain Usage h = absurd h
content_plain NoFile h = absurd h
content_plain Format h = absurd h
content_plain Names h = (tt, λ e. cc)
content_plain Mesh h = (tt, λ e. cc)
content_plain Rows h = (tt, λ e. cc)
content_plain Uncovered h = absurd h
content_plain Limit h = absurd h
content_plain Field h = (tt, λ e. cc)
content_plain ReadFault h = absurd h
content_plain WriteFault h = absurd h
content_plain NoMemory h = absurd h

-- the input is a file of this kind and name
pub record IsInput {A C : Type 0} (words : FileWords A C) (name : List ℕ) (input : Input) : Type 0 where
  pub spoken : IsSpoken words
  pub name_is : name_of_input input ≡ name
  pub text : (text : List ℕ) (status : Status) → IsFileText words name text status → IsInputText input text status
  pub good : (m : Folder) (content : A) → IsFile words.kind m name content → IsGood m input
  pub cost : (m : Folder) → file_cost words.kind m name ≡ cost_of m input

-- a refusal that stands in the folder is the outcome
refusal_outcome : {A C : Type 0} (words : FileWords A C) (name : List ℕ) (next : A → Goal) (input : Input) (inputs : List Input) (old new : FilesSeen) (why : FileRefusal C) (m : Option Folder) → old.folder ≡ m → IsFileRefusal words.kind old new name why
    → why ≢ Load load.Failed → why ≢ Load load.NoMemory → AreTold (input ∷ inputs) m → AfterFile words m name (λ a. next a m) (refusal (status_of words why) (text_of words name why) m)
refusal_outcome words name next input inputs old new why None same h not_failed not_memory told = absurd told
refusal_outcome words name next input inputs old new why (Some m) same h not_failed not_memory told =
    elim (told_refusal words.kind old new m name why same h) [
      | inl (inl failed) ↦ absurd (not_failed failed)
      | inl (inr memory) ↦ absurd (not_memory memory)
      | inr refused ↦ inl (why, refused, refl)
    ]

abbrev Behind : {A C : Type 0} → FileWords A C → List ℕ → (A → Goal) → Goal
Behind words name next m o = AfterFile words m name (λ a. next a m) o

-- the refusal is the outcome, with a text of its own
refused_file : {A C : Type 0} (words : FileWords A C) (name : List ℕ) (next : A → Goal) (input : Input) (inputs : List Input) (own : Own) (output : Option (List ℕ)) (before after : Scene) (why : FileRefusal C) (status : Status) → IsInput words name input
    → IsFileRefusal words.kind before.files after.files name why → why ≢ Load load.Failed → why ≢ Load load.NoMemory → IsPlain (status_of words why) → (status_of words why ≡ NoFile → Rose before.files.misses after.files.misses)
    → OnlyReads before.files after.files → after.out ≡ before.out → status ≡ status_of words why → PutsText before.err after.err (text_of words name why) → Comes (input ∷ inputs) own output (Behind words name next) before after status
refused_file words name next input inputs own output before after why status is_input h not_failed not_memory plain missed reads out is put =
    comes_refusal (input ∷ inputs) own output (Behind words name next) before after (text_of words name why) (status_of words why) status
    (refusal_outcome words name next input inputs before.files after.files why before.files.folder refl h not_failed not_memory)
    (inl (input, inl refl, is_input.text (text_of words name why) (status_of words why) (why, told_of words.kind before.files after.files name why h, refl, refl)))
    plain missed (λ e. cc) reads.same_folder out is put

pub comes_refused : {A C : Type 0} (words : FileWords A C) (name : List ℕ) (next : A → Goal) (input : Input) (inputs : List Input) (own : Own) (output : Option (List ℕ)) (before after : Scene) (why : FileRefusal C) (status : Status) → IsInput words name input
    → IsFileRefusal words.kind before.files after.files name why → OnlyReads before.files after.files → after.out ≡ before.out → status ≡ status_of words why → PutsText before.err after.err (text_of words name why)
    → Comes (input ∷ inputs) own output (λ m. AfterFile words m name (λ a. next a m)) before after status
comes_refused words name next input inputs own output before after (Load load.Absent) status is_input h reads out is put =
    refused_file words name next input inputs own output before after (Load load.Absent) status is_input h (λ e. cc) (λ e. cc) tt (λ _. h.0) reads out is put
comes_refused words name next input inputs own output before after (Load load.Failed) status is_input h reads out is put = record {
  ends = inr (inr (record {
    is_fault = is;
    input = input;
    reached = inl refl;
    failed = h;
    untouched = record { folder = reads.same_folder; out = ap (λ o. o.contents) out };
    line = subst (λ (n : List ℕ). PutsText before.err after.err (read_fault_text n)) (sym is_input.name_is) put;
  }));
  missed = λ e. absurd (let k : ReadFault ≡ NoFile = sym is ∙ e in cc);
  asked = λ e. absurd (let k : ReadFault ≡ Done = sym is ∙ e in cc);
  unasked = λ e. cc;
}
comes_refused words name next input inputs own output before after (Load (load.TooLong n)) status is_input h reads out is put =
    refused_file words name next input inputs own output before after (Load (load.TooLong n)) status is_input h (λ e. cc) (λ e. cc) tt (λ e. cc) reads out is put
comes_refused words name next input inputs own output before after (Load (load.Format fault)) status is_input h reads out is put =
    refused_file words name next input inputs own output before after (Load (load.Format fault)) status is_input h (λ e. cc) (λ e. cc) tt (λ e. cc) reads out is put
comes_refused words name next input inputs own output before after (Load load.NoMemory) status is_input h reads out is put = record {
  ends = inr (inl (record { is_memory = is; untouched = record { folder = reads.same_folder; out = ap (λ o. o.contents) out }; line = put }));
  missed = λ e. absurd (let k : NoMemory ≡ NoFile = sym is ∙ e in cc);
  asked = λ e. absurd (let k : NoMemory ≡ Done = sym is ∙ e in cc);
  unasked = λ e. cc;
}
comes_refused words name next input inputs own output before after (Content c) status is_input h reads out is put =
    let plain = content_plain (words.status c) (is_input.spoken c) in
    refused_file words name next input inputs own output before after (Content c) status is_input h (λ e. cc) (λ e. cc) plain.0 (λ e. absurd (plain.1 e)) reads out is put

-- What follows a file that holds something.

-- a call behind reads
abbrev pub read_scene : Scene → FilesSeen → Scene
read_scene before mid = scene mid before.out before.err

later_fault : (name : Option (List ℕ)) (before : Scene) (mid : FilesSeen) (after : Scene) (text : List ℕ) → OnlyReads before.files mid → IsWriteFaultText name (read_scene before mid) after text → IsWriteFaultText name before after text
later_fault None before mid after text reads h = h
later_fault (Some name) before mid after text reads (inl h) = inl (h.0, rose_later _ _ _ reads.counts.write_faults h.1)
later_fault (Some name) before mid after text reads (inr h) = inr h

either : {A B C : Type 0} → (A → B) → A ⊎ C → B ⊎ C
either f (inl a) = inl (f a)
either f (inr c) = inr c

or_same : {A B C : Type 0} → (B → C) → A ⊎ B → A ⊎ C
or_same f (inl a) = inl a
or_same f (inr b) = inr (f b)

ends_later : (o : Outcome) (before : Scene) (mid : FilesSeen) (after : Scene) (status : Status) → OnlyReads before.files mid → Ends o (read_scene before mid) after status → Ends o before after status
ends_later o before mid after status reads ends = record {
  answer = ends.answer;
  done_folder = ends.done_folder;
  done_text = ends.done_text;
  refused_folder = λ h. subst (λ (m : Option Folder). (after.files.folder ≡ m) ⊎ (IsLate status × (o.status ≡ Done) × IsPartlyWritten o.output m after.files.folder)) reads.same_folder (ends.refused_folder h);
  refused_text = ends.refused_text;
  text_after_file = ends.text_after_file;
  fault_after_file = λ h. either (rose_later _ _ _ reads.counts.write_faults) (ends.fault_after_file h);
  refused_line = ends.refused_line;
  fault_line = λ h. let put = ends.fault_line h in (put.0, later_fault (written_name o.output) before mid after put.0 reads put.1, put.2);
}

untouched_later : (before : Scene) (mid : FilesSeen) (after : Scene) → OnlyReads before.files mid → IsUntouched (read_scene before mid) after → IsUntouched before after
untouched_later before mid after reads h = record { folder = h.folder ∙ reads.same_folder; out = h.out }

-- what is dealt with behind a file that isn't at fault is dealt with
reached_behind : (input : Input) (inputs : List Input) (m mid : Option Folder) (other : Input) → mid ≡ m → IfSome m (λ f. IsGood f input) → IsReached inputs mid other → IsReached (input ∷ inputs) m other
reached_behind input inputs m mid other same good h = inr (good, subst (λ (f : Option Folder). IsReached inputs f other) same h)

text_behind : (input : Input) (inputs : List Input) (own : Own) (m mid : Option Folder) (text : List ℕ) (s : Status) → mid ≡ m → IfSome m (λ f. IsGood f input) → IsTextOf inputs own mid text s → IsTextOf (input ∷ inputs) own m text s
text_behind input inputs own m mid text s same good (inl h) = inl (h.0, reached_behind input inputs m mid h.0 same good h.1, h.2)
text_behind input inputs own m mid text s same good (inr h) = inr h

told_behind : (input : Input) (inputs : List Input) (m : Folder) → AreTold inputs (Some m)
told_behind input [] m = tt
told_behind input (other ∷ inputs) m = tt

file_outcome : {A C : Type 0} (words : FileWords A C) (name : List ℕ) (next : A → Goal) (input : Input) (inputs : List Input) (content : A) (m mid : Option Folder) (o : Outcome) → mid ≡ m → OnFile m name (λ bytes. HasContent words.kind bytes content)
    → (AreTold inputs mid → next content mid o) → AreTold (input ∷ inputs) m → AfterFile words m name (λ a. next a m) o
file_outcome words name next input inputs content None mid o same holds outcome told = absurd told
file_outcome words name next input inputs content (Some m) mid o same holds outcome told =
    let here : next content (Some m) o = subst (λ (f : Option Folder). next content f o) same (outcome (subst (AreTold inputs) (sym same) (told_behind input inputs m))) in
    inr (content, holds, here)

good_input : {A C : Type 0} (words : FileWords A C) (name : List ℕ) (input : Input) (content : A) (m : Option Folder) → IsInput words name input → OnFile m name (λ bytes. HasContent words.kind bytes content) → IfSome m (λ f. IsGood f input)
good_input words name input content None is_input holds = tt
good_input words name input content (Some m) is_input holds = is_input.good m content holds

some_asked : (m : Folder) (mid : Option Folder) (inputs : List Input) (between new : ℕ) → mid ≡ Some m → IfSome mid (λ f. new ≤ between + reading_cost f inputs) → new ≤ between + reading_cost m inputs
some_asked m mid inputs between new same more = let here : IfSome (Some m) (λ f. new ≤ between + reading_cost f inputs) = subst (λ (o : Option Folder). IfSome o (λ f. new ≤ between + reading_cost f inputs)) same more in here

all_asked : (m mid : Option Folder) (input : Input) (inputs : List Input) (old between new : ℕ) → mid ≡ m → IfSome m (λ f. between ≤ old + cost_of f input) → IfSome mid (λ f. new ≤ between + reading_cost f inputs) → IfSome m (λ f. new ≤ old + reading_cost f (input ∷ inputs))
all_asked None mid input inputs old between new same one more = tt
all_asked (Some m) mid input inputs old between new same one more =
    let here : new ≤ between + reading_cost m inputs = some_asked m mid inputs between new same more in
    omega (arith, one, here, sum_by-cons (cost_of m) input inputs)

file_asked : {A C : Type 0} (words : FileWords A C) (name : List ℕ) (input : Input) (m : Option Folder) (old between : ℕ) → IsInput words name input → IfSome m (λ f. between ≤ old + file_cost words.kind f name) → IfSome m (λ f. between ≤ old + cost_of f input)
file_asked words name input None old between is_input h = tt
file_asked words name input (Some m) old between is_input h = omega (arith, h, is_input.cost m)

behind_ends : {A C : Type 0} (words : FileWords A C) (name : List ℕ) (next : A → Goal) (input : Input) (inputs : List Input) (own : Own) (output : Option (List ℕ)) (before : Scene) (mid : FilesSeen) (after : Scene) (content : A) (status : Status) → OnlyReads before.files mid
    → OnFile before.files.folder name (λ bytes. HasContent words.kind bytes content) → IfSome before.files.folder (λ f. IsGood f input)
    → IsEnded inputs own output (next content) (read_scene before mid) after status ⊎ (IsStopped (read_scene before mid) after status ⊎ IsCutShort inputs (read_scene before mid) after status)
    → IsEnded (input ∷ inputs) own output (Behind words name next) before after status ⊎ (IsStopped before after status ⊎ IsCutShort (input ∷ inputs) before after status)
behind_ends words name next input inputs own output before mid after content status reads holds good (inl e) =
    inl (
      e.0,
      record {
        outcome = file_outcome words name next input inputs content before.files.folder mid.folder e.0 reads.same_folder holds e.1.outcome;
        named = e.1.named;
        told = or_same (λ t. (t.0, text_behind input inputs own before.files.folder mid.folder t.0 e.0.status reads.same_folder good t.1, t.2)) e.1.told;
      },
      ends_later e.0 before mid after status reads e.2,
    )
behind_ends words name next input inputs own output before mid after content status reads holds good (inr (inl stopped)) =
    inr (inl (record { is_memory = stopped.is_memory; untouched = untouched_later before mid after reads stopped.untouched; line = stopped.line }))
behind_ends words name next input inputs own output before mid after content status reads holds good (inr (inr cut)) =
    inr (inr (record {
      is_fault = cut.is_fault;
      input = cut.input;
      reached = reached_behind input inputs before.files.folder mid.folder cut.input reads.same_folder good cut.reached;
      failed = rose_later _ _ _ reads.counts.faults cut.failed;
      untouched = untouched_later before mid after reads cut.untouched;
      line = cut.line;
    }))

pub comes_behind : {A C : Type 0} (words : FileWords A C) (name : List ℕ) (next : A → Goal) (input : Input) (inputs : List Input) (own : Own) (output : Option (List ℕ)) (before : Scene) (mid : FilesSeen) (after : Scene) (content : A) (status : Status) → IsInput words name input
    → OnFile before.files.folder name (λ bytes. HasContent words.kind bytes content) → OnlyReads before.files mid → IfSome before.files.folder (λ m. mid.taken ≤ before.files.taken + file_cost words.kind m name)
    → Comes inputs own output (next content) (read_scene before mid) after status → Comes (input ∷ inputs) own output (λ m. AfterFile words m name (λ a. next a m)) before after status
comes_behind words name next input inputs own output before mid after content status is_input holds reads asked c =
    let good = good_input words name input content before.files.folder is_input holds in
    record {
      ends = behind_ends words name next input inputs own output before mid after content status reads holds good c.ends;
      missed = λ h. rose_later _ _ _ reads.counts.misses (c.missed h);
      asked = λ h. all_asked before.files.folder mid.folder input inputs before.files.taken mid.taken after.files.taken reads.same_folder (file_asked words name input before.files.folder before.files.taken mid.taken is_input asked) (c.asked h);
      unasked = λ e. cc;
    }
