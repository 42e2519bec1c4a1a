-- What is promised of a call, by what it comes to.
use Rattle.std.proofs.Common.{◌≡◌, ◌≢◌, ◌⊎◌, ◌∙◌, ℕ, List, [], ◌∷◌, true, false, Option, Some, None, codes, refl, sym, subst, inl, inr}
use Rattle.remap_io.specs.Folder.{Folder}
use Rattle.remap_load.specs.declared.fault.LoadFault.TheVariants as load
use Rattle.remap_load.specs.declared.refusal.FileRefusal.{FileRefusal}
use Rattle.remap_load.specs.declared.refusal.FileRefusal.TheVariants.{Load, Content}
use Rattle.mesh_load.specs.declared.MeshFileFault.TheVariants as of_file
use Rattle.exodus_mesh.specs.declared.faults.FileFault.TheVariants as of_rows
use Rattle.offline_map.specs.declared.faults.MapFault.{MapFault}
use Rattle.offline_map.specs.declared.faults.MapFault.TheVariants as of_map
use Rattle.command_line.specs.declared.choices.Chosen.{Chosen}
use Rattle.command_line.specs.declared.choices.Chosen.TheVariants.{Cs, Rll, Ico, Overlap, OfflineMap, Apply, SelfRun, Coverage, Check}
use Rattle.fault_lines.specs.declared.status.Status.{Status}
use Rattle.fault_lines.specs.declared.status.Status.TheVariants.{Done, Usage, NoFile, Format, Names, Mesh, Rows, Uncovered, Limit, Field, ReadFault, WriteFault, NoMemory}
use Rattle.tempest_top.specs.Scene.{Scene}
use Rattle.fault_lines.specs.Lines.{line_of, GainsLine, IsPutRefused, PutsText}
use Rattle.fault_lines.specs.Faults.{FileWords, status_of, mesh_words}
use Rattle.fault_lines.specs.RowFaults.{status_of_map_fault}
use Rattle.tempest_top.specs.MapFaults.{overlap_words}
use Rattle.tempest_top.specs.FieldFaults.{map_words, data_words}
use Rattle.tempest_top.specs.Inputs.{Input, MeshFile, OverlapFile, MapFile, DataFile, inputs_of, output_of, AreTold, IsReached, IsInputText}
use Rattle.tempest_top.specs.Outcome.{Output, Outcome, IsOutcome, TheOutcome, is_usage}
use Rattle.tempest_top.specs.Promises.{IsWriteFailed, IsAnswer, IsWriteFaultText, IsOwnText, IsText, PutsLine, Keeps}
use Rattle.tempest_top.specs.Ends.{IsEnd, IsEndText, written_name, Ends, Belongs, IsStopped, IsCutShort, IsEnded, Comes}
use Rattle.tempest_top.proofs.Outcomes.{one_outcome, usage_outcome}
use Rattle.tempest_top.proofs.Coming.{IsContentStatus, IsSpoken, comes_own, comes_stopped}

-- the outcome is the only one
the_outcome : (chosen : Option Chosen) (m : Option Folder) (P : Outcome → Type 0) (o : Outcome) → (AreTold (inputs_of chosen) m → IsOutcome chosen m o) → P o → TheOutcome chosen m P
the_outcome chosen m P o is holds = λ told. (o, is told, (λ p h. one_outcome chosen m p o h (is told)), holds)

-- what fails at a write is counted
fault_cause : (name : Option (List ℕ)) (before after : Scene) (text : List ℕ) → IsWriteFaultText name before after text → IsWriteFailed before after
fault_cause None before after text h = inr h.1
fault_cause (Some name) before after text (inl h) = inl h.1
fault_cause (Some name) before after text (inr h) = inr h.1

-- and named
named_fault : (output : Option (List ℕ)) (written : Option Output) (before after : Scene) (text : List ℕ) → ((file : Output) → written ≡ Some file → output ≡ Some file.name) → IsWriteFaultText (written_name written) before after text → IsWriteFaultText output before after text
named_fault None None before after text named h = h
named_fault (Some name) None before after text named h = inr h
named_fault output (Some file) before after text named h = subst (λ (n : Option (List ℕ)). IsWriteFaultText n before after text) (sym (named file refl)) h

-- the status of a call that came to the outcome is an answer
answer : (chosen : Option Chosen) (before after : Scene) (o : Outcome) (status : Status) → (AreTold (inputs_of chosen) before.files.folder → IsOutcome chosen before.files.folder o) → IsEnd o status → (status ≡ WriteFault → IsWriteFailed before after) → IsAnswer chosen before after status
answer chosen before after o Done is end fault = the_outcome chosen _ _ o is end
answer chosen before after o Usage is end fault = the_outcome chosen _ _ o is end
answer chosen before after o NoFile is end fault = the_outcome chosen _ _ o is end
answer chosen before after o Format is end fault = the_outcome chosen _ _ o is end
answer chosen before after o Names is end fault = the_outcome chosen _ _ o is end
answer chosen before after o Mesh is end fault = the_outcome chosen _ _ o is end
answer chosen before after o Rows is end fault = the_outcome chosen _ _ o is end
answer chosen before after o Uncovered is end fault = the_outcome chosen _ _ o is end
answer chosen before after o Limit is end fault = the_outcome chosen _ _ o is end
answer chosen before after o Field is end fault = the_outcome chosen _ _ o is end
answer chosen before after o ReadFault is end fault = absurd end
answer chosen before after o WriteFault is end fault = (the_outcome chosen _ _ o is end, fault refl)
answer chosen before after o NoMemory is end fault = tt

-- an outcome that belongs to the words
abbrev BelongsTo : Option Chosen → Option Folder → Outcome → Type 0
BelongsTo chosen m o = Belongs (inputs_of chosen) (IsOwnText chosen) (output_of chosen) (IsOutcome chosen) m o

-- its own text, which is that of its line
has_text : (chosen : Option Chosen) (m : Option Folder) (o : Outcome) (status : Status) → BelongsTo chosen m o → status ≢ Done → o.status ≡ status → (text : List ℕ) × IsText chosen m text status × (o.line ≡ line_of text)
has_text chosen m o status belongs not_done is =
    elim belongs.told as (λ _. (text : List ℕ) × IsText chosen m text status × (o.line ≡ line_of text)) [ inl done ↦ absurd (not_done (sym is ∙ done)) | inr t ↦ (t.0, subst (IsText chosen m t.0) is t.1, t.2) ]

-- a line that was put, as a call ends with it
abbrev IsLineEnd : Outcome → Scene → Scene → Status → Type 0
IsLineEnd o before after status = (text : List ℕ) × IsEndText o text status × PutsText before.err after.err text

abbrev IsFaultEnd : Outcome → Scene → Scene → Type 0
IsFaultEnd o before after = (text : List ℕ) × IsWriteFaultText (written_name o.output) before after text × PutsText before.err after.err text

-- of the line that was put and the line of the outcome there is one text
own_line : (chosen : Option Chosen) (before after : Scene) (o : Outcome) (status : Status) → BelongsTo chosen before.files.folder o → status ≢ Done → o.status ≡ status → (put : List ℕ) → o.line ≡ line_of put → PutsText before.err after.err put
    → (text : List ℕ) × (IsText chosen before.files.folder text status × TheOutcome chosen before.files.folder (λ p. p.line ≡ line_of text)) × PutsText before.err after.err text
own_line chosen before after o status belongs not_done is put line puts =
    let t = has_text chosen before.files.folder o status belongs not_done is in
    (t.0, (t.1, the_outcome chosen _ _ o belongs.outcome t.2), subst (λ (l : List ℕ). GainsLine before.err.contents after.err.contents l (IsPutRefused before.err after.err)) (sym line ∙ t.2) puts)

puts : (chosen : Option Chosen) (before after : Scene) (o : Outcome) (status : Status) → BelongsTo chosen before.files.folder o → status ≢ Done → IsEnd o status → (status ≢ Done → status ≢ WriteFault → IsLineEnd o before after status) → (status ≡ WriteFault → IsFaultEnd o before after) → PutsLine chosen before after status
puts chosen before after o Done belongs not_done end plain fault = absurd (not_done refl)
puts chosen before after o Usage belongs not_done end plain fault = let put = plain not_done (λ h. cc) in own_line chosen before after o Usage belongs not_done end put.0 put.1 put.2
puts chosen before after o NoFile belongs not_done end plain fault = let put = plain not_done (λ h. cc) in own_line chosen before after o NoFile belongs not_done end put.0 put.1 put.2
puts chosen before after o Format belongs not_done end plain fault = let put = plain not_done (λ h. cc) in own_line chosen before after o Format belongs not_done end put.0 put.1 put.2
puts chosen before after o Names belongs not_done end plain fault = let put = plain not_done (λ h. cc) in own_line chosen before after o Names belongs not_done end put.0 put.1 put.2
puts chosen before after o Mesh belongs not_done end plain fault = let put = plain not_done (λ h. cc) in own_line chosen before after o Mesh belongs not_done end put.0 put.1 put.2
puts chosen before after o Rows belongs not_done end plain fault = let put = plain not_done (λ h. cc) in own_line chosen before after o Rows belongs not_done end put.0 put.1 put.2
puts chosen before after o Uncovered belongs not_done end plain fault = let put = plain not_done (λ h. cc) in own_line chosen before after o Uncovered belongs not_done end put.0 put.1 put.2
puts chosen before after o Limit belongs not_done end plain fault = let put = plain not_done (λ h. cc) in own_line chosen before after o Limit belongs not_done end put.0 put.1 put.2
puts chosen before after o Field belongs not_done end plain fault = let put = plain not_done (λ h. cc) in own_line chosen before after o Field belongs not_done end put.0 put.1 put.2
puts chosen before after o ReadFault belongs not_done end plain fault = absurd end
puts chosen before after o WriteFault belongs not_done end plain fault = let put = fault refl in (put.0, named_fault (output_of chosen) o.output before after put.0 belongs.named put.1, put.2)
puts chosen before after o NoMemory belongs not_done end plain fault = plain not_done (λ h. cc)

or_same : {A B C : Type 0} → (B → C) → A ⊎ B → A ⊎ C
or_same f (inl a) = inl a
or_same f (inr b) = inr (f b)

-- Which texts a command never has.

content_not : (s : Status) → IsContentStatus s → (s ≢ Usage) × (s ≢ NoFile)
content_not Names h = (λ e. cc, λ e. cc)
content_not Mesh h = (λ e. cc, λ e. cc)
content_not Rows h = (λ e. cc, λ e. cc)
content_not Field h = (λ e. cc, λ e. cc)
content_not Done h = absurd h
content_not Usage h = absurd h
content_not NoFile h = absurd h
content_not Format h = absurd h
content_not Uncovered h = absurd h
content_not Limit h = absurd h
content_not ReadFault h = absurd h
content_not WriteFault h = absurd h
content_not NoMemory h = absurd h

never_usage : {A C : Type 0} (words : FileWords A C) → IsSpoken words → (why : FileRefusal C) → Usage ≡ status_of words why → ⊥
never_usage words spoken (Load load.Absent) h = absurd cc
never_usage words spoken (Load load.Failed) h = absurd cc
never_usage words spoken (Load (load.TooLong n)) h = absurd cc
never_usage words spoken (Load (load.Format f)) h = absurd cc
never_usage words spoken (Load load.NoMemory) h = absurd cc
never_usage words spoken (Content c) h = (content_not (words.status c) (spoken c)).0 (sym h)

pub mesh_spoken : IsSpoken mesh_words
mesh_spoken (of_file.Names fault) = tt
mesh_spoken (of_file.Mesh fault) = tt

pub overlap_spoken : IsSpoken overlap_words
overlap_spoken (of_rows.Name fault) = tt
overlap_spoken (of_rows.Row n) = tt
overlap_spoken (of_rows.AreaA n) = tt
overlap_spoken (of_rows.AreaB n) = tt
overlap_spoken of_rows.NoMemory = tt

pub map_spoken : IsSpoken map_words
map_spoken (of_rows.Name fault) = tt
map_spoken (of_rows.Row n) = tt
map_spoken (of_rows.AreaA n) = tt
map_spoken (of_rows.AreaB n) = tt
map_spoken of_rows.NoMemory = tt

pub data_spoken : (var : List ℕ) → IsSpoken (data_words var)
data_spoken var fault = tt

map_not : (fault : MapFault) → (Usage ≡ status_of_map_fault fault → ⊥) × (NoFile ≡ status_of_map_fault fault → ⊥)
map_not (of_map.CountsA in_file of_mesh) = (λ e. absurd cc, λ e. absurd cc)
map_not (of_map.CountsB in_file of_mesh) = (λ e. absurd cc, λ e. absurd cc)
map_not (of_map.Row n) = (λ e. absurd cc, λ e. absurd cc)
map_not (of_map.Uncovered n) = (λ e. absurd cc, λ e. absurd cc)
map_not of_map.NoMemory = (λ e. absurd cc, λ e. absurd cc)

input_usage : (input : Input) (text : List ℕ) → IsInputText input text Usage → ⊥
input_usage (MeshFile name) text h = never_usage mesh_words mesh_spoken h.0 h.2
input_usage (OverlapFile name) text h = never_usage overlap_words overlap_spoken h.0 h.2
input_usage (MapFile name) text h = never_usage map_words map_spoken h.0 h.2
input_usage (DataFile var name) text h = never_usage (data_words var) (data_spoken var) h.0 h.2

own_usage : (chosen : Option Chosen) (text : List ℕ) → IsOwnText chosen text Usage → is_usage chosen ≡ true
own_usage None text h = refl
own_usage (Some (Cs res file)) text h = absurd h
own_usage (Some (Rll lon lat file)) text h = absurd (let e = h.0 in cc)
own_usage (Some (Ico res dual file)) text h = absurd (let e = h.0 in cc)
own_usage (Some (Overlap a b out workers)) text (inl h) = absurd (let e = h.0 in cc)
own_usage (Some (Overlap a b out workers)) text (inr h) = absurd (let e = h.0 in cc)
own_usage (Some (OfflineMap in_mesh out_mesh ov_mesh out_map)) text h = absurd ((map_not h.0).0 h.2)
own_usage (Some (Apply map var in_data out_data masked)) text (inl h) = absurd (let e = h.0 in cc)
own_usage (Some (Apply map var in_data out_data masked)) text (inr h) = absurd (let e = h.0 in cc)
own_usage (Some (SelfRun n workers)) text (inl h) = absurd (let e = h.0 in cc)
own_usage (Some (SelfRun n workers)) text (inr (inl h)) = absurd (let e = h.0 in cc)
own_usage (Some (SelfRun n workers)) text (inr (inr h)) = absurd (let e = h.0 in cc)
own_usage (Some (Coverage a b)) text h = absurd h
own_usage (Some (Check file workers)) text h = absurd (let e = h.0 in cc)

text_usage : (chosen : Option Chosen) (m : Option Folder) (text : List ℕ) → IsText chosen m text Usage → is_usage chosen ≡ true
text_usage chosen m text (inl h) = absurd (input_usage h.0 text h.2)
text_usage chosen m text (inr h) = own_usage chosen text h

own_no_file : (chosen : Option Chosen) (text : List ℕ) → IsOwnText chosen text NoFile → ⊥
own_no_file None text h = let e = h.0 in absurd cc
own_no_file (Some (Cs res file)) text h = h
own_no_file (Some (Rll lon lat file)) text h = let e = h.0 in absurd cc
own_no_file (Some (Ico res dual file)) text h = let e = h.0 in absurd cc
own_no_file (Some (Overlap a b out workers)) text (inl h) = let e = h.0 in absurd cc
own_no_file (Some (Overlap a b out workers)) text (inr h) = let e = h.0 in absurd cc
own_no_file (Some (OfflineMap in_mesh out_mesh ov_mesh out_map)) text h = (map_not h.0).1 h.2
own_no_file (Some (Apply map var in_data out_data masked)) text (inl h) = let e = h.0 in absurd cc
own_no_file (Some (Apply map var in_data out_data masked)) text (inr h) = let e = h.0 in absurd cc
own_no_file (Some (SelfRun n workers)) text (inl h) = let e = h.0 in absurd cc
own_no_file (Some (SelfRun n workers)) text (inr (inl h)) = let e = h.0 in absurd cc
own_no_file (Some (SelfRun n workers)) text (inr (inr h)) = let e = h.0 in absurd cc
own_no_file (Some (Coverage a b)) text h = h
own_no_file (Some (Check file workers)) text h = let e = h.0 in absurd cc

none_reached : (inputs : List Input) (m : Option Folder) (input : Input) → inputs ≡ [] → IsReached inputs m input → ⊥
none_reached [] m input e h = h
none_reached (first ∷ inputs) m input e h = absurd cc

text_no_file : (chosen : Option Chosen) (m : Option Folder) (text : List ℕ) → inputs_of chosen ≡ [] → IsText chosen m text NoFile → ⊥
text_no_file chosen m text none (inl h) = none_reached (inputs_of chosen) m h.0 none h.1
text_no_file chosen m text none (inr h) = own_no_file chosen text h

ended_usage : (chosen : Option Chosen) (m : Option Folder) (o : Outcome) (status : Status) → BelongsTo chosen m o → IsEnd o status → status ≡ Usage → is_usage chosen ≡ true
ended_usage chosen m o status belongs end is =
    let here : IsEnd o Usage = subst (IsEnd o) is end in
    let t = has_text chosen m o Usage belongs (λ e. cc) here in
    text_usage chosen m t.0 t.1

ended_no_file : (chosen : Option Chosen) (m : Option Folder) (o : Outcome) (status : Status) → BelongsTo chosen m o → IsEnd o status → inputs_of chosen ≡ [] → (status ≢ NoFile) × (status ≢ ReadFault)
ended_no_file chosen m o status belongs end none = (
  (λ is. let here : IsEnd o NoFile = subst (IsEnd o) is end in let t = has_text chosen m o NoFile belongs (λ e. cc) here in text_no_file chosen m t.0 none t.1),
  (λ is. let here : IsEnd o ReadFault = subst (IsEnd o) is end in here),
)

-- What is promised.

keeps_ended : (chosen : Option Chosen) (before after : Scene) (status : Status) → (is_usage chosen ≡ true → (status ≡ Usage) ⊎ (status ≡ NoMemory)) → Comes (inputs_of chosen) (IsOwnText chosen) (output_of chosen) (IsOutcome chosen) before after status
    → IsEnded (inputs_of chosen) (IsOwnText chosen) (output_of chosen) (IsOutcome chosen) before after status → Keeps chosen before after status
keeps_ended chosen before after status only c e =
    let o = e.0 in
    let belongs : BelongsTo chosen before.files.folder o = e.1 in
    let ends : Ends o before after status = e.2 in
    record {
      answer = answer chosen before after o status belongs.outcome ends.answer (λ h. let put = ends.fault_line h in fault_cause (written_name o.output) before after put.0 put.1);
      done_folder = λ h. the_outcome chosen _ _ o belongs.outcome (ends.done_folder h);
      done_text = λ h. the_outcome chosen _ _ o belongs.outcome (ends.done_text h);
      refused_folder = λ h. or_same (λ late. (late.0, the_outcome chosen _ _ o belongs.outcome (late.1, late.2))) (ends.refused_folder h);
      refused_text = λ h. or_same (λ late. (late.0, the_outcome chosen _ _ o belongs.outcome (late.1, late.2))) (ends.refused_text h);
      text_after_file = or_same (the_outcome chosen _ _ o belongs.outcome) ends.text_after_file;
      fault_after_file = λ h. or_same (the_outcome chosen _ _ o belongs.outcome) (ends.fault_after_file h);
      refused_line = λ h. puts chosen before after o status belongs h ends.answer ends.refused_line ends.fault_line;
      usage = ended_usage chosen before.files.folder o status belongs ends.answer;
      usage_only = only;
      no_file = c.missed;
      no_reads = ended_no_file chosen before.files.folder o status belongs ends.answer;
      bytes_read = c.asked;
      no_bytes = c.unasked;
    }

keeps_stopped : (chosen : Option Chosen) (before after : Scene) (status : Status) → Comes (inputs_of chosen) (IsOwnText chosen) (output_of chosen) (IsOutcome chosen) before after status → IsStopped before after status → Keeps chosen before after status
keeps_stopped chosen before after status c stopped =
    let unasked = c.unasked in
    subst (Keeps chosen before after) (sym stopped.is_memory) (record {
      answer = tt;
      done_folder = λ h. cc;
      done_text = λ h. cc;
      refused_folder = λ _. inl stopped.untouched.folder;
      refused_text = λ _. inl stopped.untouched.out;
      text_after_file = inl stopped.untouched.out;
      fault_after_file = λ h. cc;
      refused_line = λ _. (codes "no memory", refl, stopped.line);
      usage = λ h. cc;
      usage_only = λ _. inr refl;
      no_file = λ h. cc;
      no_reads = λ _. ((λ h. cc), (λ h. cc));
      bytes_read = λ h. cc;
      no_bytes = unasked;
    })

keeps_cut : (chosen : Option Chosen) (before after : Scene) (status : Status) → (is_usage chosen ≡ true → (status ≡ Usage) ⊎ (status ≡ NoMemory)) → Comes (inputs_of chosen) (IsOwnText chosen) (output_of chosen) (IsOutcome chosen) before after status
    → IsCutShort (inputs_of chosen) before after status → Keeps chosen before after status
keeps_cut chosen before after status only c cut =
    let unasked = c.unasked in
    let usual = subst (λ (s : Status). is_usage chosen ≡ true → (s ≡ Usage) ⊎ (s ≡ NoMemory)) cut.is_fault only in
    subst (Keeps chosen before after) (sym cut.is_fault) (record {
      answer = cut.failed;
      done_folder = λ h. cc;
      done_text = λ h. cc;
      refused_folder = λ _. inl cut.untouched.folder;
      refused_text = λ _. inl cut.untouched.out;
      text_after_file = inl cut.untouched.out;
      fault_after_file = λ h. cc;
      refused_line = λ _. (_, (cut.input, cut.reached, refl), cut.line);
      usage = λ h. cc;
      usage_only = usual;
      no_file = λ h. cc;
      no_reads = λ none. absurd (none_reached (inputs_of chosen) before.files.folder cut.input none cut.reached);
      bytes_read = λ h. cc;
      no_bytes = unasked;
    })

pub keeps_only : (chosen : Option Chosen) (before after : Scene) (status : Status) → (is_usage chosen ≡ true → (status ≡ Usage) ⊎ (status ≡ NoMemory)) → Comes (inputs_of chosen) (IsOwnText chosen) (output_of chosen) (IsOutcome chosen) before after status → Keeps chosen before after status
keeps_only chosen before after status only c =
    elim c.ends as (λ _. Keeps chosen before after status) [ inl e ↦ keeps_ended chosen before after status only c e | inr (inl stopped) ↦ keeps_stopped chosen before after status c stopped | inr (inr cut) ↦ keeps_cut chosen before after status only c cut ]

not_usage : (chosen : Option Chosen) (status : Status) → is_usage chosen ≡ false → is_usage chosen ≡ true → (status ≡ Usage) ⊎ (status ≡ NoMemory)
not_usage chosen status h k = absurd cc

-- A command that is there keeps what is promised.
pub keeps : (chosen : Option Chosen) (before after : Scene) (status : Status) → is_usage chosen ≡ false → Comes (inputs_of chosen) (IsOwnText chosen) (output_of chosen) (IsOutcome chosen) before after status → Keeps chosen before after status
keeps chosen before after status there c = keeps_only chosen before after status (not_usage chosen status there) c

-- words that are out of the grammar
usage_text : (chosen : Option Chosen) → is_usage chosen ≡ true → IsOwnText chosen (codes "usage") Usage
usage_text None h = (refl, refl)
usage_text (Some (Cs res file)) h = cc
usage_text (Some (Rll lon lat file)) h = absurd cc
usage_text (Some (Ico res dual file)) h = absurd cc
usage_text (Some (Overlap a b out workers)) h = absurd cc
usage_text (Some (OfflineMap in_mesh out_mesh ov_mesh out_map)) h = absurd cc
usage_text (Some (Apply map var in_data out_data masked)) h = absurd cc
usage_text (Some (SelfRun n workers)) h = absurd cc
usage_text (Some (Coverage a b)) h = absurd cc
usage_text (Some (Check file workers)) h = absurd cc

pub keeps_usage : (chosen : Option Chosen) (before after : Scene) (status : Status) → is_usage chosen ≡ true → after.files ≡ before.files → after.out ≡ before.out → status ≡ Usage → PutsText before.err after.err (codes "usage") → Keeps chosen before after status
keeps_usage chosen before after status asked files out is put =
    keeps_only chosen before after status (λ _. inl is)
    (comes_own (inputs_of chosen) (IsOwnText chosen) (output_of chosen) (IsOutcome chosen) before after (codes "usage") Usage status (usage_outcome chosen before.files.folder asked) (usage_text chosen asked) tt (λ h. cc) files out is put)

-- memory ran out before a device was called
pub keeps_no_memory : (chosen : Option Chosen) (before after : Scene) (status : Status) → after.files ≡ before.files → after.out ≡ before.out → status ≡ NoMemory → PutsText before.err after.err (codes "no memory") → Keeps chosen before after status
keeps_no_memory chosen before after status files out is put =
    keeps_only chosen before after status (λ _. inr is) (comes_stopped (inputs_of chosen) (IsOwnText chosen) (output_of chosen) (IsOutcome chosen) before after status files out is put)
