-- A file that was replaced whole, before its text is put.
use Rattle.std.proofs.Common.{◌≡◌, ◌≢◌, ◌∙◌, ◌++◌, ℕ, List, Option, Some, None, option_map, length, codes, inl, inr, refl, sym, ap, subst}
use Rattle.std.proofs.Math.Seq.{take-length}
use Rattle.remap_io.specs.Causes.{Rose}
use Rattle.remap_io.specs.Folder.{Folder, with_file, IsPartlyReplaced}
use Rattle.fault_lines.specs.declared.status.Status.{Status}
use Rattle.fault_lines.specs.declared.status.Status.TheVariants.{Done, Usage, NoFile, Format, Names, Mesh, Rows, Uncovered, Limit, Field, ReadFault, WriteFault, NoMemory}
use Rattle.tempest_top.specs.Scene.{Scene, scene}
use Rattle.tempest_top.specs.Outcome.{Output, Outcome, text_alone, written}
use Rattle.fault_lines.specs.Lines.{PutsText}
use Rattle.tempest_top.specs.Promises.{IsLate}
use Rattle.tempest_top.specs.Ends.{IsEnd, Ends}

-- it holds all of its new bytes, which is a case of holding a prefix of them
whole_is_part : (old new : Option Folder) (name bytes : List ℕ) → new ≡ option_map (λ m. with_file m name bytes) old → IsPartlyReplaced old name bytes new
whole_is_part None new name bytes h = h
whole_is_part (Some m) new name bytes h = inr (length bytes, h ∙ ap (λ b. Some (with_file m name b)) (sym (take-length bytes)))

-- a call whose outcome is Done ends so, or late
late : (text : List ℕ) (m : Option Folder) (status : Status) → IsEnd (text_alone text m) status → status ≢ Done → IsLate status
late text m Done end not_done = absurd (not_done refl)
late text m Usage end not_done = absurd cc
late text m NoFile end not_done = absurd cc
late text m Format end not_done = absurd cc
late text m Names end not_done = absurd cc
late text m Mesh end not_done = absurd cc
late text m Rows end not_done = absurd cc
late text m Uncovered end not_done = absurd cc
late text m Limit end not_done = absurd cc
late text m Field end not_done = absurd cc
late text m ReadFault end not_done = absurd end
late text m WriteFault end not_done = tt
late text m NoMemory end not_done = tt

pub ends_written : (output : Output) (text : List ℕ) (before after : Scene) (status : Status) → after.files.folder ≡ option_map (λ m. with_file m output.name output.bytes) before.files.folder
    → Ends (text_alone text after.files.folder) (scene after.files before.out before.err) after status → Ends (written output text before.files.folder) before after status
ends_written output text before after status whole ends = record {
  answer = ends.answer;
  done_folder = λ _. whole;
  done_text = ends.done_text;
  refused_folder = λ h. inr (late text after.files.folder status ends.answer h, refl, whole_is_part before.files.folder after.files.folder output.name output.bytes whole);
  refused_text = ends.refused_text;
  text_after_file = inr whole;
  fault_after_file = λ _. inr whole;
  refused_line = ends.refused_line;
  fault_line = λ h. let put = ends.fault_line h in (put.0, inr put.1, put.2);
}

-- memory ran out before anything was written
pub ends_memory : (o : Outcome) (before after : Scene) (status : Status) → after.files.folder ≡ before.files.folder → after.out ≡ before.out → status ≡ NoMemory → PutsText before.err after.err (codes "no memory") → Ends o before after status
ends_memory o before after status folder out is put =
    subst (Ends o before after) (sym is) (record {
      answer = tt;
      done_folder = λ h. cc;
      done_text = λ h. cc;
      refused_folder = λ _. inl folder;
      refused_text = λ _. inl (ap (λ s. s.contents) out);
      text_after_file = inl (ap (λ s. s.contents) out);
      fault_after_file = λ h. cc;
      refused_line = λ _ _. (codes "no memory", refl, put);
      fault_line = λ h. cc;
    })

-- the file wasn't replaced
pub ends_failed : (output : Output) (text : List ℕ) (before after : Scene) → IsPartlyReplaced before.files.folder output.name output.bytes after.files.folder → Rose before.files.write_faults after.files.write_faults
    → after.out ≡ before.out → PutsText before.err after.err (codes "write fault on " ++ output.name) → Ends (written output text before.files.folder) before after WriteFault
ends_failed output text before after part rose out put = record {
  answer = refl;
  done_folder = λ h. cc;
  done_text = λ h. cc;
  refused_folder = λ _. inr (tt, refl, part);
  refused_text = λ _. inl (ap (λ s. s.contents) out);
  text_after_file = inl (ap (λ s. s.contents) out);
  fault_after_file = λ _. inl rose;
  refused_line = λ _ not_write. absurd (not_write refl);
  fault_line = λ _. (codes "write fault on " ++ output.name, inl (refl, rose), put);
}
