-- The table of commands and their options. The names of six commands are after the documentation of TempestRemap; the options are this project's own.
use Rattle.std.specs.Prelude.{ℕ, Bool, true, false, List, [], ◌∷◌, Option, codes, find}
use Rattle.std.specs.Str.{bytes_eq}
use Rattle.command_line.specs.declared.table.Command.{Command}
use Rattle.command_line.specs.declared.table.Command.TheVariants.{GenerateCSMesh, GenerateRLLMesh, GenerateICOMesh, GenerateOverlapMesh, GenerateOfflineMap, ApplyOfflineMap, SelfRun, CheckCoverage, CheckMesh}
use Rattle.command_line.specs.declared.table.Form.{Form}
use Rattle.command_line.specs.declared.table.Form.TheVariants.{Text, Number, Flag}

-- An option of a command: its name, whether the command needs it, and what stands behind the name.
pub record Rule : Type 0 where
  pub name : List ℕ
  pub required : Bool
  pub form : Form

-- An option that a command needs.
abbrev pub required : List ℕ → Form → Rule
required name form = record { name = name; required = true; form = form }

-- An option that a command can do without.
abbrev pub optional : List ℕ → Form → Rule
optional name form = record { name = name; required = false; form = form }

-- How many workers share the work.
abbrev pub workers : Rule
workers = optional (codes "workers") (Number 1 64)

-- The options of a command, those that it needs first. A number stands with the least and the greatest that is taken.
abbrev pub rules_of : Command → List Rule
rules_of GenerateCSMesh = required (codes "res") (Number 1 400) ∷ required (codes "file") Text ∷ []
rules_of GenerateRLLMesh = required (codes "lon") (Number 3 720) ∷ required (codes "lat") (Number 2 360) ∷ required (codes "file") Text ∷ []
rules_of GenerateICOMesh = required (codes "res") (Number 1 200) ∷ required (codes "file") Text ∷ optional (codes "dual") Flag ∷ []
rules_of GenerateOverlapMesh = required (codes "a") Text ∷ required (codes "b") Text ∷ required (codes "out") Text ∷ workers ∷ []
rules_of GenerateOfflineMap = required (codes "in_mesh") Text ∷ required (codes "out_mesh") Text ∷ required (codes "ov_mesh") Text ∷ required (codes "out_map") Text ∷ []
rules_of ApplyOfflineMap = required (codes "map") Text ∷ required (codes "var") Text ∷ required (codes "in_data") Text ∷ required (codes "out_data") Text ∷ optional (codes "masked") Flag ∷ []
rules_of SelfRun = required (codes "n") (Number 1 100) ∷ workers ∷ []
rules_of CheckCoverage = required (codes "a") Text ∷ required (codes "b") Text ∷ []
rules_of CheckMesh = required (codes "file") Text ∷ workers ∷ []

-- The word of a command.
abbrev pub word_of : Command → List ℕ
word_of GenerateCSMesh = codes "GenerateCSMesh"
word_of GenerateRLLMesh = codes "GenerateRLLMesh"
word_of GenerateICOMesh = codes "GenerateICOMesh"
word_of GenerateOverlapMesh = codes "GenerateOverlapMesh"
word_of GenerateOfflineMap = codes "GenerateOfflineMap"
word_of ApplyOfflineMap = codes "ApplyOfflineMap"
word_of SelfRun = codes "SelfRun"
word_of CheckCoverage = codes "CheckCoverage"
word_of CheckMesh = codes "CheckMesh"

-- The nine commands.
abbrev pub all_commands : List Command
all_commands = GenerateCSMesh ∷ GenerateRLLMesh ∷ GenerateICOMesh ∷ GenerateOverlapMesh ∷ GenerateOfflineMap ∷ ApplyOfflineMap ∷ SelfRun ∷ CheckCoverage ∷ CheckMesh ∷ []

-- The command that a word names, spelt exactly as in the table.
abbrev pub command_named : List ℕ → Option Command
command_named word = find (λ c. bytes_eq word (word_of c)) all_commands
