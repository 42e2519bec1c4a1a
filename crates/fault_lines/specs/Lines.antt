-- The lines of refusals. Source: our own.
use Rattle.std.specs.Prelude.{◌≡◌, ◌⊎◌, ℕ, List, ◌++◌, take, codes, Option, Some, None}
use Rattle.remap_io.specs.Causes.{Rose}
use Rattle.remap_io.specs.Outside.{SinkSeen}

-- the line of a refusal
abbrev pub line_of : List ℕ → List ℕ
line_of text = codes "tempest: " ++ text ++ codes "\n"

-- The line went out, or a prefix of it: less than the whole only where the cause stands.
abbrev pub GainsLine : Option (List ℕ) → Option (List ℕ) → List ℕ → Type 0 → Type 0
GainsLine None new line cause = new ≡ None
GainsLine (Some held) new line cause = (new ≡ Some (held ++ line)) ⊎ (((n : ℕ) × (new ≡ Some (held ++ take n line))) × cause)

-- a put that was refused is counted
abbrev pub IsPutRefused : SinkSeen → SinkSeen → Type 0
IsPutRefused old new = Rose old.faults new.faults ⊎ Rose old.refusals new.refusals

-- The line of this text went out, or a prefix of it, and then a refused put is counted.
abbrev pub PutsText : SinkSeen → SinkSeen → List ℕ → Type 0
PutsText old new text = GainsLine old.contents new.contents (line_of text) (IsPutRefused old new)
