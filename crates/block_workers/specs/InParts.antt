-- Blocks that were put in parts (our own).
use Rattle.std.specs.Prelude.{◌≡◌, ℕ, ◌<◌, List, length}
use Rattle.std.specs.List.{HoldsAt}
use Rattle.block_workers.specs.declared.job.Placed.{Placed}

-- block s was put in one of the parts, and what is told of it holds there
abbrev pub IsPlacedBy : {P X : Type 0} → (P → ℕ → X → Type 0) → List P → ℕ → Placed X → Type 0
IsPlacedBy gives parts s x = (x.part < length parts) × HoldsAt (λ part. gives part s x.output) parts x.part

-- block s was put in this part, which has this number
abbrev pub IsPutIn : {P X : Type 0} → (P → ℕ → X → Type 0) → ℕ → P → ℕ → Placed X → Type 0
IsPutIn gives number part s x = (x.part ≡ number) × gives part s x.output
