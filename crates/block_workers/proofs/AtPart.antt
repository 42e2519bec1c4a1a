-- What is known of a block at the part that it was put in, for those that borrow this part.
use Rattle.std.proofs.Common.{◌≡◌, ℕ, List, slice_index_or, sym, subst}
use Rattle.block_workers.specs.declared.job.Placed.{Placed}
use Rattle.block_workers.specs.InParts.{IsPlacedBy}

pub at_part : {P X : Type 0} (gives : P → ℕ → X → Type 0) (parts : List P) (s : ℕ) (x : Placed X) (part : P) → part ≡ slice_index_or parts x.part part → IsPlacedBy gives parts s x → gives part s x.output
at_part {P} gives parts s x part is placed = subst (λ (p : P). gives p s x.output) (sym is) (placed.1 part)
