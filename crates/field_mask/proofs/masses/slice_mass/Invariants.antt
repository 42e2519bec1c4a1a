use Rattle.std.proofs.Common.{ℕ, length}
use Rattle.map_rows.specs.Application.{area_at, value_at}
use Rattle.apply_map.proofs.MassSteps.{MassSoFar}
use Rattle.field_mask.specs.Masked.{present_product}
use Rattle.field_mask.proofs.masses.slice_mass.Given as goal

abbrev pub invariant-loop-i : goal.invariant-loop-i
invariant-loop-i l = MassSoFar (λ (i : ℕ). present_product l.fill (area_at l.areas i) (value_at l.values (length l.areas) l.slice i)) l.areas l.i l.mass
