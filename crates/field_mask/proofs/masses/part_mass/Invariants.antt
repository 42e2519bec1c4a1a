use Rattle.std.proofs.Common.{◌≡◌, ◌*◌, ◌≤◌, unsigned_abs}
use Rattle.field_mask.specs.Masked.{part_mass_of}
use Rattle.field_mask.proofs.masses.part_mass.Given as goal

abbrev pub invariant-loop-slice : goal.invariant-loop-slice
invariant-loop-slice l = (l.mass ≡ part_mass_of l.map l.slice l.field) × (unsigned_abs l.mass ≤ 19807040628566084398385987584 * l.slice)
