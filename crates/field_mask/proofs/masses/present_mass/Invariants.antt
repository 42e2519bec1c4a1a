use Rattle.std.proofs.Common.{◌≡◌, ◌*◌, ◌≤◌, unsigned_abs}
use Rattle.field_mask.specs.Masked.{present_mass_of}
use Rattle.field_mask.proofs.masses.present_mass.Given as goal

abbrev pub invariant-loop-slice : goal.invariant-loop-slice
invariant-loop-slice l = (l.mass ≡ present_mass_of l.map l.slice l.fill l.values) × (unsigned_abs l.mass ≤ 19807040628566084398385987584 * l.slice)
