-- Fields, and why a map makes none of values.
use Rattle.std.specs.Prelude.{◌≡◌, ◌≢◌, ℕ, ◌*◌, ℤ, List, length}
use Rattle.map_rows.specs.Maps.{MapParts}
use Rattle.map_rows.specs.Application.{WholeAndRest, wholes_of, rests_of}
use Rattle.apply_map.specs.declared.fields.Field.{Field}
use Rattle.apply_map.specs.declared.fields.ApplyFault.{ApplyFault}
use Rattle.apply_map.specs.declared.fields.ApplyFault.TheVariants.{Length, NoMemory}

-- the field with these whole parts and rests
abbrev pub field_of : List WholeAndRest → Field
field_of shares = record { whole = wholes_of shares; rest = rests_of shares }

-- want of memory comes only where the counts agree
abbrev pub IsApplyFaultOf : MapParts → ℕ → List ℤ → ApplyFault → Type 0
IsApplyFaultOf m slices values (Length sources field) = (sources ≡ m.n_a) × (field ≡ length values) × (length values ≢ slices * m.n_a)
IsApplyFaultOf m slices values NoMemory = length values ≡ slices * m.n_a
