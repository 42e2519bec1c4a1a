-- Which faults a call answers that reads a file.
use Rattle.std.specs.Prelude.{◌≢◌}
use Rattle.exodus_mesh.specs.declared.ids.NameFault.{NameFault}
use Rattle.exodus_mesh.specs.declared.ids.NameFault.TheVariants as names
use Rattle.exodus_mesh.specs.declared.faults.FileFault.{FileFault}
use Rattle.exodus_mesh.specs.declared.faults.FileFault.TheVariants.{Name, Row, AreaA, AreaB, NoMemory}

-- the fault of a file with a fault of names; want of memory stays want of memory
abbrev pub file_fault_of : NameFault → FileFault
file_fault_of names.NoMemory = NoMemory
file_fault_of fault = Name fault

-- want of memory is said by NoMemory alone
abbrev pub SaysMemoryAlone : FileFault → Type 0
SaysMemoryAlone (Name fault) = fault ≢ names.NoMemory
SaysMemoryAlone (Row r) = Unit {0}
SaysMemoryAlone (AreaA i) = Unit {0}
SaysMemoryAlone (AreaB j) = Unit {0}
SaysMemoryAlone NoMemory = Unit {0}

-- neither a name nor an area is at fault
abbrev pub IsOfRows : FileFault → Type 0
IsOfRows (Name fault) = ⊥
IsOfRows (Row r) = Unit {0}
IsOfRows (AreaA i) = ⊥
IsOfRows (AreaB j) = ⊥
IsOfRows NoMemory = Unit {0}

-- no area is at fault
abbrev pub IsOfNamesOrRows : FileFault → Type 0
IsOfNamesOrRows (Name fault) = Unit {0}
IsOfNamesOrRows (Row r) = Unit {0}
IsOfNamesOrRows (AreaA i) = ⊥
IsOfNamesOrRows (AreaB j) = ⊥
IsOfNamesOrRows NoMemory = Unit {0}

-- no name is at fault
abbrev pub IsOfRowsOrAreas : FileFault → Type 0
IsOfRowsOrAreas (Name fault) = ⊥
IsOfRowsOrAreas (Row r) = Unit {0}
IsOfRowsOrAreas (AreaA i) = Unit {0}
IsOfRowsOrAreas (AreaB j) = Unit {0}
IsOfRowsOrAreas NoMemory = Unit {0}
