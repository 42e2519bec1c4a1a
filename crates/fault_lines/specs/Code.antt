-- The number of each status.
use Rattle.std.specs.Prelude.{ℕ}
use Rattle.fault_lines.specs.declared.status.Status.{Status}
use Rattle.fault_lines.specs.declared.status.Status.TheVariants.{Done, Usage, NoFile, Format, Names, Mesh, Rows, Uncovered, Limit, Field, ReadFault, WriteFault, NoMemory}

abbrev pub code_of : Status → ℕ
code_of Done = 0
code_of Usage = 2
code_of NoFile = 3
code_of Format = 4
code_of Names = 5
code_of Mesh = 6
code_of Rows = 7
code_of Uncovered = 8
code_of Limit = 9
code_of Field = 10
code_of ReadFault = 11
code_of WriteFault = 12
code_of NoMemory = 13
