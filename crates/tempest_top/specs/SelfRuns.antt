-- The values of a self-run, and its text. Source: our own.
use Rattle.std.specs.Prelude.{ℕ, ◌*◌, ◌%◌, ℤ, pos, ◌-ℤ◌, List, ◌++◌, length, map, codes, decimal, ⊤}
use Rattle.std.specs.List.{range_with_len}
use Rattle.std.specs.Fmt.{signed_decimal}
use Rattle.vec_exact.specs.declared.RawMesh.{RawMesh}
use Rattle.map_rows.specs.Application.{source_mass_of, target_mass_of}
use Rattle.remap_chain.specs.declared.whole.ChainOut.{ChainOut}
use Rattle.remap_chain.specs.declared.faults.ChainFault.{ChainFault}
use Rattle.remap_chain.specs.declared.faults.ChainFault.TheVariants.{TooManyPieces, Uncovered as NoSource, Length, NoMemory as NoChainMemory}
use Rattle.fault_lines.specs.declared.status.Status.{Status}
use Rattle.fault_lines.specs.declared.status.Status.TheVariants.{Uncovered, Limit, Field, NoMemory}
use Rattle.fault_lines.specs.Faults.{too_many_pieces_text}
use Rattle.fault_lines.specs.RowFaults.{uncovered_text}

-- the value at a source face, which counts from 1
abbrev pub value_of_face : ℕ → ℤ
value_of_face face = pos (7919 * face % 2001) -ℤ pos 1000

-- the values at so many source faces
abbrev pub values_of_faces : ℕ → List ℤ
values_of_faces count = map value_of_face (range_with_len 1 count)

-- a line that tells of a number by its name
abbrev pub number_line : List ℕ → ℕ → List ℕ
number_line name number = name ++ codes " " ++ decimal number ++ codes "\n"

abbrev pub mass_line : List ℕ → ℤ → List ℕ
mass_line name mass = name ++ codes " " ++ signed_decimal mass ++ codes "\n"

-- how many faces the two meshes have
abbrev pub face_lines : ℕ → ℕ → List ℕ
face_lines sources targets = number_line (codes "source_faces") sources ++ number_line (codes "target_faces") targets

-- and how many pairs of them meet
abbrev pub meeting_lines : ℕ → ℕ → ℕ → List ℕ
meeting_lines sources targets pieces = face_lines sources targets ++ number_line (codes "pieces") pieces

-- the mass of the field over the sources, and that of the field over the targets
abbrev pub mass_lines : ℤ → ℤ → List ℕ
mass_lines source target = mass_line (codes "source_mass") source ++ mass_line (codes "target_mass") target

-- what is put to the output for the whole chain
abbrev pub chain_text : RawMesh → RawMesh → List ℤ → ChainOut → List ℕ
chain_text source target values out =
    meeting_lines (length source.faces) (length target.faces) out.pieces ++ mass_lines (source_mass_of out.map 1 values) (target_mass_of out.map 1 out.field.whole out.field.rest)

-- what is told where there is no chain; a self-run never has the wrong number of values
abbrev pub status_of_chain : ChainFault → Status
status_of_chain (TooManyPieces n) = Limit
status_of_chain (NoSource j) = Uncovered
status_of_chain (Length sources values) = Field
status_of_chain NoChainMemory = NoMemory

abbrev pub chain_fault_text : ChainFault → List ℕ
chain_fault_text (TooManyPieces n) = too_many_pieces_text n
chain_fault_text (NoSource j) = uncovered_text j
chain_fault_text (Length sources values) = codes "length " ++ decimal values ++ codes " map " ++ decimal sources
chain_fault_text NoChainMemory = codes "no memory"

-- a fault that a self-run may have
abbrev pub IsSelfRunFault : ChainFault → Type 0
IsSelfRunFault (TooManyPieces n) = ⊤
IsSelfRunFault (NoSource j) = ⊤
IsSelfRunFault (Length sources values) = ⊥
IsSelfRunFault NoChainMemory = ⊤
