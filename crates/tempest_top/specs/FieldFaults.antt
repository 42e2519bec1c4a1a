-- The texts of faults of map files and data files, and of variables that a map makes no field of. Source: our own.
use Rattle.std.specs.Prelude.{◌≡◌, ◌⊎◌, ℕ, List, ◌++◌, codes, decimal}
use Rattle.map_rows.specs.Maps.{MapParts}
use Rattle.exodus_mesh.specs.declared.ids.NameFault.{NameFault}
use Rattle.exodus_mesh.specs.declared.faults.FileFault.{FileFault}
use Rattle.map_load.specs.MapFile.{map_kind}
use Rattle.data_load.specs.declared.DataVar.{DataVar}
use Rattle.data_load.specs.DataFile.{data_kind}
use Rattle.fault_lines.specs.declared.status.Status.{Status}
use Rattle.fault_lines.specs.declared.status.Status.TheVariants.{Names, Field}
use Rattle.fault_lines.specs.Faults.{FileWords, name_fault_text}
use Rattle.fault_lines.specs.RowFaults.{status_of_file_fault, file_fault_text}

abbrev pub map_words : FileWords MapParts FileFault
map_words = record { kind = map_kind; status = status_of_file_fault; text = file_fault_text }

-- a variable of a data file is at fault; `--var` gave the name `var`
abbrev pub status_of_data_fault : NameFault → Status
status_of_data_fault fault = Names

abbrev pub data_fault_text : List ℕ → List ℕ → NameFault → List ℕ
data_fault_text var file fault = name_fault_text file var fault

abbrev pub data_words : List ℕ → FileWords DataVar NameFault
data_words var = record { kind = data_kind var; status = status_of_data_fault; text = data_fault_text var }

-- no trailing dimensions of a variable fit a map: the last one has this length, and the map so many sources
abbrev pub no_fit_text : List ℕ → ℕ → ℕ → List ℕ
no_fit_text file last_len n_a = file ++ codes ": length " ++ decimal last_len ++ codes " map " ++ decimal n_a

-- a value is the fill value: it is named by its place, from 1
abbrev pub fill_text : List ℕ → ℕ → List ℕ
fill_text file place = file ++ codes ": fill value at " ++ decimal place

-- what is said where a map makes no field of the variable of a file
abbrev pub IsFieldFaultText : List ℕ → List ℕ → Status → Type 0
IsFieldFaultText file text status =
    (status ≡ Field) × (((last_len : ℕ) × ((n_a : ℕ) × (text ≡ no_fit_text file last_len n_a))) ⊎ ((place : ℕ) × (text ≡ fill_text file place)))
