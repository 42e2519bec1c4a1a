-- The texts of faults of overlap files. Source: our own.
use Rattle.clip.specs.Overlaps.{OverlapParts}
use Rattle.exodus_mesh.specs.declared.faults.FileFault.{FileFault}
use Rattle.overlap_load.specs.OverlapFile.{overlap_kind}
use Rattle.fault_lines.specs.Faults.{FileWords}
use Rattle.fault_lines.specs.RowFaults.{file_fault_text, status_of_file_fault}

abbrev pub overlap_words : FileWords OverlapParts FileFault
overlap_words = record { kind = overlap_kind; status = status_of_file_fault; text = file_fault_text }
