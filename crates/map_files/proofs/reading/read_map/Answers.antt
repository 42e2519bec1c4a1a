use Rattle.std.proofs.Common.{length, sym, subst}
use Rattle.exodus_mesh.specs.declared.faults.FileFault.TheVariants.{NoMemory}
use Rattle.nc_format.specs.Answers.{IsFaultOf}
use Rattle.map_files.specs.MapIn.{map_in}
use Rattle.map_files.proofs.ReadMaps.{map_names_refused}
use Rattle.map_files.proofs.reading.read_map.Goals as goal

pub find_map-requires : goal.find_map-requires
find_map-requires c = record { sound = c.law_first_fault.ensures.sound c.args.bytes.now (length c.args.bytes.now) c.args.file.now c.requires.header }

pub returns-in-Err-clause-fault : goal.returns-in-Err-clause-fault
returns-in-Err-clause-fault c =
    subst (IsFaultOf NoMemory (map_in c.args.file.now c.args.bytes.now)) (sym c.file_fault.ensures.fault) (map_names_refused c.args.file.now c.args.bytes.now c.in-Err.fault c.in-Err.ensures.fault)
