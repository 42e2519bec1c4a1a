use Rattle.map_files.proofs.FoundMap.{map_vars_ok}
use Rattle.map_load.proofs.loading.from_rows.Goals as goal

pub map_from-requires-clause-source_faces : goal.map_from-requires-clause-source_faces
map_from-requires-clause-source_faces c = (map_vars_ok c.args.file.now c.args.vars.now c.requires.found).source_faces

pub map_from-requires-clause-target_faces : goal.map_from-requires-clause-target_faces
map_from-requires-clause-target_faces c = (map_vars_ok c.args.file.now c.args.vars.now c.requires.found).target_faces

pub map_from-requires-clause-rows : goal.map_from-requires-clause-rows
map_from-requires-clause-rows c = (map_vars_ok c.args.file.now c.args.vars.now c.requires.found).rows
