use Rattle.remap_files.proofs.FoundOverlap.{overlap_vars_ok}
use Rattle.overlap_load.proofs.loading.from_rows.Goals as goal

pub overlap_from-requires-clause-source_faces : goal.overlap_from-requires-clause-source_faces
overlap_from-requires-clause-source_faces c = (overlap_vars_ok c.args.file.now c.args.vars.now c.requires.found).source_faces

pub overlap_from-requires-clause-target_faces : goal.overlap_from-requires-clause-target_faces
overlap_from-requires-clause-target_faces c = (overlap_vars_ok c.args.file.now c.args.vars.now c.requires.found).target_faces

pub overlap_from-requires-clause-pieces : goal.overlap_from-requires-clause-pieces
overlap_from-requires-clause-pieces c = (overlap_vars_ok c.args.file.now c.args.vars.now c.requires.found).pieces
