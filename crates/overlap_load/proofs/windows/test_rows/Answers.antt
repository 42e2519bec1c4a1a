use Rattle.std.proofs.Common.{◌∙◌, [], ap, sym}
use Rattle.remap_files.specs.OverlapRows.{Columns, row_fault}
use Rattle.remap_files.specs.Rows.{with_corners}
use Rattle.overlap_load.proofs.Windowed.{no_rows}
use Rattle.overlap_load.proofs.windows.test_rows.Goals as goal

pub returns-then-vars-eq0-clause-good : goal.returns-then-vars-eq0-clause-good
returns-then-vars-eq0-clause-good c = no_rows c.args.vars.now c.args.values.now c.if-vars-eq0.true c.requires.lens

pub returns-in-Some-clause-refusal : goal.returns-in-Some-clause-refusal
returns-in-Some-clause-refusal c = sym (c.in-Some.ensures [] ∙ ap (λ (rows : Columns). row_fault c.args.vars.now (with_corners rows [])) c.rows_of.ensures)

pub returns-in-None-clause-good : goal.returns-in-None-clause-good
returns-in-None-clause-good c = sym (c.in-None.ensures [] ∙ ap (λ (rows : Columns). row_fault c.args.vars.now (with_corners rows [])) c.rows_of.ensures)
