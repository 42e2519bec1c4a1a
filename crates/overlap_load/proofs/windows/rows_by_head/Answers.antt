use Rattle.std.proofs.Common.{◌≡◌, ◌∙◌, [], List, ℤ, ap, sym, subst}
use Rattle.nc_format.proofs.SoundParts.{header_is_sound}
use Rattle.remap_files.specs.OverlapRows.{columns_of, row_fault}
use Rattle.remap_files.specs.Rows.{with_corners}
use Rattle.remap_files.proofs.FoundOverlap.{overlap_vars_ok}
use Rattle.remap_load.specs.Kinds.{IsFileRefusal}
use Rattle.remap_load.proofs.Contents.{handed_on}
use Rattle.overlap_load.specs.OverlapFile.{overlap_kind}
use Rattle.overlap_load.specs.Windows.{IsRowRefusal}
use Rattle.overlap_load.proofs.OneOverlap.{header_refusal}
use Rattle.overlap_load.proofs.Windowed.{row_refused}
use Rattle.overlap_load.proofs.windows.rows_by_head.Goals as goal

pub named_vars-requires : goal.named_vars-requires
named_vars-requires g c = let head = c.args.head.now in header_is_sound head.prefix head.len head.file c.requires.head.header

pub returns-in_err-vars-clause-refusal : goal.returns-in_err-vars-clause-refusal
returns-in_err-vars-clause-refusal g c =
    let seen = g.F.Files.seen c.args.files.now in
    let found = c.in_err-vars.field-0.0 in
    handed_on (IsFileRefusal overlap_kind seen seen c.args.name.now) c.from_residual.result found c.from_residual.ensures.1
    (header_refusal seen seen c.args.name.now c.args.head.now found c.requires.head c.requires.of_file c.in_err-vars.ensures.refusal)

pub test_rows-requires-clause-count : goal.test_rows-requires-clause-count
test_rows-requires-clause-count g c = (overlap_vars_ok c.args.head.now.file c.in_ok-vars.vars c.in_ok-vars.ensures.found).pieces

pub returns-in_err-test_rows-clause-refusal : goal.returns-in_err-test_rows-clause-refusal
returns-in_err-test_rows-clause-refusal g c =
    let old = g.F.Files.seen c.args.files.now in
    let new = g.F.Files.seen c.load_rows.new.files in
    let vars = c.in_ok-vars.vars in
    let found = c.in_err-test_rows.field-0.0 in
    let values = c.in_ok-values.values.items in
    let refusal : IsRowRefusal vars (with_corners (columns_of values) []) found = subst (λ (l : List (List ℤ)). IsRowRefusal vars (with_corners (columns_of l) []) found) c.deref.ensures.value c.in_err-test_rows.ensures.refusal in
    handed_on (IsFileRefusal overlap_kind old new c.args.name.now) c.from_residual-in_err-test_rows.result found c.from_residual-in_err-test_rows.ensures.1
    (row_refused old new c.args.name.now c.args.head.now vars values found c.requires.head c.requires.of_file c.in_ok-vars.ensures.found c.in_ok-values.ensures.values refusal)

pub returns-clause-good : goal.returns-clause-good
returns-clause-good g c =
    ap (λ (l : List (List ℤ)). row_fault c.in_ok-vars.vars (with_corners (columns_of l) [])) (sym c.deref.ensures.value) ∙ c.in_ok-test_rows.ensures.good
