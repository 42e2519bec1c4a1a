use Rattle.std.proofs.Common.{◌≡◌, ◌+◌, ◌≤◌, length, arith}
use Rattle.std.specs.Prelude.{IfSome}
use Rattle.nc_format.specs.Header.{IsHeader}
use Rattle.remap_io.specs.Folder.{OnFile}
use Rattle.remap_load.specs.Heads.{IsHeadOfBytes}
use Rattle.remap_load.specs.Kinds.{head_cost}
use Rattle.remap_load.proofs.Fronts.{on_this_file}
use Rattle.remap_load.proofs.Reading.{each_ok}
use Rattle.remap_load.proofs.Contents.{each_refusal, cost_of_file, cost_of_head}
use Rattle.overlap_load.specs.OverlapFile.{overlap_kind, IsOfHead}
use Rattle.overlap_load.specs.Windows.{rest_bytes}
use Rattle.overlap_load.proofs.windows.open_overlap.Goals as goal

pub returns-clause-asked : goal.returns-clause-asked
returns-clause-asked g c =
    let name = c.args.name.now in
    let folder = (g.F.Files.seen c.args.files.now).folder in
    let head = c.in_ok-head.head in
    let new = (g.F.Files.seen c.open_by_head.new.files).taken in
    let header : OnFile folder name (λ bytes. IsHeader bytes (length bytes) head.file) = on_this_file folder name (IsHeadOfBytes head) (λ bytes. IsHeader bytes (length bytes) head.file) (λ bytes h. h.header) c.in_ok-head.ensures.of_file in
    each_ok _ _ c.open_by_head.result (λ r h. cost_of_file overlap_kind folder name head.file _ _ (new + rest_bytes r) header c.in_ok-head.ensures.asked_of_file h) c.open_by_head.ensures.asked

pub returns-clause-values_last : goal.returns-clause-values_last
returns-clause-values_last g c =
    let name = c.args.name.now in
    let folder = (g.F.Files.seen c.args.files.now).folder in
    let head = c.in_ok-head.head in
    let old = (g.F.Files.seen c.args.files.now).taken in
    let mid = (g.F.Files.seen c.load_header.new.files).taken in
    let new = (g.F.Files.seen c.open_by_head.new.files).taken in
    let header : OnFile folder name (λ bytes. IsHeader bytes (length bytes) head.file) = on_this_file folder name (IsHeadOfBytes head) (λ bytes. IsHeader bytes (length bytes) head.file) (λ bytes h. h.header) c.in_ok-head.ensures.of_file in
    each_refusal (λ refusal. IsOfHead refusal → new ≡ mid) (λ refusal. IsOfHead refusal → IfSome folder (λ m. new ≤ old + head_cost m name)) c.open_by_head.result
    (λ r h k. cost_of_head folder name head.file old mid new header c.in_ok-head.ensures.asked_of_file (omega (arith, h k))) c.open_by_head.ensures.values_last
