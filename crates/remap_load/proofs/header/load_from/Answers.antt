use Rattle.std.proofs.Common.{rules, ◌≡◌, ◌+◌, ◌++◌, ℕ, List, length, subst, sym, arith, Option, slice_range}
use Rattle.remap_io.specs.Folder.{Folder}
use Rattle.remap_load.specs.declared.Head.{Head}
use Rattle.remap_io.specs.Folder.{OnFile}
use Rattle.remap_load.specs.Heads.{IsHead, IsHeadOfBytes, IsFront, IsCut}
use Rattle.remap_load.specs.Loading.{IsLoadFault, IsOfFront}
use Rattle.remap_load.proofs.Fronts.{on_this_file, on_file, head_of_bytes, fault_of_front, next_front, next_grown}
use Rattle.remap_load.proofs.Reading.{handed_on, fault_later, fault_of_load}
use Rattle.remap_load.proofs.header.load_from.Goals as goal

pub returns-in_err-file-clause-fault : goal.returns-in_err-file-clause-fault
returns-in_err-file-clause-fault g c =
    let name = c.args.name.now in
    let folder = (g.F.Files.seen c.args.files.now).folder in
    let front : OnFile folder name (IsFront c.growing.front.items c.args.len) = subst (λ (m : Option Folder). OnFile m name (IsFront c.growing.front.items c.args.len)) c.growing.invariant.reads.same_folder c.growing.invariant.front in
    let here : IsOfFront c.growing.front.items c.args.len c.in_err-file.field-0.0 = subst (λ (l : List ℕ). IsOfFront l c.args.len c.in_err-file.field-0.0) c.deref.ensures.value c.in_err-file.ensures.fault in
    handed_on (IsLoadFault (g.F.Files.seen c.args.files.now) (g.F.Files.seen c.growing.files) name) c.from_residual.result c.in_err-file.field-0.0 c.from_residual.ensures.1
    (fault_of_front (g.F.Files.seen c.args.files.now) (g.F.Files.seen c.growing.files) name c.growing.front.items c.args.len c.in_err-file.field-0.0 c.requires.short c.growing.invariant.many front here)

pub returns-in-Some-clause-of_file : goal.returns-in-Some-clause-of_file
returns-in-Some-clause-of_file g c =
    let name = c.args.name.now in
    let folder = (g.F.Files.seen c.args.files.now).folder in
    let head : Head = record { file = c.in-Some.file; len = c.args.len; prefix = c.growing.front.items } in
    let is : IsHead head = search rules in
    let front : OnFile folder name (IsFront c.growing.front.items c.args.len) = subst (λ (m : Option Folder). OnFile m name (IsFront c.growing.front.items c.args.len)) c.growing.invariant.reads.same_folder c.growing.invariant.front in
    on_this_file folder name (IsFront c.growing.front.items c.args.len) (IsHeadOfBytes head) (λ bytes h. head_of_bytes head bytes is h) front

pub growing-preserved : goal.growing-preserved
growing-preserved g c =
    let name = c.args.name.now in
    let before = (g.F.Files.seen c.growing.files).folder in
    let front = c.growing.front.items in
    let next = c.read_behind.new.bytes.items in
    let have = c.len-have.result in
    let more = c.min-more.result in
    let read : OnFile before name (λ all. next ≡ front ++ slice_range all have (have + more)) = c.in_ok-read_behind.ensures.read in
    let long : length next ≡ length front + more = c.in_ok-read_behind.ensures.len in
    let here : OnFile before name (IsFront next c.args.len) =
    on_file before name (IsFront front c.args.len) (λ all. next ≡ front ++ slice_range all have (have + more)) (IsFront next c.args.len) (λ bytes h is. next_front front next c.args.len have more bytes (search rules) h is long) c.growing.invariant.front read in
    let cut : IsCut front c.args.len = search rules in
    record {
      within = omega (arith, long, cut.shorter);
      many = λ lt. omega (arith, long, c.growing.invariant.many cut.shorter);
      front = subst (λ (m : Option Folder). OnFile m name (IsFront next c.args.len)) (sym c.read_behind.ensures.reads.reads.same_folder) here;
      grown = next_grown front next c.args.len more cut c.in_ok-read_behind.ensures.kept long (omega arith);
      reads = search rules;
      asked = omega (arith, long, c.growing.invariant.asked, c.read_behind.ensures.reads.asked);
    }

pub returns-in_err-read_behind-clause-fault : goal.returns-in_err-read_behind-clause-fault
returns-in_err-read_behind-clause-fault g c =
    let name = c.args.name.now in
    let before = g.F.Files.seen c.args.files.now in
    let after = g.F.Files.seen c.read_behind.new.files in
    let fault = c.in_err-read_behind.field-0.0 in
    handed_on (IsLoadFault before after name) c.from_residual-in_err-read_behind.result fault c.from_residual-in_err-read_behind.ensures.1
    (fault_of_load before after name fault (fault_later before (g.F.Files.seen c.growing.files) after fault c.growing.invariant.reads c.in_err-read_behind.ensures.fault))
