use Rattle.std.proofs.Common.{◌≡◌, ◌∙◌, ◌+◌, ◌*◌, ◌++◌, ℕ, List, length, subst, sym, ap, arith, Option, slice_range, nat_le, if◌then◌else◌}
use Rattle.std.specs.List.{flat_map, range_with_len}
use Rattle.nc_write.proofs.Records.{flat_range_more}
use Rattle.nc_format.specs.Numbers.{piece_of}
use Rattle.remap_io.specs.Folder.{Folder}
use Rattle.remap_io.specs.Folder.{OnFile}
use Rattle.remap_load.specs.Pieces.{piece_cost}
use Rattle.remap_load.proofs.Fronts.{on_file}
use Rattle.remap_load.specs.Loading.{IsReadFault}
use Rattle.remap_load.proofs.Reading.{handed_on, fault_later, asks_on}
use Rattle.remap_load.proofs.Costs.{cost_more, cost_within}
use Rattle.remap_load.proofs.variables.piece_bytes.Goals as goal

pub returns-in_err-put_piece-clause-fault : goal.returns-in_err-put_piece-clause-fault
returns-in_err-put_piece-clause-fault g c =
    let before = g.F.Files.seen c.args.files.now in
    let after = g.F.Files.seen c.put_piece.new.files in
    let fault = c.in_err-put_piece.field-0.0 in
    handed_on (IsReadFault before after) c.from_residual-in_err-put_piece.result fault c.from_residual-in_err-put_piece.ensures.1
    (fault_later before (g.F.Files.seen c.loop-r.files) after fault c.loop-r.invariant.reads.reads c.in_err-put_piece.ensures.fault)

pub returns-in_err-put_piece-clause-reads : goal.returns-in_err-put_piece-clause-reads
returns-in_err-put_piece-clause-reads g c =
    let v = c.args.var.now in
    let have = length c.args.head.now.prefix in
    let r = c.loop-r.r in
    let one : (if nat_le (v.begin + c.from.result * v.step + v.part) have then 0 else v.part) ≡ piece_cost have v r = ap (λ (k : ℕ). piece_cost have v k) c.from.ensures in
    asks_on _ _ _ _ _ _ (omega (arith, one, cost_more have v r, cost_within have v (r + 1) v.parts (omega arith))) c.loop-r.invariant.reads c.put_piece.ensures.reads

pub loop-r-preserved : goal.loop-r-preserved
loop-r-preserved g c =
    let v = c.args.var.now in
    let name = c.args.name.now in
    let folder = (g.F.Files.seen c.args.files.now).folder in
    let have = length c.args.head.now.prefix in
    let r = c.loop-r.r in
    let bytes = c.loop-r.bytes.items in
    let next = c.put_piece.new.bytes.items in
    let at = v.begin + c.from.result * v.step in
    let one : (if nat_le (at + v.part) have then 0 else v.part) ≡ piece_cost have v r = ap (λ (k : ℕ). piece_cost have v k) c.from.ensures in
    let put : OnFile folder name (λ all. next ≡ bytes ++ slice_range all at (at + v.part)) =
    subst (λ (m : Option Folder). OnFile m name (λ all. next ≡ bytes ++ slice_range all at (at + v.part))) c.loop-r.invariant.reads.reads.same_folder c.in_ok-put_piece.ensures.piece in
    let pieces : OnFile folder name (λ all. next ≡ flat_map (piece_of v all) (range_with_len 0 (r + 1))) =
    on_file folder name (λ all. bytes ≡ flat_map (piece_of v all) (range_with_len 0 r)) (λ all. next ≡ bytes ++ slice_range all at (at + v.part)) (λ all. next ≡ flat_map (piece_of v all) (range_with_len 0 (r + 1)))
    (λ all before here.
    here
    ∙ ap (λ (k : ℕ). bytes ++ piece_of v all k) c.from.ensures
    ∙ ap (λ (l : List ℕ). l ++ piece_of v all r) before
    ∙ sym (flat_range_more (piece_of v all) r))
    c.loop-r.invariant.pieces put in
    record {
      pieces = pieces;
      long = omega (arith, c.in_ok-put_piece.ensures.len, c.loop-r.invariant.long);
      reads = asks_on _ _ _ _ _ _ (omega (arith, one, cost_more have v r)) c.loop-r.invariant.reads c.put_piece.ensures.reads;
    }
