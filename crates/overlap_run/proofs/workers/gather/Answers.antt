use Rattle.std.proofs.Common.{◌≡◌, ◌+◌, ◌<◌, ◌≤◌, ℕ, [], ◌∷◌, ◌++◌, List, length, slice_index_or, refl, ap, sym, subst, arith, rules, length-append}
use Rattle.std.specs.Int.{div_ceil}
use Rattle.std.specs.List.{All}
use Rattle.vec_exact.specs.declared.RawMesh.{RawMesh}
use Rattle.clip.specs.declared.pieces.Piece.{Piece}
use Rattle.clip.specs.declared.columns.Place.{Place}
use Rattle.block_workers.specs.declared.job.Placed.{Placed}
use Rattle.block_workers.specs.InPlace.{AllInPlace}
use Rattle.block_workers.proofs.AtPart.{at_part}
use Rattle.overlap_run.specs.declared.blocks.Block.{Block}
use Rattle.overlap_run.specs.declared.blocks.Stretch.{Stretch}
use Rattle.overlap_run.specs.declared.blocks.Waiting.{Waiting}
use Rattle.overlap_run.specs.Parts.{IsNumberedBlock, IsWaitingBlock, AreFirstBlocks, StandsIn, DoesBlockWait, HasList}
use Rattle.overlap_run.proofs.NumberedBlocks.{has_face, first_none, first_more, room_for, from_first, first_in_place, rest_in_place}
use Rattle.overlap_run.proofs.workers.gather.Goals as goal

pub loop-block-init : goal.loop-block-init
loop-block-init g c =
    let is : c.into_iter-block-iterator.result.rest.items ≡ c.args.blocks.items = search rules in
    let P = DoesBlockWait g.C.PieceList.holds g.C.PieceList.is_behind c.args.a.now c.args.b.now c.args.workers.now in
    record {
      rest = subst (AllInPlace (λ t. P (0 + t))) (sym is) (from_first P c.args.blocks.items c.requires.each);
      size = omega (arith, ap length is);
      run = first_none g.C.PieceList.holds c.args.a.now c.args.b.now _ refl c.none.ensures;
    }

pub offset_bounds-workers-block : goal.offset_bounds-workers-block
offset_bounds-workers-block g c =
    let P = DoesBlockWait g.C.PieceList.holds g.C.PieceList.is_behind c.args.a.now c.args.b.now c.args.workers.now in
    omega (arith, (first_in_place P (length c.loop-block.yielded) c.loop-block.block-iterator.rest.items c.next.new.self.rest.items c.in-Some.block c.in-Some.ensures.steps.0 c.loop-block.invariant.rest).0)

-- the block that the list of its worker has
found : {C : Type 0} (Holds : C → List Piece → Type 0) (IsBehind : List Piece → Place → Type 0) (a b : RawMesh) (workers : List (Waiting C)) (s : ℕ) (x : Placed (Block Stretch)) (own : Waiting C)
    → own ≡ slice_index_or workers x.part own → All HasList workers → DoesBlockWait Holds IsBehind a b workers s x → IsNumberedBlock (StandsIn Holds IsBehind own.pieces) a b s x.output
found {C} Holds IsBehind a b workers s x own is lists waits =
    let waiting : IsWaitingBlock Holds IsBehind own a b s x.output = at_part (λ (o : Waiting C) (t : ℕ) (block : Block Stretch). IsWaitingBlock Holds IsBehind o a b t block) workers s x own is waits in
    waiting.stands (subst (λ (o : Waiting C). o.count ≤ 8388608) (sym is) (lists x.part own waits.0))

pub take_stretch-requires : goal.take_stretch-requires
take_stretch-requires g c = record {
  room =
      let a = c.args.a.now in
      let b = c.args.b.now in
      let s = length c.loop-block.yielded in
      let x = c.in-Some.block in
      let e = c.in-Some.ensures.steps.0 in
      let own = c.index-workers-block.result in
      let P = DoesBlockWait g.C.PieceList.holds g.C.PieceList.is_behind a b c.args.workers.now in
      let within : s < div_ceil (length a.faces) 64 = omega (arith, ap length e, c.loop-block.invariant.size, c.requires.count) in
      let face = has_face a s (div_ceil (length a.faces) 64) within refl in
      let numbered = found g.C.PieceList.holds g.C.PieceList.is_behind a b c.args.workers.now s x own c.index-workers-block.is c.requires.lists
      (first_in_place P s c.loop-block.block-iterator.rest.items c.next.new.self.rest.items x e c.loop-block.invariant.rest) in
      room_for g.C.PieceList.holds (StandsIn g.C.PieceList.holds g.C.PieceList.is_behind own.pieces) a b s face c.loop-block.run x.output c.face_count-source_faces.ensures.accepted.counts.face_limit
      c.face_count-target_faces.ensures.accepted.counts.face_limit c.loop-block.invariant.run numbered;
}

pub loop-block-preserved : goal.loop-block-preserved
loop-block-preserved g c =
    let a = c.args.a.now in
    let b = c.args.b.now in
    let s = length c.loop-block.yielded in
    let left = c.loop-block.block-iterator.rest.items in
    let rest = c.next.new.self.rest.items in
    let x = c.in-Some.block in
    let e = c.in-Some.ensures.steps.0 in
    let own = c.index-workers-block.result in
    let P = DoesBlockWait g.C.PieceList.holds g.C.PieceList.is_behind a b c.args.workers.now in
    let within : s < div_ceil (length a.faces) 64 = omega (arith, ap length e, c.loop-block.invariant.size, c.requires.count) in
    let face = has_face a s (div_ceil (length a.faces) 64) within refl in
    let numbered = found g.C.PieceList.holds g.C.PieceList.is_behind a b c.args.workers.now s x own c.index-workers-block.is c.requires.lists (first_in_place P s left rest x e c.loop-block.invariant.rest) in
    let more : length (c.loop-block.yielded ++ x ∷ []) ≡ s + 1 = length-append c.loop-block.yielded (x ∷ []) in
    record {
      rest = subst (λ (n : ℕ). AllInPlace (λ k. P (n + k)) rest) (sym more) (rest_in_place P s left rest x e c.loop-block.invariant.rest);
      size = omega (arith, more, ap length e, c.loop-block.invariant.size);
      run = subst (λ (n : ℕ). AreFirstBlocks g.C.PieceList.holds a b n c.take_stretch.new.run) (sym more)
          (first_more g.C.PieceList.holds (StandsIn g.C.PieceList.holds g.C.PieceList.is_behind own.pieces) a b s face c.loop-block.run x.output c.take_stretch.new.run c.loop-block.invariant.run numbered c.in_ok-take_stretch.ensures);
    }

pub returns : goal.returns
returns g c =
    let all : length c.loop-block.yielded ≡ length c.args.blocks.items =
    omega (arith, c.in-None.ensures.steps.0, c.loop-block.block-iterator.rest.ok.0, c.loop-block.invariant.size) in
    subst (λ (n : ℕ). AreFirstBlocks g.C.PieceList.holds c.args.a.now c.args.b.now n c.loop-block.run) all c.loop-block.invariant.run
