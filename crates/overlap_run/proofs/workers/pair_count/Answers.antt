use Rattle.std.proofs.Common.{◌≡◌, ◌+◌, ◌*◌, ◌<◌, ◌≤◌, ℕ, List, refl, arith, length, slice_index_or, subst}
use Rattle.std.specs.Int.{div_ceil}
use Rattle.vec_exact.specs.declared.RawMesh.{RawMesh}
use Rattle.block_workers.specs.declared.job.Placed.{Placed}
use Rattle.overlap_run.specs.declared.blocks.Block.{Block}
use Rattle.overlap_run.specs.declared.blocks.Stretch.{Stretch}
use Rattle.overlap_run.specs.Parts.{IsNumberedBlock, IsFirstCount}
use Rattle.overlap_run.proofs.NumberedBlocks.{has_face, first_none, first_more, room_for}
use Rattle.overlap_run.proofs.Stretches.{waiting_count}
use Rattle.overlap_run.proofs.workers.pair_count.Goals as goal

-- the block at a place, as it is read
abbrev block_at : List (Placed (Block Stretch)) → ℕ → Block Stretch
block_at blocks s = (slice_index_or blocks s (record { part = 0; output = record { count = 0; pieces = record { from = record { pieces = 0; ring_numbers = 0; corner_components = 0 }; to = record { pieces = 0; ring_numbers = 0; corner_components = 0 } } } })).output

-- there is room for the pairs of one block more, and then they are counted
module _ (a b : RawMesh) (blocks : List (Placed (Block Stretch))) (s count : ℕ) (within : length blocks ≤ div_ceil (length a.faces) 64) (here : s < length blocks) where
  face : 64 * s < length a.faces
  face = has_face a s (div_ceil (length a.faces) 64) (omega (arith, within, here)) refl

  fits : length a.faces ≤ 1048576 → length b.faces ≤ 1048576 → IsFirstCount a b s count → IsNumberedBlock (λ _ _. Unit {0}) a b s (block_at blocks s) → count + (block_at blocks s).count < 18446744073709551616
  fits m n h k = room_for {C = Unit {0}} (λ _ _. Unit {0}) (λ _ _. Unit {0}) a b s face (record { count = count; pieces = tt }) (block_at blocks s) m n h k

  more : IsFirstCount a b s count → IsNumberedBlock (λ _ _. Unit {0}) a b s (block_at blocks s) → IsFirstCount a b (s + 1) (count + (block_at blocks s).count)
  more h k =
      first_more {C = Unit {0}} (λ _ _. Unit {0}) (λ _ _. Unit {0}) a b s face (record { count = count; pieces = tt }) (block_at blocks s) (record { count = count + (block_at blocks s).count; pieces = tt }) h k
      (record { count = refl; listed = λ l ps qs x y. tt; dropped = λ l. tt })

pub loop-block-init : goal.loop-block-init
loop-block-init g c = first_none {C = Unit {0}} (λ _ _. Unit {0}) c.args.a.now c.args.b.now _ refl tt

pub overflow_add-count : goal.overflow_add-count
overflow_add-count g c =
    let s = c.loop-block.block-index in
    let here = c.loop-block-test.true in
    let k = waiting_count g.C.PieceList.holds g.C.PieceList.is_behind c.args.a.now c.args.b.now c.args.workers.now s _ (c.requires.each s (record { part = 0; output = record { count = 0; pieces = record { from = record { pieces = 0; ring_numbers = 0; corner_components = 0 }; to = record { pieces = 0; ring_numbers = 0; corner_components = 0 } } } }) here) in
    omega (
      arith,
      fits c.args.a.now c.args.b.now c.args.blocks.now s c.loop-block.count c.requires.count here c.face_count-source_faces.ensures.accepted.counts.face_limit
          c.face_count-target_faces.ensures.accepted.counts.face_limit c.loop-block.invariant k,
    )

pub loop-block-preserved : goal.loop-block-preserved
loop-block-preserved g c =
    let s = c.loop-block.block-index in
    let here = c.loop-block-test.true in
    let k = waiting_count g.C.PieceList.holds g.C.PieceList.is_behind c.args.a.now c.args.b.now c.args.workers.now s _ (c.requires.each s (record { part = 0; output = record { count = 0; pieces = record { from = record { pieces = 0; ring_numbers = 0; corner_components = 0 }; to = record { pieces = 0; ring_numbers = 0; corner_components = 0 } } } }) here) in
    more c.args.a.now c.args.b.now c.args.blocks.now s c.loop-block.count c.requires.count here c.loop-block.invariant k

pub returns : goal.returns
returns g c =
    let all : c.loop-block.block-index ≡ length c.args.blocks.now = omega (arith, c.loop-block-test.false, c.loop-block.auto.block-index-end) in
    subst (λ (n : ℕ). IsFirstCount c.args.a.now c.args.b.now n c.loop-block.count) all c.loop-block.invariant
