use mir.Syntax.{w8}
use mir.Val.{to_z}
use Rattle.std.proofs.Common.{◌<◌, ◌^◌, ◌∙◌, ◌++◌, ℕ, [], ◌∷◌, length, ap, arith}
use Rattle.clip.specs.declared.pieces.Piece.{Piece}
use Rattle.remap_files.proofs.Taken.{number_step}
use Rattle.remap_files.proofs.columns.ring_sizes.Goals as goal

pub loop-piece-preserved : goal.loop-piece-preserved
loop-piece-preserved c =
    let pieces = c.args.pieces.now in
    let i = c.loop-piece.piece-index in
    let p = c.piece-item.result in
    let so_far = c.loop-piece.values.items in
    let small : length p.ring.items < 2 ^ 7 = omega (arith, c.len.ensures.value, c.len.ensures.fits) in
    number_step w8 (λ (q : Piece). length q.ring.items) pieces i p p [] so_far c.push.new.self.items c.loop-piece-test.true c.piece-item.is small c.loop-piece.invariant
    (c.in_ok-push.ensures.items ∙ ap (λ (n : ℕ). so_far ++ to_z w8 n ∷ []) c.len.ensures.value)
