use mir.Syntax.{w32}
use Rattle.std.proofs.Common.{◌<◌, ◌^◌, [], sym, subst}
use Rattle.clip.specs.declared.pieces.Piece.{Piece}
use Rattle.remap_files.proofs.Taken.{number_step}
use Rattle.remap_files.proofs.columns.targets.Goals as goal

pub loop-piece-preserved : goal.loop-piece-preserved
loop-piece-preserved c =
    let pieces = c.args.pieces.now in
    let i = c.loop-piece.piece-index in
    let p = c.piece-item.result in
    number_step w32 (λ (q : Piece). q.b) pieces i p p [] c.loop-piece.values.items c.push.new.self.items c.loop-piece-test.true c.piece-item.is (subst (λ (q : Piece). q.b < 2 ^ 31) (sym c.piece-item.is) (c.requires i p c.loop-piece-test.true).target)
    c.loop-piece.invariant c.in_ok-push.ensures.items
