use Rattle.std.proofs.Common.{◌+◌, ◌≤◌, refl, ap, ◌∙◌, arith}
use Rattle.std.specs.Int.{div_ceil}
use Rattle.overlap_run.proofs.NumberedBlocks.{has_face, clipped_none, clipped_more, clipped_at_most, first_none, first_all, ends_at_last}
use Rattle.overlap_run.specs.Parts.{clip_count}
use Rattle.overlap_run.proofs.run.ascending.Goals as goal

pub loop-s-init : goal.loop-s-init
loop-s-init g c =
    let a = c.args.a.now in
    let b = c.args.b.now in
    record {
      run = first_none g.C.PieceList.holds a b _ refl c.none.ensures;
      ticks = omega (arith, clipped_none a b);
    }

pub next_block-requires-clause-block : goal.next_block-requires-clause-block
next_block-requires-clause-block g c =
    has_face c.args.a.now c.loop-s.s c.div_ceil-s-end.result c.loop-s-test.true (c.div_ceil-s-end.ensures ∙ ap (λ n. div_ceil n 64) c.face_count-faces.ensures.count)

pub returns-in_err-next_block-clause-most : goal.returns-in_err-next_block-clause-most
returns-in_err-next_block-clause-most g c =
    let a = c.args.a.now in
    let b = c.args.b.now in
    let s = c.loop-s.s in
    let face = has_face a s c.div_ceil-s-end.result c.loop-s-test.true (c.div_ceil-s-end.ensures ∙ ap (λ n. div_ceil n 64) c.face_count-faces.ensures.count) in
    omega (arith, c.loop-s.invariant.ticks, c.next_block.ensures.most, clipped_more a b s face, clipped_at_most a b (s + 1))

pub loop-s-preserved : goal.loop-s-preserved
loop-s-preserved g c =
    let a = c.args.a.now in
    let b = c.args.b.now in
    let s = c.loop-s.s in
    let face = has_face a s c.div_ceil-s-end.result c.loop-s-test.true (c.div_ceil-s-end.ensures ∙ ap (λ n. div_ceil n 64) c.face_count-faces.ensures.count) in
    record {
      run = c.in_ok-next_block.ensures.run;
      ticks = omega (arith, c.loop-s.invariant.ticks, c.in_ok-next_block.ensures.ticks, clipped_more a b s face);
    }

pub returns-clause-run : goal.returns-clause-run
returns-clause-run g c =
    let e = c.div_ceil-s-end.ensures ∙ ap (λ n. div_ceil n 64) c.face_count-faces.ensures.count in
    let past : c.div_ceil-s-end.result ≤ c.loop-s.s = omega (arith, c.loop-s-test.false) in
    first_all g.C.PieceList.holds c.args.a.now c.args.b.now c.loop-s.s c.div_ceil-s-end.result past e c.loop-s.run c.loop-s.invariant.run

pub returns-clause-ticks : goal.returns-clause-ticks
returns-clause-ticks g c =
    let a = c.args.a.now in
    let e = c.div_ceil-s-end.ensures ∙ ap (λ n. div_ceil n 64) c.face_count-faces.ensures.count in
    let past : c.div_ceil-s-end.result ≤ c.loop-s.s = omega (arith, c.loop-s-test.false) in
    omega (arith, c.loop-s.invariant.ticks, ap (clip_count a c.args.b.now 1) (ends_at_last a c.loop-s.s c.div_ceil-s-end.result past e))
