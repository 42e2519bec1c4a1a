use mir.Syntax.{w8}
use Rattle.std.proofs.Common.{◌<◌, ◌^◌, ℕ, refl, slice_index_or, arith}
use Rattle.remap_files.proofs.Taken.{number_step}
use Rattle.remap_files.proofs.columns.put_ring.Goals as goal

pub loop-number-preserved : goal.loop-number-preserved
loop-number-preserved c =
    let ring = c.args.ring.now in
    let i = c.loop-number.number-index in
    let small : slice_index_or ring i 0 < 2 ^ 7 = omega (arith, (c.requires i 0 c.loop-number-test.true).1) in
    number_step w8 (λ (n : ℕ). n) ring i 0 (slice_index_or ring i 0) c.args.values.now.items c.loop-number.values.items c.push.new.self.items c.loop-number-test.true refl small c.loop-number.invariant c.in_ok-push.ensures.items
