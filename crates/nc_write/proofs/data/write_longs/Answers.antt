use Rattle.std.proofs.Common.{◌+◌, arith, ◌∙◌}
use Rattle.nc_write.specs.declared.NcKind.TheVariants as kinds
use Rattle.nc_write.proofs.Appending.{appends_more, appends_same, values_join, values_whole}
use Rattle.nc_write.proofs.data.write_longs.Goals as goal

pub loop-at-preserved : goal.loop-at-preserved
loop-at-preserved g c =
    let before = c.loop-at.invariant in
    let numbers = c.args.numbers.now in
    record {
      within = omega (arith, c.min.ensures, c.loop-at-test.true);
      written = appends_more _ _ _ _ _ _ before.written (appends_same _ _ _ _ c.in_ok-write_all.ensures.bytes (c.deref.ensures.value ∙ c.in_ok-spell_longs.ensures)) (values_join kinds.Int64 numbers 0 c.loop-at.at (c.loop-at.at + c.min.result) (omega arith) (omega arith));
    }

pub returns : goal.returns
returns g c =
    let after = c.loop-at.invariant in
    appends_same _ _ _ _ after.written (values_whole kinds.Int64 c.args.numbers.now c.loop-at.at (omega (arith, after.within, c.loop-at-test.false)))
