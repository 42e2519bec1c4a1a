use Rattle.std.proofs.Common.{◌+◌, arith}
use Rattle.nc_write.specs.File.{kind_of, numbers_of}
use Rattle.nc_write.specs.Made.{made_values}
use Rattle.nc_write.proofs.Appending.{appends_more, values_join}
use Rattle.nc_write.proofs.data.write_values.Goals as goal

pub loop-at-preserved : goal.loop-at-preserved
loop-at-preserved g c =
    let values = made_values (g.M.MadeNumbers.numbers c.args.made.now) c.args.values.now in
    let before = c.loop-at.invariant in
    record {
      from = omega (arith, before.from);
      to = omega (arith, c.min.ensures, c.loop-at-test.true);
      written = appends_more _ _ _ _ _ _ before.written c.in_ok-write_part.ensures (values_join (kind_of values) (numbers_of values) c.args.from c.loop-at.at (c.loop-at.at + c.min.result) before.from (omega arith));
    }
