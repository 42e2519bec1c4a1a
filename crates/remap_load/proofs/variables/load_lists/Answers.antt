use Rattle.std.proofs.Common.{◌+◌, arith, take, get_or}
use Rattle.std.specs.List.{sum_by}
use Rattle.remap_load.specs.Pieces.{bytes_at}
use Rattle.remap_load.proofs.Costs.{sum_more, sum_first}
use Rattle.remap_load.proofs.Reading.{asks_on}
use Rattle.remap_load.proofs.variables.load_lists.Goals as goal

pub returns-in_err-list-clause-reads : goal.returns-in_err-list-clause-reads
returns-in_err-list-clause-reads g c =
    let f = bytes_at c.args.head.now.file in
    let places = c.args.places.now in
    let i = c.loop-place.place-index in
    asks_on (g.F.Files.seen c.args.files.now) (g.F.Files.seen c.loop-place.files) (g.F.Files.seen c.load_numbers.new.files) (sum_by f (take i places)) (f (get_or places i 0)) (sum_by f places)
    (omega (arith, sum_more f places i c.loop-place-test.true, sum_first f places (i + 1))) c.loop-place.invariant.reads c.load_numbers.ensures.reads

pub returns-in_err-push-clause-reads : goal.returns-in_err-push-clause-reads
returns-in_err-push-clause-reads g c =
    let f = bytes_at c.args.head.now.file in
    let places = c.args.places.now in
    let i = c.loop-place.place-index in
    asks_on (g.F.Files.seen c.args.files.now) (g.F.Files.seen c.loop-place.files) (g.F.Files.seen c.load_numbers.new.files) (sum_by f (take i places)) (f (get_or places i 0)) (sum_by f places)
    (omega (arith, sum_more f places i c.loop-place-test.true, sum_first f places (i + 1))) c.loop-place.invariant.reads c.load_numbers.ensures.reads
