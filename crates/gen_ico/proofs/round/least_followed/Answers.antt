use Rattle.std.proofs.Common.{arith, w32}
use Rattle.std.proofs.lemmas.Int.{to_z-of_z}
use Rattle.gen_ico.proofs.Steps.{search_starts}
use Rattle.gen_ico.proofs.Tables.{in_range}
use Rattle.gen_ico.proofs.round.least_followed.Goals as goal

pub loop-t-init : goal.loop-t-init
loop-t-init c = search_starts c.args.faces.now c.args.holders.now _ c.args.p _ c.args.h c.requires.holders (to_z-of_z w32 c.args.p c.ranges.p) (to_z-of_z w32 c.args.h c.ranges.h)

pub corners-requires-clause-face : goal.corners-requires-clause-face
corners-requires-clause-face c = in_range c.args.faces.now c.args.holders.now c.args.p c.requires.holders c.loop-t.t-index 0 (omega arith)
