use Rattle.std.proofs.Common.{arith, ◌≡◌, length}
use Rattle.clip.specs.Outlines.{nodes_of}
use Rattle.clip.proofs.OutlineFacts.{length-wide_list}
use Rattle.clip.proofs.outlines.count_of.Goals as goal

counted : (c : goal.After-len) → c.len.result ≡ length (nodes_of c.args.face.now)
counted c = omega (arith, c.len.ensures.value, length-wide_list c.args.face.now.nodes.items)

pub returns-clause-count : goal.returns-clause-count
returns-clause-count c = counted c

pub returns-clause-least : goal.returns-clause-least
returns-clause-least c = omega (arith, counted c, c.requires.accepted.least_size)

pub returns-clause-greatest : goal.returns-clause-greatest
returns-clause-greatest c = omega (arith, counted c, c.requires.accepted.greatest_size)
