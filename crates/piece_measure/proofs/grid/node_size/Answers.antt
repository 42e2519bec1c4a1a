use Rattle.std.proofs.Common.{◌<◌, arith}
use Rattle.std.proofs.lemmas.Int.{ints}
use Rattle.vec_exact.specs.Face.{vector_of}
use Rattle.piece_measure.specs.Grid.{component_size}
use Rattle.piece_measure.proofs.Rounding.{size_positive}
use Rattle.piece_measure.proofs.grid.node_size.Goals as goal

pub returns-clause-positive : goal.returns-clause-positive
returns-clause-positive c = let p : 0 < component_size (vector_of c.args.node) = size_positive (vector_of c.args.node) c.requires.nonzero in omega (arith, ints, p)
