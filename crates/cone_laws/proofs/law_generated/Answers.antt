use Rattle.std.proofs.Common.{length}
use Rattle.vec_exact.specs.Cycle.{vector_at}
use Rattle.cone_laws.proofs.Generated.{generated}
use Rattle.cone_laws.proofs.Pairs.{ring_planes_convex}
use Rattle.cone_laws.proofs.law_generated.Goals as goal

pub returns-clause-law : goal.returns-clause-law
returns-clause-law c n d v = generated (length n) (vector_at n) v d

pub returns-clause-rings : goal.returns-clause-rings
returns-clause-rings c = ring_planes_convex
