use Rattle.cone_laws.proofs.Unique.{unique}
use Rattle.cone_laws.proofs.Pairs.{law_ring_bounds_holds}
use Rattle.cone_laws.proofs.law_ring_unique.Goals as goal

pub returns-clause-unique : goal.returns-clause-unique
returns-clause-unique c = unique

pub returns-clause-bounds : goal.returns-clause-bounds
returns-clause-bounds c = law_ring_bounds_holds
