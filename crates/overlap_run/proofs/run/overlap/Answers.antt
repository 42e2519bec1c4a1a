use Rattle.std.proofs.Common.{ap, Err}
use Rattle.overlap_run.proofs.WholeSteps.{as_parts, same_error}
use Rattle.overlap_run.proofs.run.overlap.Goals as goal

pub invariant_of-result : goal.invariant_of-result
invariant_of-result g c = (as_parts c.args.a.now c.args.b.now _ _ _ c.face_count.ensures.count c.face_count-2.ensures.count c.in-Ok.ensures.overlap).1

pub returns-clause-overlap : goal.returns-clause-overlap
returns-clause-overlap g c = (as_parts c.args.a.now c.args.b.now _ _ _ c.face_count.ensures.count c.face_count-2.ensures.count c.in-Ok.ensures.overlap).0

pub returns-in-Err-clause-within : goal.returns-in-Err-clause-within
returns-in-Err-clause-within g c n m count few e = c.in-Err.ensures.within n m count few (ap Err (same_error _ _ e))
