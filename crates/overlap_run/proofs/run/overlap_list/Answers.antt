use Rattle.std.proofs.Common.{arith}
use Rattle.overlap_run.specs.Pairs.{DoMeet}
use Rattle.overlap_run.proofs.WholeSteps.{one_count, list_of_whole}
use Rattle.overlap_run.proofs.run.overlap_list.Goals as goal

pub returns-then-run-gt-GREATEST_COUNT-clause-refusal : goal.returns-then-run-gt-GREATEST_COUNT-clause-refusal
returns-then-run-gt-GREATEST_COUNT-clause-refusal g c = (c.in_ok-run.ensures.run.count, c.if-run-gt-GREATEST_COUNT.true)

pub returns-then-run-gt-GREATEST_COUNT-clause-within : goal.returns-then-run-gt-GREATEST_COUNT-clause-within
returns-then-run-gt-GREATEST_COUNT-clause-within g c n m count few e =
    let same = one_count (DoMeet c.args.a.now c.args.b.now) n _ count c.in_ok-run.ensures.run.count in
    omega (arith, same, few, c.if-run-gt-GREATEST_COUNT.true)

pub returns-clause-overlap : goal.returns-clause-overlap
returns-clause-overlap g c =
    let few = c.if-run-gt-GREATEST_COUNT.false in
    list_of_whole c.args.a.now c.args.b.now g.C.PieceList.holds _ _ c.face_count-source_faces.ensures.accepted c.face_count-target_faces.ensures.accepted
    c.in_ok-run.ensures.run.count few (c.in_ok-run.ensures.run.listed few)

pub returns-clause-past : goal.returns-clause-past
returns-clause-past g c n count many =
    let same = one_count (DoMeet c.args.a.now c.args.b.now) n _ count c.in_ok-run.ensures.run.count in
    absurd (omega (arith, same, many, c.if-run-gt-GREATEST_COUNT.false))
