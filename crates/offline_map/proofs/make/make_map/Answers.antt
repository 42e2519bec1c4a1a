use Rattle.std.proofs.Common.{refl}
use Rattle.offline_map.proofs.FirstFaults.{refused}
use Rattle.offline_map.proofs.make.make_map.Goals as goal

pub returns-clause-refused : goal.returns-clause-refused
returns-clause-refused c =
    let o = c.args.overlap.now in
    refused c.args.a.now c.args.b.now o o c.map_of_overlap.result refl c.map_of_overlap.ensures.accepted c.map_of_overlap.ensures.fault
