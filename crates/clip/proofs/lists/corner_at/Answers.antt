use Rattle.clip.proofs.CornerPlaces.{corner_is}
use Rattle.clip.proofs.lists.corner_at.Goals as goal

pub returns-clause-value : goal.returns-clause-value
returns-clause-value c =
    corner_is c.args.planes.now.items c.args.ring.now.items c.as_slice-numbers.result.now c.args.t c.next_place-following.result
    c.plane_at.result c.plane_at-2.result c.cross.result
    c.cross.ensures.value c.plane_at.ensures c.plane_at-2.ensures c.next_place-following.ensures.value c.as_slice-numbers.ensures.value
