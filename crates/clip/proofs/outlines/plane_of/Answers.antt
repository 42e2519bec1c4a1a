use Rattle.std.proofs.Common.{arith, refl}
use Rattle.clip.proofs.OutlineFacts.{parts_of, plane_count, plane_is, plane_small}
use Rattle.clip.proofs.outlines.plane_of.Goals as goal

pub bounds-as_slice-t : goal.bounds-as_slice-t
bounds-as_slice-t c =
    let p = parts_of c.args.face.now _ c.as_slice.result.now c.requires.face refl c.as_slice.ensures.value in
    omega (arith, plane_count _ _ _ p, c.requires.place)

pub returns-clause-value : goal.returns-clause-value
returns-clause-value c = plane_is _ _ _ (parts_of c.args.face.now _ c.as_slice.result.now c.requires.face refl c.as_slice.ensures.value) c.args.t c.requires.place

pub returns-clause-size : goal.returns-clause-size
returns-clause-size c =
    let p = parts_of c.args.face.now _ c.as_slice.result.now c.requires.face refl c.as_slice.ensures.value in
    plane_small _ _ _ p c.args.t (omega (arith, plane_count _ _ _ p, c.requires.place))
