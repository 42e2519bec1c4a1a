use Rattle.std.proofs.Common.{arith, refl}
use Rattle.clip.proofs.OutlineFacts.{parts_of, node_count, node_is, nodes_small}
use Rattle.clip.proofs.outlines.node_of.Goals as goal

pub bounds-as_slice-t : goal.bounds-as_slice-t
bounds-as_slice-t c =
    let p = parts_of c.args.face.now c.as_slice.result.now _ c.requires.face c.as_slice.ensures.value refl in
    omega (arith, node_count _ _ _ p, c.requires.place)

pub returns-clause-value : goal.returns-clause-value
returns-clause-value c = node_is _ _ _ (parts_of c.args.face.now c.as_slice.result.now _ c.requires.face c.as_slice.ensures.value refl) c.args.t c.requires.place

pub returns-clause-size : goal.returns-clause-size
returns-clause-size c =
    let p = parts_of c.args.face.now c.as_slice.result.now _ c.requires.face c.as_slice.ensures.value refl in
    nodes_small _ _ _ p c.args.t (omega (arith, node_count _ _ _ p, c.requires.place))
