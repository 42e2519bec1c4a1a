use Rattle.std.proofs.Common.{◌≡◌, ◌++◌, [], List, length, ap, sym, ◌∙◌, subst, arith}
use Rattle.vec_exact.specs.declared.Vec3.{Vec3}
use Rattle.cone_laws.specs.Ring.{face_planes, planes_of_pair}
use Rattle.cone_laws.proofs.Pairs.{length-face_planes}
use Rattle.mesh_check.specs.Mesh.{corners_of}
use Rattle.clip.specs.Planes.{EachIs37, NoneIsZero}
use Rattle.clip.proofs.Pair.{both_faces, pair_is37, pair_none_zero}
use Rattle.clip.proofs.pairs.planes.Goals as goal

empty_first : (ps qs : List Vec3) → ps ≡ [] → ps ++ qs ≡ qs
empty_first ps qs e = ap (λ (l : List Vec3). l ++ qs) e

pub push_planes-requires-2-clause-room : goal.push_planes-requires-2-clause-room
push_planes-requires-2-clause-room c =
    let f = corners_of c.args.a.now c.args.i in
    let d = c.push_planes.ensures in
    omega (
      arith,
      ap (length {A = Vec3}) (d.planes ∙ empty_first c.new-planes.result.items (face_planes f) c.new-planes.ensures),
      length-face_planes f,
      d.accepted.greatest_size,
    )

listed_planes : (c : goal.After-push_planes-2) → c.push_planes-2.new.planes.items ≡ planes_of_pair (corners_of c.args.a.now c.args.i) (corners_of c.args.b.now c.args.j)
listed_planes c =
    let f = corners_of c.args.a.now c.args.i in
    let g = corners_of c.args.b.now c.args.j in
    c.push_planes-2.ensures.planes
    ∙ ap (λ (l : List Vec3). l ++ face_planes g) (c.push_planes.ensures.planes ∙ empty_first c.new-planes.result.items (face_planes f) c.new-planes.ensures)
    ∙ both_faces f g

pub returns-clause-planes : goal.returns-clause-planes
returns-clause-planes c = listed_planes c

pub returns-clause-size : goal.returns-clause-size
returns-clause-size c =
    subst (λ (l : List Vec3). EachIs37 l (length l)) (sym (listed_planes c))
    (pair_is37 (corners_of c.args.a.now c.args.i) (corners_of c.args.b.now c.args.j) c.push_planes.ensures.accepted c.push_planes-2.ensures.accepted)

pub returns-clause-nonzero : goal.returns-clause-nonzero
returns-clause-nonzero c =
    subst (λ (l : List Vec3). NoneIsZero l (length l)) (sym (listed_planes c))
    (pair_none_zero (corners_of c.args.a.now c.args.i) (corners_of c.args.b.now c.args.j) c.push_planes.ensures.accepted c.push_planes-2.ensures.accepted)
