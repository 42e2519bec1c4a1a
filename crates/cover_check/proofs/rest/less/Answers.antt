use Rattle.std.proofs.Common.{◌≡◌, ◌+◌, ◌-◌, ℕ, List, [], length, map, subst, arith}
use Rattle.mesh_check.specs.Mesh.{corners_of}
use Rattle.cover_check.specs.Parts.{PartView, view_of, IsDivided}
use Rattle.cover_check.proofs.PutParts.{divided_less, no_parts}
use Rattle.cover_check.proofs.rest.less.Goals as goal

pub divided-requires-clause-sound : goal.divided-requires-clause-sound
divided-requires-clause-sound c =
    let n : ℕ = length c.args.faces.now - c.loop-time._time in
    (n, c.loop-time.invariant.fewer n (omega arith))

pub loop-time-preserved : goal.loop-time-preserved
loop-time-preserved c = record {
  divided = c.in_ok-parts-2.ensures.divided c.args.faces.now c.loop-time.invariant.divided;
  fewer = λ n e. c.in_ok-parts-2.ensures.fewer n (c.loop-time.invariant.fewer (n + 1) (omega (arith, e)));
}

pub returns : goal.returns
returns c =
    let sources = c.args.a.now in let target = corners_of c.args.b.now c.args.j in
    let parts = map view_of c.loop-time.parts.items in
    let none : parts ≡ [] = no_parts sources target parts (c.loop-time.invariant.fewer 0 (omega arith)) in
    divided_less sources target c.args.faces.now c.loop-time.left
    (subst (λ (l : List PartView). IsDivided sources target c.args.faces.now l c.loop-time.left) none c.loop-time.invariant.divided)
