use Rattle.std.proofs.Common.{◌+◌, List, ◌++◌, map, subst, append-nil, arith}
use Rattle.std.proofs.lemmas.List.{nil_from_length}
use Rattle.mesh_check.specs.Mesh.{corners_of}
use Rattle.cover_check.specs.declared.parts.Part.{Part}
use Rattle.cover_check.specs.Parts.{PartView, view_of, IsSoundPart, IsDivided}
use Rattle.cover_check.proofs.PutParts.{view_popped, all_last}
use Rattle.cover_check.proofs.parts.divided.Goals as goal

pub divide-requires-clause-ring : goal.divide-requires-clause-ring
divide-requires-clause-ring c =
    let s = c.loop-part.invariant.sound in
    (all_last (IsSoundPart c.args.a.now (corners_of c.args.b.now c.args.j) s.0) c.loop-part.waiting.items c.pop.new.self.items c.in-Some.part c.in-Some.ensures.items s.1).0.ring

pub divide-requires-clause-sources : goal.divide-requires-clause-sources
divide-requires-clause-sources c =
    let s = c.loop-part.invariant.sound in
    (all_last (IsSoundPart c.args.a.now (corners_of c.args.b.now c.args.j) s.0) c.loop-part.waiting.items c.pop.new.self.items c.in-Some.part c.in-Some.ensures.items s.1).0.named

pub divide-requires-clause-some : goal.divide-requires-clause-some
divide-requires-clause-some c =
    let s = c.loop-part.invariant.sound in
    (all_last (IsSoundPart c.args.a.now (corners_of c.args.b.now c.args.j) s.0) c.loop-part.waiting.items c.pop.new.self.items c.in-Some.part c.in-Some.ensures.items s.1).0.some

pub loop-part-preserved : goal.loop-part-preserved
loop-part-preserved c =
    let sources = c.args.a.now in let target = corners_of c.args.b.now c.args.j in
    let waiting = c.loop-part.waiting.items in
    let rest = c.pop.new.self.items in
    let part = c.in-Some.part in
    let popped = c.in-Some.ensures.items in
    let s = c.loop-part.invariant.sound in
    record {
      sound = (s.0, (all_last (IsSoundPart sources target s.0) waiting rest part popped s.1).1);
      divided = λ all h. c.in_ok-divide.ensures.divided all (map view_of rest)
          (subst (λ (l : List PartView). IsDivided sources target all (map view_of c.loop-part.next.items ++ l) c.loop-part.left) (view_popped waiting rest part popped)
          (c.loop-part.invariant.divided all h));
      fewer = λ n h.
          let f = c.loop-part.invariant.fewer n h in
          let l = all_last (IsSoundPart sources target (n + 1)) waiting rest part popped f.0 in
          (l.1, c.in_ok-divide.ensures.fewer n l.0.few f.1);
    }

pub returns-clause-divided : goal.returns-clause-divided
returns-clause-divided c = λ all h.
    let sources = c.args.a.now in let target = corners_of c.args.b.now c.args.j in
    let none = nil_from_length c.loop-part.waiting.items (omega (arith, c.in_default.ensures.cases.0)) in
    subst (λ (l : List PartView). IsDivided sources target all l c.loop-part.left) (append-nil (map view_of c.loop-part.next.items))
    (subst (λ (w : List Part). IsDivided sources target all (map view_of c.loop-part.next.items ++ map view_of w) c.loop-part.left) none
    (c.loop-part.invariant.divided all h))

pub returns-clause-fewer : goal.returns-clause-fewer
returns-clause-fewer c = λ n h. (c.loop-part.invariant.fewer n h).1
