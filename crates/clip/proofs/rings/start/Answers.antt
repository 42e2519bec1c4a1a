use Rattle.std.proofs.Common.{◌≡◌, ◌+◌, ℕ, List, [], ◌∷◌, ◌++◌, ap, ◌∙◌, arith}
use Rattle.std.specs.List.{range_with_len}
use Rattle.clip.proofs.Started.{start_ring, one_more_number}
use Rattle.clip.proofs.rings.start.Goals as goal

pub loop-i-preserved : goal.loop-i-preserved
loop-i-preserved c = record {
  len = omega (arith, c.push.ensures.len, c.loop-i.invariant.len);
  numbers = c.push.ensures.items ∙ ap (λ (l : List ℕ). l ++ (c.loop-i.i + 1) ∷ []) c.loop-i.invariant.numbers ∙ one_more_number c.loop-i.i;
}

pub returns-clause-ring : goal.returns-clause-ring
returns-clause-ring c =
    let e : c.loop-i.i ≡ c.args.m = omega arith in
    start_ring c.args.planes.now.items c.args.m c.requires.edges.0 c.requires.edges.1 c.loop-i.ring.items (c.loop-i.invariant.numbers ∙ ap (range_with_len 1) e)
