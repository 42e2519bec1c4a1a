use Rattle.std.proofs.Common.{◌≡◌, ◌+◌, ℕ, List, [], ◌∷◌, ◌++◌, ap, ◌∙◌, arith, length}
use Rattle.std.specs.List.{range_with_len}
use Rattle.cone_laws.specs.Ring.{planes_of_pair}
use Rattle.clip.specs.Outlines.{nodes_of}
use Rattle.clip.proofs.Started.{start_ring, one_more_number}
use Rattle.clip.proofs.Pair.{first_of_pair}
use Rattle.clip.proofs.cuts.start_outline.Goals as goal

pub loop-i-preserved : goal.loop-i-preserved
loop-i-preserved c = record {
  len = omega (arith, c.push.ensures.len, c.loop-i.invariant.len);
  numbers = c.push.ensures.items ∙ ap (λ (l : List ℕ). l ++ (c.loop-i.i + 1) ∷ []) c.loop-i.invariant.numbers ∙ one_more_number c.loop-i.i;
}

pub returns : goal.returns
returns c =
    let f = nodes_of c.args.f.now in let g = nodes_of c.args.g.now in
    let e : c.loop-i.i ≡ length f = omega (arith, c.count_of-i-end.ensures.count) in
    start_ring (planes_of_pair f g) (length f) f (first_of_pair f g c.requires.f.accepted) c.loop-i.ring.items (c.loop-i.invariant.numbers ∙ ap (range_with_len 1) e)
