use Rattle.std.proofs.Common.{◌≡◌, ◌<◌, ◌-◌, ℕ, pos, ◌<ℤ◌, ◌≤ℤ◌, slice_index_or, ◌∙◌, ap, sym, subst, arith, length, List, slice_index, ◌++◌, ◌∷◌, []}
use Rattle.std.specs.List.{RotatedLeft}
use Rattle.vec_exact.specs.Cycle.{after, shifted}
use Rattle.vec_exact.proofs.Cycles.{after_below}
use Rattle.cone_laws.specs.Ring.{plane, planes_of_pair, IsCycle}
use Rattle.clip.specs.Outlines.{nodes_of}
use Rattle.clip.proofs.Gap.{Filled, filled_cycle}
use Rattle.clip.proofs.Size.{cycle_size}
use Rattle.clip.proofs.cuts.fill_outline_gap.Goals as goal

pub push-requires : goal.push-requires
push-requires c =
    let s = cycle_size (plane (planes_of_pair (nodes_of c.args.f.now) (nodes_of c.args.g.now))) (c.args.m - 1) (length c.args.ring.now.items) (slice_index c.args.ring.now.items) c.requires.cycle in
    omega (arith, s, c.truncate.ensures.len, c.turn.ensures.len, c.requires.room.0, c.requires.room.1)

pub returns : goal.returns
returns c =
    let ps = (planes_of_pair (nodes_of c.args.f.now) (nodes_of c.args.g.now)) in
    let l = c.args.ring.now.items in
    let r = c.turn.new.ring.items in
    let s = c.args.sides.now in
    let j : c.next_place-first.result ≡ after (length s) c.args.t = c.next_place-first.ensures.value in
    let b : after (length s) c.args.t < length s = after_below (length s) c.args.t c.requires.place in
    let f : Filled ps c.args.m l r s c.args.t c.positive_run-kept.result = record {
      some = c.requires.room.0;
      cycle = c.requires.cycle;
      sides = c.requires.sides;
      place = c.requires.place;
      not_positive = c.requires.not_positive;
      positive = c.requires.positive;
      negative = c.requires.negative;
      is_turned = record {
        within = omega (arith, b, c.requires.sides.len);
        len = c.turn.ensures.len;
        by_index = subst (RotatedLeft l r (length l)) j c.turn.ensures.by_index;
      };
      within = c.positive_run-kept.ensures.within;
      run = subst (λ (a : ℕ). (u : ℕ) → u < c.positive_run-kept.result → pos 0 <ℤ slice_index_or s (shifted (length s) a u) (pos 0)) j c.positive_run-kept.ensures.positive;
      stop = subst (λ (a : ℕ). c.positive_run-kept.result < length s → slice_index_or s (shifted (length s) a c.positive_run-kept.result) (pos 0) ≤ℤ pos 0) j
          c.positive_run-kept.ensures.stop;
    } in
    subst (λ (n : List ℕ). IsCycle (plane ps) c.args.m (length n) (slice_index n))
    (sym (c.push.ensures.items ∙ ap (λ (n : List ℕ). n ++ c.args.m ∷ []) c.truncate.ensures.items))
    (filled_cycle ps c.args.m l r s c.args.t c.positive_run-kept.result f)
