use Rattle.std.proofs.Common.{ℕ, pos, ◌<ℤ◌, sym, subst, arith, below_more, length, slice_index_or}
use Rattle.std.proofs.lemmas.Int.{ints}
use Rattle.clip.proofs.CornerPlaces.{next_of_run, shifted_first}
use Rattle.clip.proofs.sides.positive_run.Goals as goal

pub loop-run-init : goal.loop-run-init
loop-run-init c = record {
  below = c.requires.first;
  place = sym (shifted_first (length c.args.sides.now) c.args.first c.requires.first);
  positive = λ u l. absurd (omega arith);
}

pub loop-run-preserved : goal.loop-run-preserved
loop-run-preserved c =
    let s = c.args.sides.now in
    record {
      below = c.next_place-place.ensures.below;
      place = next_of_run s c.args.first c.loop-run.place c.loop-run.run c.next_place-place.result c.requires.first c.loop-run-test.true c.loop-run.invariant.place
          c.next_place-place.ensures.value;
      positive = below_more _ _ c.loop-run.invariant.positive
          (subst (λ (i : ℕ). pos 0 <ℤ slice_index_or s i (pos 0)) c.loop-run.invariant.place (omega (arith, ints)));
    }
