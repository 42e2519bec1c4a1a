use Rattle.std.proofs.Common.{rules, ◌≡◌, ◌+◌, ◌*◌, ◌<◌, ◌∙◌, ap, sym, subst, length, get_or, set, pos, ℕ, ◌-◌, arith}
use mir.Syntax.{w64}
use mir.Val.{SFits, to_z, of_z}
use Rattle.std.proofs.lemmas.Int.{to_z-of_z}
use Rattle.map_rows.specs.Maps.{MapParts}
use Rattle.map_rows.specs.Application.{rest_of}
use Rattle.apply_map.specs.Ready.{AreTargetsOf}
use Rattle.apply_map.specs.Parts.{IsFirstSlice}
use Rattle.apply_map.proofs.Parts.{numbers, slice_below, values_below, number_here, begun, one_more, all_of_target, SoFar}
use Rattle.apply_map.proofs.Slices.{groups_size, divisors_size, target_ready}
use Rattle.apply_map.proofs.targets.Targets.put_target_rests.Goals as goal

pub of-rows-requires : goal.of-rows-requires
of-rows-requires c =
    let m = c.args.self.now in
    let ready : AreTargetsOf m c.self.inside.rows c.self.inside.divisors.items = subst (λ (p : MapParts). AreTargetsOf p c.self.inside.rows c.self.inside.divisors.items) c.self.view_is c.self.invariant in
    (omega arith, omega (arith, c.requires.target, groups_size m _ _ ready))

pub index-divisor-requires : goal.index-divisor-requires
index-divisor-requires c =
    let m = c.args.self.now in
    let ready : AreTargetsOf m c.self.inside.rows c.self.inside.divisors.items = subst (λ (p : MapParts). AreTargetsOf p c.self.inside.rows c.self.inside.divisors.items) c.self.view_is c.self.invariant in
    omega (arith, c.requires.target, divisors_size m _ _ ready)

pub loop-at-init : goal.loop-at-init
loop-at-init c =
    let m = c.args.self.now in
    let n : c.map.inside.n_b ≡ m.n_b = search rules in
    let slice = c.first_slice-slice.result in
    let first : IsFirstSlice m.n_b c.args.from c.args.j slice = subst (λ (k : ℕ). IsFirstSlice k c.args.from c.args.j slice) n c.first_slice-slice.ensures in
    begun m.n_b (numbers rest_of m c.args.slices c.args.values.now) c.args.from c.args.j slice (slice * c.map.inside.n_b + c.args.j - c.args.from) c.args.into.now first
    (omega (arith, first.reached, ap (λ (k : ℕ). slice * k) n))

pub target_share-share-requires-clause-count : goal.target_share-share-requires-clause-count
target_share-share-requires-clause-count c =
    let m = c.args.self.now in
    let values = c.args.values.now in
    let slice = c.loop-at.slice in
    let j = c.args.j in
    let ready : AreTargetsOf m c.self.inside.rows c.self.inside.divisors.items = subst (λ (p : MapParts). AreTargetsOf p c.self.inside.rows c.self.inside.divisors.items) c.self.view_is c.self.invariant in
    let below : c.loop-at.at < length c.args.into.now = omega (arith, c.loop-at-test.true, c.loop-at.invariant.size) in
    let here : slice < c.args.slices = slice_below m.n_b slice j (c.args.from + c.loop-at.at) c.args.slices c.loop-at.invariant.place (omega (arith, below, c.requires.within)) in
    let first : slice * c.map.inside.n_a ≡ slice * m.n_a = search rules in
    let h = target_ready m values slice (slice * c.map.inside.n_a) j c.self.inside.rows c.self.inside.divisors.items c.of-rows.result.now c.index-divisor.result.now _ ready (values_below slice c.args.slices m.n_a (length values) here c.requires.counts) first c.requires.target c.of-rows.ensures c.index-divisor.ensures in
    h.count

pub target_share-share-requires-clause-measures : goal.target_share-share-requires-clause-measures
target_share-share-requires-clause-measures c =
    let m = c.args.self.now in
    let values = c.args.values.now in
    let slice = c.loop-at.slice in
    let j = c.args.j in
    let ready : AreTargetsOf m c.self.inside.rows c.self.inside.divisors.items = subst (λ (p : MapParts). AreTargetsOf p c.self.inside.rows c.self.inside.divisors.items) c.self.view_is c.self.invariant in
    let below : c.loop-at.at < length c.args.into.now = omega (arith, c.loop-at-test.true, c.loop-at.invariant.size) in
    let here : slice < c.args.slices = slice_below m.n_b slice j (c.args.from + c.loop-at.at) c.args.slices c.loop-at.invariant.place (omega (arith, below, c.requires.within)) in
    let first : slice * c.map.inside.n_a ≡ slice * m.n_a = search rules in
    let h = target_ready m values slice (slice * c.map.inside.n_a) j c.self.inside.rows c.self.inside.divisors.items c.of-rows.result.now c.index-divisor.result.now _ ready (values_below slice c.args.slices m.n_a (length values) here c.requires.counts) first c.requires.target c.of-rows.ensures c.index-divisor.ensures in
    h.measures

pub target_share-share-requires-clause-values : goal.target_share-share-requires-clause-values
target_share-share-requires-clause-values c =
    let m = c.args.self.now in
    let values = c.args.values.now in
    let slice = c.loop-at.slice in
    let j = c.args.j in
    let ready : AreTargetsOf m c.self.inside.rows c.self.inside.divisors.items = subst (λ (p : MapParts). AreTargetsOf p c.self.inside.rows c.self.inside.divisors.items) c.self.view_is c.self.invariant in
    let below : c.loop-at.at < length c.args.into.now = omega (arith, c.loop-at-test.true, c.loop-at.invariant.size) in
    let here : slice < c.args.slices = slice_below m.n_b slice j (c.args.from + c.loop-at.at) c.args.slices c.loop-at.invariant.place (omega (arith, below, c.requires.within)) in
    let first : slice * c.map.inside.n_a ≡ slice * m.n_a = search rules in
    let h = target_ready m values slice (slice * c.map.inside.n_a) j c.self.inside.rows c.self.inside.divisors.items c.of-rows.result.now c.index-divisor.result.now _ ready (values_below slice c.args.slices m.n_a (length values) here c.requires.counts) first c.requires.target c.of-rows.ensures c.index-divisor.ensures in
    h.read

pub target_share-share-requires-clause-area : goal.target_share-share-requires-clause-area
target_share-share-requires-clause-area c =
    let m = c.args.self.now in
    let values = c.args.values.now in
    let slice = c.loop-at.slice in
    let j = c.args.j in
    let ready : AreTargetsOf m c.self.inside.rows c.self.inside.divisors.items = subst (λ (p : MapParts). AreTargetsOf p c.self.inside.rows c.self.inside.divisors.items) c.self.view_is c.self.invariant in
    let below : c.loop-at.at < length c.args.into.now = omega (arith, c.loop-at-test.true, c.loop-at.invariant.size) in
    let here : slice < c.args.slices = slice_below m.n_b slice j (c.args.from + c.loop-at.at) c.args.slices c.loop-at.invariant.place (omega (arith, below, c.requires.within)) in
    let first : slice * c.map.inside.n_a ≡ slice * m.n_a = search rules in
    let h = target_ready m values slice (slice * c.map.inside.n_a) j c.self.inside.rows c.self.inside.divisors.items c.of-rows.result.now c.index-divisor.result.now _ ready (values_below slice c.args.slices m.n_a (length values) here c.requires.counts) first c.requires.target c.of-rows.ensures c.index-divisor.ensures in
    h.sum

pub target_share-share-requires-clause-covered : goal.target_share-share-requires-clause-covered
target_share-share-requires-clause-covered c =
    let m = c.args.self.now in
    let values = c.args.values.now in
    let slice = c.loop-at.slice in
    let j = c.args.j in
    let ready : AreTargetsOf m c.self.inside.rows c.self.inside.divisors.items = subst (λ (p : MapParts). AreTargetsOf p c.self.inside.rows c.self.inside.divisors.items) c.self.view_is c.self.invariant in
    let below : c.loop-at.at < length c.args.into.now = omega (arith, c.loop-at-test.true, c.loop-at.invariant.size) in
    let here : slice < c.args.slices = slice_below m.n_b slice j (c.args.from + c.loop-at.at) c.args.slices c.loop-at.invariant.place (omega (arith, below, c.requires.within)) in
    let first : slice * c.map.inside.n_a ≡ slice * m.n_a = search rules in
    let h = target_ready m values slice (slice * c.map.inside.n_a) j c.self.inside.rows c.self.inside.divisors.items c.of-rows.result.now c.index-divisor.result.now _ ready (values_below slice c.args.slices m.n_a (length values) here c.requires.counts) first c.requires.target c.of-rows.ensures c.index-divisor.ensures in
    h.covered

pub loop-at-preserved : goal.loop-at-preserved
loop-at-preserved c =
    let m = c.args.self.now in
    let values = c.args.values.now in
    let slice = c.loop-at.slice in
    let j = c.args.j in
    let ready : AreTargetsOf m c.self.inside.rows c.self.inside.divisors.items = subst (λ (p : MapParts). AreTargetsOf p c.self.inside.rows c.self.inside.divisors.items) c.self.view_is c.self.invariant in
    let below : c.loop-at.at < length c.args.into.now = omega (arith, c.loop-at-test.true, c.loop-at.invariant.size) in
    let here : slice < c.args.slices = slice_below m.n_b slice j (c.args.from + c.loop-at.at) c.args.slices c.loop-at.invariant.place (omega (arith, below, c.requires.within)) in
    let first : slice * c.map.inside.n_a ≡ slice * m.n_a = search rules in
    let h = target_ready m values slice (slice * c.map.inside.n_a) j c.self.inside.rows c.self.inside.divisors.items c.of-rows.result.now c.index-divisor.result.now _ ready (values_below slice c.args.slices m.n_a (length values) here c.requires.counts) first c.requires.target c.of-rows.ensures c.index-divisor.ensures in
    let n : c.map.inside.n_b ≡ m.n_b = search rules in
    let w : SFits w64 c.target_share-share.result.rest = search rules in
    let value : to_z w64 (of_z w64 c.target_share-share.result.rest) ≡ get_or (numbers rest_of m c.args.slices values) (c.args.from + c.loop-at.at) (pos 0) =
    to_z-of_z w64 c.target_share-share.result.rest w ∙ c.target_share-share.ensures.rest ∙ ap rest_of h.share ∙ sym (number_here rest_of m c.args.slices values slice j (c.args.from + c.loop-at.at) here c.requires.target c.loop-at.invariant.place) in
    subst (λ (k : ℕ). SoFar m.n_b (numbers rest_of m c.args.slices values) c.args.from j (slice + 1) (c.loop-at.at + k) c.args.into.now (set c.loop-at.into c.loop-at.at (to_z w64 (of_z w64 c.target_share-share.result.rest)))) (sym n)
    (one_more m.n_b (numbers rest_of m c.args.slices values) c.args.from j slice c.loop-at.at c.args.into.now c.loop-at.into (to_z w64 (of_z w64 c.target_share-share.result.rest)) c.loop-at-test.true value c.loop-at.invariant)

pub returns : goal.returns
returns c =
    let m = c.args.self.now in
    all_of_target m.n_b (numbers rest_of m c.args.slices c.args.values.now) c.args.from c.args.j c.loop-at.slice c.loop-at.at c.args.into.now c.loop-at.into (omega (arith, c.loop-at-test.false, c.loop-at.invariant.size)) c.loop-at.invariant
