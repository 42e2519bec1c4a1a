use Rattle.std.proofs.Common.{All, List, Contains, ◌≡◌, ◌+◌, ◌-◌, ◌<◌, ℕ, length, ap, ◌∙◌, sym, subst, arith}
use Rattle.clip.specs.Planes.{IsFaceNumber}
use Rattle.overlap_run.specs.Parts.{IsBlockOf, DoMeetWithin, clip_count}
use Rattle.overlap_run.proofs.ClipCounts.{clip_count_none, clip_count_more, clip_count_grows, clip_count_fits}
use Rattle.cell_index.proofs.CandidateLists.{candidates_are_faces, candidates_at_most}
use Rattle.overlap_run.proofs.blocks.extend_block.Goals as goal

pub loop-i-init : goal.loop-i-init
loop-i-init g c =
    let a = c.args.a.now in
    let b = c.args.b.now in
    let none : c.args.from - 1 < c.args.from = omega (arith, c.requires.from.0) in
    record {
      block = λ first le h. h;
      few = omega (arith, clip_count_none a b c.args.from (c.args.from - 1) none);
      ticks = omega (arith, clip_count_none a b c.args.from (c.args.from - 1) none);
    }

pub returns-in_err-find_candidates-clause-most : goal.returns-in_err-find_candidates-clause-most
returns-in_err-find_candidates-clause-most g c =
    omega (
      arith,
      c.loop-i.invariant.ticks,
      clip_count_grows c.args.a.now c.args.b.now c.args.from (c.loop-i.i - 1) c.args.to (omega (arith, c.loop-i.auto.i)) (omega (arith, c.loop-i-test.true)),
    )

pub clip_face-requires-clause-targets : goal.clip_face-requires-clause-targets
clip_face-requires-clause-targets g c =
    let a = c.args.a.now in
    let b = c.args.b.now in
    let found = c.find_candidates.new.found.items in
    subst (All (IsFaceNumber b)) (sym (c.deref.ensures.value ∙ c.in_ok-find_candidates.ensures.candidates b c.requires.index))
    (candidates_are_faces a b c.loop-i.i)

pub clip_face-requires-clause-all : goal.clip_face-requires-clause-all
clip_face-requires-clause-all g c j face meets =
    let b = c.args.b.now in
    subst (λ (l : List ℕ). Contains l j) (sym c.deref.ensures.value) (c.in_ok-find_candidates.ensures.meeting b c.face_count-target_faces.ensures.accepted c.requires.index j face.0 face.1 meets)

pub clip_face-requires-clause-room : goal.clip_face-requires-clause-room
clip_face-requires-clause-room g c =
    let a = c.args.a.now in
    let b = c.args.b.now in
    let source = c.face_count-source_faces.ensures.accepted.counts.face_limit in
    let target = c.face_count-target_faces.ensures.accepted.counts.face_limit in
    let tried = ap (length {A = ℕ}) (c.deref.ensures.value ∙ c.in_ok-find_candidates.ensures.candidates c.args.b.now c.requires.index) in
    omega (
      arith,
      c.loop-i.invariant.few,
      clip_count_fits a b c.args.from (c.loop-i.i - 1) c.requires.from.0 (omega (arith, c.loop-i-test.true, c.requires.to)) source target,
      tried,
      candidates_at_most a b c.loop-i.i,
      target,
      c.requires.room,
    )

pub returns-in_err-clip_face-clause-most : goal.returns-in_err-clip_face-clause-most
returns-in_err-clip_face-clause-most g c =
    let a = c.args.a.now in
    let b = c.args.b.now in
    omega (
      arith,
      c.loop-i.invariant.ticks,
      c.clip_face.ensures.most,
      ap (length {A = ℕ}) (c.deref.ensures.value ∙ c.in_ok-find_candidates.ensures.candidates c.args.b.now c.requires.index),
      clip_count_more a b c.args.from c.loop-i.i c.requires.from.0 c.loop-i.auto.i,
      clip_count_grows a b c.args.from c.loop-i.i c.args.to (omega (arith, c.loop-i.auto.i)) (omega (arith, c.loop-i-test.true)),
    )

pub loop-i-preserved : goal.loop-i-preserved
loop-i-preserved g c =
    let a = c.args.a.now in
    let b = c.args.b.now in
    let back : c.loop-i.i + 1 - 1 ≡ c.loop-i.i = omega arith in
    let same = ap (clip_count a b c.args.from) back in
    let tried = ap (length {A = ℕ}) (c.deref.ensures.value ∙ c.in_ok-find_candidates.ensures.candidates c.args.b.now c.requires.index) in
    let more = clip_count_more a b c.args.from c.loop-i.i c.requires.from.0 c.loop-i.auto.i in
    record {
      block = λ first le h.
          subst (λ (n : ℕ). IsBlockOf g.C.PieceList.holds a b (DoMeetWithin a b first n) c.clip_face.new.block) (sym back)
          (c.in_ok-clip_face.ensures.block first (omega (arith, le, c.loop-i.auto.i)) (c.loop-i.invariant.block first le h));
      few = omega (arith, c.loop-i.invariant.few, c.in_ok-clip_face.ensures.few, same, tried, more);
      ticks = omega (arith, c.loop-i.invariant.ticks, c.in_ok-clip_face.ensures.ticks, same, tried, more);
    }

pub returns-clause-block : goal.returns-clause-block
returns-clause-block g c first le h =
    let a = c.args.a.now in
    let b = c.args.b.now in
    let last : c.loop-i.i - 1 ≡ c.args.to = omega (arith, c.loop-i-test.false, c.loop-i.auto.i-end c.requires.from.1) in
    subst (λ (n : ℕ). IsBlockOf g.C.PieceList.holds a b (DoMeetWithin a b first n) c.loop-i.block) last (c.loop-i.invariant.block first le h)
