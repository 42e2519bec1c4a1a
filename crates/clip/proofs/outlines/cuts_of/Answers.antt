use Rattle.std.proofs.Common.{◌≡◌, ◌<◌, ℕ, pos, ◌≤ℤ◌, List, Bool, false, length, slice_index_or, arith, refl, sym, ap, ◌∙◌, below_more}
use Rattle.std.proofs.lemmas.Int.{ints}
use Rattle.std.proofs.lemmas.List.{get_or_append_left, get_or_push}
use Rattle.vec_exact.specs.Vector.{inner}
use Rattle.vec_exact.specs.Cycle.{vector_at, face_plane}
use Rattle.clip.specs.Outlines.{nodes_of}
use Rattle.clip.proofs.OutlineFacts.{parts_of, nodes_small, plane_small, plane_count, kept_off, cuts_nothing}
use Rattle.clip.proofs.outlines.cuts_of.Goals as goal

pub extent_on-extent-requires-clause-plane : goal.extent_on-extent-requires-clause-plane
extent_on-extent-requires-clause-plane c = plane_small _ _ _ (parts_of c.args.g.now _ c.as_slice-planes.result.now c.requires.g refl c.as_slice-planes.ensures.value) c.loop-t.t c.loop-t-test.true

pub extent_on-extent-requires-clause-nodes : goal.extent_on-extent-requires-clause-nodes
extent_on-extent-requires-clause-nodes c = nodes_small _ _ _ (parts_of c.args.f.now c.as_slice-nodes.result.now _ c.requires.f c.as_slice-nodes.ensures.value refl)

pub returns-then-extent-le0 : goal.returns-then-extent-le0
returns-then-extent-le0 c =
    kept_off (nodes_of c.args.g.now) (nodes_of c.args.f.now) _ c.as_slice-planes.result.now c.as_slice-nodes.result.now _ c.loop-t.t c.extent_on-extent.result.greatest
    (parts_of c.args.g.now _ c.as_slice-planes.result.now c.requires.g refl c.as_slice-planes.ensures.value)
    (parts_of c.args.f.now c.as_slice-nodes.result.now _ c.requires.f c.as_slice-nodes.ensures.value refl)
    c.loop-t-test.true c.extent_on-extent.ensures.greatest (omega (arith, ints))

pub loop-t-preserved : goal.loop-t-preserved
loop-t-preserved c =
    let old = c.loop-t.cuts.items in
    let e = c.push.ensures.items in
    let P : ℕ → Type 0 = λ u. slice_index_or c.push.new.self.items u false ≡ false → (s : ℕ) → s < length (nodes_of c.args.f.now) → pos 0 ≤ℤ inner (face_plane (nodes_of c.args.g.now) u) (vector_at (nodes_of c.args.f.now) s) in
    record {
      len = omega (arith, c.push.ensures.len, c.loop-t.invariant.len);
      none = below_more P c.loop-t.t
          (λ u h no'. c.loop-t.invariant.none u h (sym (get_or_append_left old _ false u (omega (arith, c.loop-t.invariant.len))) ∙ sym (ap (λ (l : List Bool). slice_index_or l u false) e) ∙ no'))
          (λ no'. let f = sym (get_or_push old _ false c.loop-t.t c.loop-t.invariant.len) ∙ sym (ap (λ (l : List Bool). slice_index_or l c.loop-t.t false) e) ∙ no' in
          cuts_nothing (nodes_of c.args.f.now) (nodes_of c.args.g.now) c.as_slice-nodes.result.now _ _ c.as_slice-planes.result.now c.loop-t.t c.extent_on-extent.result.least
          (parts_of c.args.f.now c.as_slice-nodes.result.now _ c.requires.f c.as_slice-nodes.ensures.value refl)
          (parts_of c.args.g.now _ c.as_slice-planes.result.now c.requires.g refl c.as_slice-planes.ensures.value)
          c.loop-t-test.true c.extent_on-extent.ensures.least (omega (arith, ints, f)));
    }

pub returns : goal.returns
returns c =
    let n = plane_count (nodes_of c.args.g.now) _ c.as_slice-planes.result.now (parts_of c.args.g.now _ c.as_slice-planes.result.now c.requires.g refl c.as_slice-planes.ensures.value) in
    let last : c.loop-t.t ≡ length (nodes_of c.args.g.now) = omega (arith, n) in
    record {
      len = omega (arith, c.loop-t.invariant.len, last);
      none = λ u h. c.loop-t.invariant.none u (omega (arith, h, last));
    }
