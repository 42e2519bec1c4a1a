-- How a run grows by blocks, one after another.
use Rattle.std.proofs.Common.{ℕ, ◌+◌, ◌<◌, ◌≤◌, ◌⊎◌, inl, inr, List, length, arith}
use Rattle.vec_exact.specs.declared.RawMesh.{RawMesh}
use Rattle.clip.specs.declared.pieces.Piece.{Piece}
use Rattle.overlap_run.specs.declared.blocks.Block.{Block}
use Rattle.overlap_run.specs.Pairs.{FacePair, IsEarlier, DoMeet}
use Rattle.overlap_run.specs.Parts.{DoMeetWithin, IsBlockOf, TakesBlock}
use Rattle.overlap_run.proofs.BlockSteps.{block_same, block_join}

module _ (a b : RawMesh) where
  -- no source face is before the first one
  pub no_faces : (first last : ℕ) → last < first → (p : FacePair) → DoMeetWithin a b first last p → ⊥
  no_faces first last l p h = omega (arith, l, h.from, h.to)

  apart : (n m : ℕ) (p q : FacePair) → DoMeetWithin a b 1 n p → DoMeetWithin a b (n + 1) m q → IsEarlier p q
  apart n m p q x y = inl (omega (arith, x.to, y.from))

  low_or_high : (s n : ℕ) → (s ≤ n) ⊎ (n + 1 ≤ s)
  low_or_high s n = grind arith

  together : (n m : ℕ) → n ≤ m → (p : FacePair) → DoMeetWithin a b 1 n p ⊎ DoMeetWithin a b (n + 1) m p → DoMeetWithin a b 1 m p
  together n m l p (inl x) = record { from = x.from; to = omega (arith, x.to); meets = x.meets }
  together n m l p (inr y) = record { from = omega (arith, y.from); to = y.to; meets = y.meets }

  divided : (n m : ℕ) → (p : FacePair) → DoMeetWithin a b 1 m p → DoMeetWithin a b 1 n p ⊎ DoMeetWithin a b (n + 1) m p
  divided n m p x = elim (low_or_high p.source n) [
    | inl l ↦ inl (record { from = x.from; to = l; meets = x.meets })
    | inr h ↦ inr (record { from = h; to = x.to; meets = x.meets })
  ]

  -- the faces from the first to the last are all faces
  pub all_faces : (p : FacePair) → DoMeet a b p → DoMeetWithin a b 1 (length a.faces) p
  all_faces p h = record { from = h.source.0; to = h.source.1; meets = h }

  pub any_face : (p : FacePair) → DoMeetWithin a b 1 (length a.faces) p → DoMeet a b p
  any_face p h = h.meets

module _ {C D : Type 0} (Holds : C → List Piece → Type 0) (HoldsMore : D → List Piece → Type 0) (a b : RawMesh) where
  -- the blocks of the first n faces, and the block of the next ones, as far as face m
  pub run_more : (n m : ℕ) → n ≤ m → (old : Block C) (more : Block D) (new : Block C) → IsBlockOf Holds a b (DoMeetWithin a b 1 n) old → IsBlockOf HoldsMore a b (DoMeetWithin a b (n + 1) m) more
      → TakesBlock Holds HoldsMore old more new → IsBlockOf Holds a b (DoMeetWithin a b 1 m) new
  run_more n m l old more new h k takes =
      let P : FacePair → Type 0 = DoMeetWithin a b 1 n in
      let Q : FacePair → Type 0 = DoMeetWithin a b (n + 1) m in
      block_same Holds a b (λ p. P p ⊎ Q p) (DoMeetWithin a b 1 m) (together a b n m l) (divided a b n m) new (block_join Holds HoldsMore a b P Q (apart a b n m) old more new h k takes)

module _ {C : Type 0} (Holds : C → List Piece → Type 0) (a b : RawMesh) where
  -- the block of all faces has all pairs that meet
  pub whole_block : (block : Block C) → IsBlockOf Holds a b (DoMeetWithin a b 1 (length a.faces)) block → IsBlockOf Holds a b (DoMeet a b) block
  whole_block block h = block_same Holds a b (DoMeetWithin a b 1 (length a.faces)) (DoMeet a b) (any_face a b) (all_faces a b) block h
