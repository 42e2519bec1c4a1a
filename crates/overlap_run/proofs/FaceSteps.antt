-- How a block grows by the pairs of one source face.
use Rattle.std.proofs.Common.{◌≡◌, ℕ, ◌+◌, ◌-◌, ◌<◌, ◌≤◌, ◌⊎◌, inl, inr, List, [], ◌∷◌, ◌++◌, length, take, slice_index, slice_index_or, ap, sym, ◌∙◌, subst, arith}
use Rattle.std.specs.List.{Contains}
use Rattle.std.specs.List.Sorted.{IsStrictlyIncreasing}
use Rattle.std.proofs.lemmas.List.{take_more, take_all, get_or-take, get_or_default, length-take}
use Rattle.std.proofs.lemmas.List.Elements.{Contains-append_left, Contains-push, Contains-push_cases}
use Rattle.std.proofs.lemmas.List.Kept.{AllPairs-from_increasing}
use Rattle.vec_exact.specs.declared.RawMesh.{RawMesh}
use Rattle.cone_laws.specs.Inside.{Meets}
use Rattle.mesh_check.specs.Mesh.{corners_of}
use Rattle.clip.specs.Planes.{IsFaceNumber}
use Rattle.clip.specs.declared.pieces.Piece.{Piece}
use Rattle.overlap_run.specs.declared.blocks.Block.{Block}
use Rattle.overlap_run.specs.Pairs.{FacePair, DoMeet}
use Rattle.overlap_run.specs.Parts.{DoMeetWithin, IsBlockOf, TakesPair}
use Rattle.overlap_run.proofs.BlockSteps.{block_same, block_takes}

-- the pair meets, and its source face is one from `first` to before i, or it is i and the target face is listed
pub record DoMeetAmong (a b : RawMesh) (first i : ℕ) (listed : List ℕ) (p : FacePair) : Type 0 where
  pub from : first ≤ p.source
  pub among : (p.source < i) ⊎ ((p.source ≡ i) × Contains listed p.target)
  pub meets : DoMeet a b p

module _ {C : Type 0} (Holds : C → List Piece → Type 0) (a b : RawMesh) (first i : ℕ) (at_least : first ≤ i) (positive : 1 ≤ i) where
  -- no target is clipped yet
  pub face_begins : (block : Block C) → IsBlockOf Holds a b (DoMeetWithin a b first (i - 1)) block → IsBlockOf Holds a b (DoMeetAmong a b first i []) block
  face_begins block h =
      block_same Holds a b (DoMeetWithin a b first (i - 1)) (DoMeetAmong a b first i [])
      (λ p x. record { from = x.from; among = inl (omega (arith, x.to)); meets = x.meets })
      (λ p x. elim x.among [
        | inl l ↦ record { from = x.from; to = omega (arith, l); meets = x.meets }
        | inr e ↦ absurd (omega (arith, e.1.1))
      ])
      block h

  -- one target more
  pub face_more : (targets : List ℕ) (t : ℕ) (j : ℕ) → t < length targets → slice_index targets t ≡ j → IsStrictlyIncreasing targets
      → (old new : Block C) → IsBlockOf Holds a b (DoMeetAmong a b first i (take t targets)) old → TakesPair Holds a b (record { source = i; target = j }) old new
      → IsBlockOf Holds a b (DoMeetAmong a b first i (take (t + 1) targets)) new
  face_more targets t j l is increasing old new h takes =
      let q : FacePair = record { source = i; target = j } in
      let listed : take (t + 1) targets ≡ take t targets ++ j ∷ [] = take_more targets t 0 l ∙ ap (λ (x : ℕ). take t targets ++ x ∷ []) is in
      subst (λ (xs : List ℕ). IsBlockOf Holds a b (DoMeetAmong a b first i xs) new) (sym listed)
      (block_takes Holds a b (DoMeetAmong a b first i (take t targets)) (DoMeetAmong a b first i (take t targets ++ j ∷ [])) q
      (λ p x. elim x.among [
        | inl s ↦ inl s
        | inr e ↦ inr (e.0, before_target p.target e.1)
      ])
      (λ p x. record {
        from = x.from;
        among = elim x.among [ inl s ↦ inl s | inr e ↦ inr (e.0, Contains-append_left (take t targets) (j ∷ []) p.target e.1) ];
        meets = x.meets;
      })
      (λ m. record { from = at_least; among = inr (λ k. i, Contains-push (take t targets) j); meets = m })
      (λ p x. elim x.among [
        | inl s ↦ inl (record { from = x.from; among = inl s; meets = x.meets })
        | inr e ↦ elim (Contains-push_cases (take t targets) j p.target e.1) [
          | inl c ↦ inl (record { from = x.from; among = inr (e.0, c); meets = x.meets })
          | inr s ↦
              let same : p ≡ q = λ k. record { source = e.0 k; target = sym s k } in
              inr (same, subst (DoMeet a b) same x.meets)
        ]
      ])
      old new h takes)
    where
      before_target : (y : ℕ) → Contains (take t targets) y → y < j
      before_target y c =
          let k = c.0 in
          let early : k < t = omega (arith, c.1, length-take t targets) in
          let here : slice_index_or targets k y ≡ y = sym (get_or-take t targets k y early) ∙ c.2 in
          let below : slice_index_or targets k y < slice_index_or targets t y = AllPairs-from_increasing targets increasing k t y early l in
          omega (arith, here, below, get_or_default targets t y 0 l, is)

  -- all targets are clipped
  pub face_ends : (targets : List ℕ) (t : ℕ) → length targets ≤ t → ((j : ℕ) → IsFaceNumber b j → Meets (corners_of a i) (corners_of b j) → Contains targets j)
      → (block : Block C) → IsBlockOf Holds a b (DoMeetAmong a b first i (take t targets)) block → IsBlockOf Holds a b (DoMeetWithin a b first i) block
  face_ends targets t l all block h =
      block_same Holds a b (DoMeetAmong a b first i (take t targets)) (DoMeetWithin a b first i)
      (λ p x. record { from = x.from; to = elim x.among [ inl s ↦ omega (arith, s) | inr e ↦ omega (arith, e.0) ]; meets = x.meets })
      (λ p x. record { from = x.from; among = among p x; meets = x.meets })
      block h
    where
      below_or_same : (s : ℕ) → s ≤ i → (s < i) ⊎ (s ≡ i)
      below_or_same s h = grind arith

      among : (p : FacePair) → DoMeetWithin a b first i p → (p.source < i) ⊎ ((p.source ≡ i) × Contains (take t targets) p.target)
      among p x = elim (below_or_same p.source x.to) [
        | inl s ↦ inl s
        | inr e ↦
            let meets : Meets (corners_of a i) (corners_of b p.target) = subst (λ (s : ℕ). Meets (corners_of a s) (corners_of b p.target)) e x.meets.meets in
            inr (e, subst (λ (xs : List ℕ). Contains xs p.target) (sym (take_all t targets l)) (all p.target x.meets.target meets))
      ]
