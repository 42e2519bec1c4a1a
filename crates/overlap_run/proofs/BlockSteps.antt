-- How a block of pieces grows.
use Rattle.std.proofs.Common.{◌≡◌, ◌⊎◌, inl, inr, List, [], ◌∷◌, ◌++◌, sym, subst, arith}
use Rattle.vec_exact.specs.declared.RawMesh.{RawMesh}
use Rattle.clip.specs.declared.pieces.Piece.{Piece}
use Rattle.overlap_run.specs.declared.blocks.Block.{Block}
use Rattle.overlap_run.specs.Pairs.{FacePair, IsEarlier, DoMeet, IsCountOf}
use Rattle.overlap_run.specs.Parts.{IsBlockOf, AddsPiece, TakesPair, TakesBlock}
use Rattle.overlap_run.proofs.Exactly.{count_none, count_single, count_same, count_join, pieces_none, pieces_single, pieces_same, pieces_join}

module _ {C : Type 0} (Holds : C → List Piece → Type 0) (a b : RawMesh) where
  pub block_none : (P : FacePair → Type 0) → ((p : FacePair) → P p → ⊥) → (block : Block C) → block.count ≡ 0 → Holds block.pieces [] → IsBlockOf Holds a b P block
  block_none P h block e f = record {
    count = subst (IsCountOf P) (sym e) (count_none P h);
    listed = λ l. ([], pieces_none a b P h, f);
    dropped = λ l. absurd (omega (arith, e, l));
  }

  pub block_same : (P Q : FacePair → Type 0) → ((p : FacePair) → P p → Q p) → ((p : FacePair) → Q p → P p) → (block : Block C) → IsBlockOf Holds a b P block → IsBlockOf Holds a b Q block
  block_same P Q f g block h = record {
    count = count_same P Q f g block.count h.count;
    listed = λ l. let all = h.listed l in (all.0, pieces_same a b P Q f g all.0 all.1, all.2);
    dropped = h.dropped;
  }

  -- one pair more, after all the others
  pub block_more : (P : FacePair → Type 0) (q : FacePair) → ((p : FacePair) → P p → IsEarlier p q) → (old new : Block C) → IsBlockOf Holds a b P old → AddsPiece Holds a b q old new
      → IsBlockOf Holds a b (λ p. P p ⊎ (p ≡ q)) new
  block_more P q before old new h adds =
      let Here : FacePair → Type 0 = λ p. p ≡ q in
      let before_here : (p r : FacePair) → P p → r ≡ q → IsEarlier p r = λ p r x e. subst (IsEarlier p) (sym e) (before p x) in
      record {
        count = count_join P Here before_here old.count 1 new.count adds.count h.count (count_single q);
        listed = λ l.
            let one = adds.listed l in
            let all = h.listed (omega (arith, l, adds.count)) in
            (all.0 ++ one.0 ∷ [], pieces_join a b P Here before_here all.0 (one.0 ∷ []) all.1 (pieces_single a b q one.0 one.1), one.2 all.0 all.2);
        dropped = adds.dropped;
      }

  -- one pair more is taken, after all the others
  pub block_takes : (P Q : FacePair → Type 0) (q : FacePair) → ((p : FacePair) → P p → IsEarlier p q) → ((p : FacePair) → P p → Q p) → (DoMeet a b q → Q q)
      → ((p : FacePair) → Q p → P p ⊎ ((p ≡ q) × DoMeet a b q)) → (old new : Block C) → IsBlockOf Holds a b P old → TakesPair Holds a b q old new → IsBlockOf Holds a b Q new
  block_takes P Q q before grows here only old new h (inl meets) =
      block_same (λ p. P p ⊎ (p ≡ q)) Q
      (λ p x. elim x [ inl y ↦ grows p y | inr e ↦ subst Q (sym e) (here meets.0) ])
      (λ p x. elim (only p x) [ inl y ↦ inl y | inr e ↦ inr e.0 ])
      new (block_more P q before old new h meets.1)
  block_takes P Q q before grows here only old new h (inr apart) =
      block_same P Q grows (λ p x. elim (only p x) [ inl y ↦ y | inr e ↦ absurd (apart.0 e.1) ])
      new (subst (IsBlockOf Holds a b P) (sym apart.1) h)

-- a block more, whose pairs come after all the others
module _ {C D : Type 0} (Holds : C → List Piece → Type 0) (HoldsMore : D → List Piece → Type 0) (a b : RawMesh) where
  pub block_join : (P Q : FacePair → Type 0) → ((p q : FacePair) → P p → Q q → IsEarlier p q) → (old : Block C) (more : Block D) (new : Block C) → IsBlockOf Holds a b P old → IsBlockOf HoldsMore a b Q more
      → TakesBlock Holds HoldsMore old more new → IsBlockOf Holds a b (λ p. P p ⊎ Q p) new
  block_join P Q before old more new h k takes = record {
    count = count_join P Q before old.count more.count new.count takes.count h.count k.count;
    listed = λ l.
        let all = h.listed (omega (arith, l, takes.count)) in
        let others = k.listed (omega (arith, l, takes.count)) in
        (all.0 ++ others.0, pieces_join a b P Q before all.0 others.0 all.1 others.1, takes.listed l all.0 others.0 all.2 others.2);
    dropped = takes.dropped;
  }
