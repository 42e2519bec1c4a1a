-- Lists of exactly the pairs with a property, their lengths, and lists of pieces of them.
use Rattle.std.proofs.Common.{◌≡◌, ℕ, ◌+◌, ◌⊎◌, inl, inr, List, [], ◌∷◌, ◌++◌, length, map, refl, sym, ◌∙◌, subst, arith, length-append}
use Rattle.std.specs.List.{All, Contains}
use Rattle.std.proofs.lemmas.List.{map-append}
use Rattle.std.proofs.lemmas.List.Elements.{All-nil, All-cons, All-append, All-weaker, Contains-append_left, Contains-append_right}
use Rattle.vec_exact.specs.declared.RawMesh.{RawMesh}
use Rattle.clip.specs.declared.pieces.Piece.{Piece}
use Rattle.clip.specs.Overlaps.{IsSoundPiece}
use Rattle.overlap_run.specs.Pairs.{FacePair, IsEarlier, AreExactly, IsCountOf}
use Rattle.overlap_run.specs.Whole.{pair_of, IsPieceOf}
use Rattle.overlap_run.specs.Parts.{ArePiecesOf, IsPieceAt}
use Rattle.cell_index.proofs.Ascending.{pairs_append, member_here}

-- every pair with P comes before every pair with Q
abbrev pub AllBefore : (FacePair → Type 0) → (FacePair → Type 0) → Type 0
AllBefore P Q = (p q : FacePair) → P p → Q q → IsEarlier p q

-- ---- lists of pairs
pub exactly_none : (P : FacePair → Type 0) → ((p : FacePair) → P p → ⊥) → AreExactly P []
exactly_none P h = record {
  ascending = λ i j d l r. absurd (omega arith);
  each = All-nil P;
  complete = λ p x. absurd (h p x);
}

pub exactly_single : (q : FacePair) → AreExactly (λ p. p ≡ q) (q ∷ [])
exactly_single q = record {
  ascending = λ i j d l r. absurd (omega arith);
  each = All-cons (λ p. p ≡ q) q [] refl (All-nil (λ p. p ≡ q));
  complete = λ p e. subst (Contains (q ∷ [])) (sym e) (member_here q []);
}

pub exactly_same : (P Q : FacePair → Type 0) → ((p : FacePair) → P p → Q p) → ((p : FacePair) → Q p → P p) → (ps : List FacePair) → AreExactly P ps → AreExactly Q ps
exactly_same P Q f g ps e = record {
  ascending = e.ascending;
  each = All-weaker P Q f ps e.each;
  complete = λ p h. e.complete p (g p h);
}

pub exactly_join : (P Q : FacePair → Type 0) → AllBefore P Q → (ps qs : List FacePair) → AreExactly P ps → AreExactly Q qs → AreExactly (λ p. P p ⊎ Q p) (ps ++ qs)
exactly_join P Q before ps qs x y =
    let either : FacePair → Type 0 = λ p. P p ⊎ Q p in
    let all_before : All (λ p. All (IsEarlier p) qs) ps =
    All-weaker P (λ p. All (IsEarlier p) qs) (λ p h. All-weaker Q (IsEarlier p) (λ q k. before p q h k) qs y.each) ps x.each in
    record {
      ascending = pairs_append IsEarlier ps qs x.ascending y.ascending all_before;
      each = All-append either ps qs (All-weaker P either (λ p h. inl h) ps x.each) (All-weaker Q either (λ p h. inr h) qs y.each);
      complete = λ p h. elim h [
        | inl l ↦ Contains-append_left ps qs p (x.complete p l)
        | inr r ↦ Contains-append_right ps qs p (y.complete p r)
      ];
    }

-- ---- their lengths
pub count_none : (P : FacePair → Type 0) → ((p : FacePair) → P p → ⊥) → IsCountOf P 0
count_none P h = ([], exactly_none P h, refl)

pub count_single : (q : FacePair) → IsCountOf (λ p. p ≡ q) 1
count_single q = (q ∷ [], exactly_single q, refl)

pub count_same : (P Q : FacePair → Type 0) → ((p : FacePair) → P p → Q p) → ((p : FacePair) → Q p → P p) → (n : ℕ) → IsCountOf P n → IsCountOf Q n
count_same P Q f g n c = (c.0, exactly_same P Q f g c.0 c.1, c.2)

pub count_join : (P Q : FacePair → Type 0) → AllBefore P Q → (m n k : ℕ) → k ≡ m + n → IsCountOf P m → IsCountOf Q n → IsCountOf (λ p. P p ⊎ Q p) k
count_join P Q before m n k e c d = (c.0 ++ d.0, exactly_join P Q before c.0 d.0 c.1 d.1, length-append c.0 d.0 ∙ omega (arith, c.2, d.2))

-- ---- lists of pieces
module _ (a b : RawMesh) where
  pub pieces_none : (P : FacePair → Type 0) → ((p : FacePair) → P p → ⊥) → ArePiecesOf a b P []
  pieces_none P h = record { pairs = exactly_none P h; each = All-nil (IsPieceOf a b); sound = All-nil (IsSoundPiece (length a.faces) (length b.faces)) }

  pub pieces_single : (q : FacePair) (p : Piece) → IsPieceAt a b q p → ArePiecesOf a b (λ r. r ≡ q) (p ∷ [])
  pieces_single q p h = record {
    pairs = subst (λ (r : FacePair). AreExactly (λ s. s ≡ q) (r ∷ [])) (sym h.pair) (exactly_single q);
    each = All-cons (IsPieceOf a b) p [] h.right (All-nil (IsPieceOf a b));
    sound = All-cons (IsSoundPiece (length a.faces) (length b.faces)) p [] h.sound (All-nil (IsSoundPiece (length a.faces) (length b.faces)));
  }

  pub pieces_same : (P Q : FacePair → Type 0) → ((p : FacePair) → P p → Q p) → ((p : FacePair) → Q p → P p) → (ps : List Piece) → ArePiecesOf a b P ps → ArePiecesOf a b Q ps
  pieces_same P Q f g ps h = record { pairs = exactly_same P Q f g (map pair_of ps) h.pairs; each = h.each; sound = h.sound }

  pub pieces_join : (P Q : FacePair → Type 0) → AllBefore P Q → (ps qs : List Piece) → ArePiecesOf a b P ps → ArePiecesOf a b Q qs → ArePiecesOf a b (λ p. P p ⊎ Q p) (ps ++ qs)
  pieces_join P Q before ps qs x y = record {
    pairs = subst (AreExactly (λ p. P p ⊎ Q p)) (sym (map-append pair_of ps qs)) (exactly_join P Q before (map pair_of ps) (map pair_of qs) x.pairs y.pairs);
    each = All-append (IsPieceOf a b) ps qs x.each y.each;
    sound = All-append (IsSoundPiece (length a.faces) (length b.faces)) ps qs x.sound y.sound;
  }
