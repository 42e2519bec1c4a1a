-- An overlap has at most one first fault as one of two meshes, and none where it has a map.
use Rattle.std.proofs.Common.{◌≡◌, ◌≢◌, Result, Ok, Err, OnOk, IfErr, ◌∙◌, inl, inr, ◌⊎◌, ℕ, ◌-◌, ◌<◌, List, [], take, All, arith, ap, ap₂, sym, subst, refl}
use Rattle.std.proofs.lemmas.List.{get_or-take, length-take}
use Rattle.std.proofs.lemmas.List.Elements.{All-get_or}
use Rattle.vec_exact.specs.declared.RawMesh.{RawMesh}
use Rattle.vec_exact.proofs.Cycles.{below_same_above}
use Rattle.clip.specs.declared.pieces.Piece.{Piece}
use Rattle.clip.specs.Overlaps.{OverlapParts}
use Rattle.offline_map.specs.declared.faults.MapFault.{MapFault}
use Rattle.offline_map.specs.declared.faults.MapFault.TheVariants.{CountsA, CountsB, Row, Uncovered, NoMemory}
use Rattle.offline_map.specs.MapFaults.{IsRightPiece, IsFirstWrongPiece, IsFirstWithoutRow, IsMapFaultOf, IsMappable, OneMapFault}

abbrev pub no_piece : Piece
no_piece = record { a = 0; b = 0; ring = record { items = [] }; corners = [] }

-- where all pieces are right, none is the first wrong one
pub no_wrong_piece : (a b : RawMesh) (pieces : List Piece) (r : ℕ) → All (IsRightPiece a b) pieces → IsFirstWrongPiece a b pieces r → ⊥
no_wrong_piece a b pieces r all h = h.here no_piece (All-get_or (IsRightPiece a b) pieces (r - 1) no_piece (omega (arith, h.least, h.greatest)) all)

earlier_wrong : (a b : RawMesh) (pieces : List Piece) (r s : ℕ) → IsFirstWrongPiece a b pieces r → IsFirstWrongPiece a b pieces s → r < s → ⊥
earlier_wrong a b pieces r s h i l =
    h.here no_piece
    (subst (IsRightPiece a b) (get_or-take (s - 1) pieces (r - 1) no_piece (omega (arith, h.least)))
    (All-get_or (IsRightPiece a b) (take (s - 1) pieces) (r - 1) no_piece (omega (arith, h.least, i.greatest, length-take (s - 1) pieces)) i.before))

same_wrong_piece : (a b : RawMesh) (pieces : List Piece) (r s : ℕ) → IsFirstWrongPiece a b pieces r → IsFirstWrongPiece a b pieces s → r ≡ s
same_wrong_piece a b pieces r s h i =
    elim (below_same_above r s) [
      | inl l ↦ absurd (earlier_wrong a b pieces r s h i l)
      | inr (inl e) ↦ e
      | inr (inr l) ↦ absurd (earlier_wrong a b pieces s r i h l)
    ]

same_uncovered : (pieces : List Piece) (n j k : ℕ) → IsFirstWithoutRow pieces n j → IsFirstWithoutRow pieces n k → j ≡ k
same_uncovered pieces n j k h i =
    elim (below_same_above j k) [
      | inl l ↦ absurd (h.here (i.before j h.least l))
      | inr (inl e) ↦ e
      | inr (inr l) ↦ absurd (i.here (h.before k i.least l))
    ]

pub same_map_fault : (a b : RawMesh) (o : OverlapParts) (f g : MapFault) → IsMapFaultOf a b o f → IsMapFaultOf a b o g → f ≡ g
same_map_fault a b o (CountsA m n) (CountsA p q) h i = ap₂ CountsA (h.0 ∙ sym i.0) (h.1 ∙ sym i.1)
same_map_fault a b o (CountsA m n) (CountsB p q) h i = absurd (h.2 (h.0 ∙ i.0 ∙ sym h.1))
same_map_fault a b o (CountsA m n) (Row r) h i = absurd (h.2 (h.0 ∙ i.0.source ∙ sym h.1))
same_map_fault a b o (CountsA m n) (Uncovered j) h i = absurd (h.2 (h.0 ∙ i.0.source ∙ sym h.1))
same_map_fault a b o (CountsB m n) (CountsA p q) h i = absurd (i.2 (i.0 ∙ h.0 ∙ sym i.1))
same_map_fault a b o (CountsB m n) (CountsB p q) h i = ap₂ CountsB (h.1 ∙ sym i.1) (h.2 ∙ sym i.2)
same_map_fault a b o (CountsB m n) (Row r) h i = absurd (h.3 (h.1 ∙ i.0.target ∙ sym h.2))
same_map_fault a b o (CountsB m n) (Uncovered j) h i = absurd (h.3 (h.1 ∙ i.0.target ∙ sym h.2))
same_map_fault a b o (Row r) (CountsA p q) h i = absurd (i.2 (i.0 ∙ h.0.source ∙ sym i.1))
same_map_fault a b o (Row r) (CountsB p q) h i = absurd (i.3 (i.1 ∙ h.0.target ∙ sym i.2))
same_map_fault a b o (Row r) (Row s) h i = ap Row (same_wrong_piece a b o.pieces r s h.1 i.1)
same_map_fault a b o (Row r) (Uncovered j) h i = absurd (no_wrong_piece a b o.pieces r i.1 h.1)
same_map_fault a b o (Uncovered j) (CountsA p q) h i = absurd (i.2 (i.0 ∙ h.0.source ∙ sym i.1))
same_map_fault a b o (Uncovered j) (CountsB p q) h i = absurd (i.3 (i.1 ∙ h.0.target ∙ sym i.2))
same_map_fault a b o (Uncovered j) (Row s) h i = absurd (no_wrong_piece a b o.pieces s h.1 i.1)
same_map_fault a b o (Uncovered j) (Uncovered k) h i = ap Uncovered (same_uncovered o.pieces o.faces_b j k h.2 i.2)
same_map_fault a b o NoMemory g h i = absurd h
same_map_fault a b o f NoMemory h i = absurd i

pub no_map_fault : (a b : RawMesh) (o : OverlapParts) (f : MapFault) → IsMappable a b o → IsMapFaultOf a b o f → ⊥
no_map_fault a b o (CountsA m n) w h = h.2 (h.0 ∙ w.counts.source ∙ sym h.1)
no_map_fault a b o (CountsB m n) w h = h.3 (h.1 ∙ w.counts.target ∙ sym h.2)
no_map_fault a b o (Row r) w h = no_wrong_piece a b o.pieces r w.pieces h.1
no_map_fault a b o (Uncovered j) w h = h.2.here (w.covered j h.2.least h.2.greatest)
no_map_fault a b o NoMemory w h = h

pub one_map_fault : (a b : RawMesh) (o : OverlapParts) → OneMapFault a b o
one_map_fault a b o = record { same = same_map_fault a b o; none = no_map_fault a b o }

-- what an answer may be where there is a fault
pub refused : {X : Type 0} (a b : RawMesh) (o p : OverlapParts) (r : Result X MapFault) → p ≡ o → OnOk r (IsMappable a b p) → IfErr r (λ (f : MapFault). f ≢ NoMemory → IsMapFaultOf a b p f)
    → (fault : MapFault) → IsMapFaultOf a b o fault → (r ≡ Err fault) ⊎ (r ≡ Err NoMemory)
refused a b o p (Ok x) e w k fault h = absurd (no_map_fault a b p fault w (subst (λ (q : OverlapParts). IsMapFaultOf a b q fault) (sym e) h))
refused a b o p (Err NoMemory) e w k fault h = inr refl
refused a b o p (Err (CountsA m n)) e w k fault h = inl (ap Err (same_map_fault a b o (CountsA m n) fault (subst (λ (q : OverlapParts). IsMapFaultOf a b q (CountsA m n)) e (k (λ q. cc))) h))
refused a b o p (Err (CountsB m n)) e w k fault h = inl (ap Err (same_map_fault a b o (CountsB m n) fault (subst (λ (q : OverlapParts). IsMapFaultOf a b q (CountsB m n)) e (k (λ q. cc))) h))
refused a b o p (Err (Row n)) e w k fault h = inl (ap Err (same_map_fault a b o (Row n) fault (subst (λ (q : OverlapParts). IsMapFaultOf a b q (Row n)) e (k (λ q. cc))) h))
refused a b o p (Err (Uncovered n)) e w k fault h = inl (ap Err (same_map_fault a b o (Uncovered n) fault (subst (λ (q : OverlapParts). IsMapFaultOf a b q (Uncovered n)) e (k (λ q. cc))) h))
