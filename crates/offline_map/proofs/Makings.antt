-- Maps in the making: what their parts are of an overlap, and their faults as faults of it.
use Rattle.std.proofs.Common.{◌≡◌, ◌≢◌, ◌∙◌, ℕ, ◌+◌, ◌-◌, ◌<◌, List, [], ◌∷◌, ◌++◌, length, map, take, get_or, All, arith, refl, ap, sym, subst}
use Rattle.std.specs.List.{HoldsAt}
use Rattle.std.proofs.lemmas.List.{take_more, map-append, length-map, length-take}
use Rattle.std.proofs.lemmas.List.Elements.{All-more, at_read}
use Rattle.vec_exact.specs.declared.RawMesh.{RawMesh}
use Rattle.clip.specs.declared.pieces.Piece.{Piece}
use Rattle.clip.specs.Overlaps.{OverlapParts, IsSoundOverlap}
use Rattle.map_rows.specs.declared.rows.MapRow.{MapRow}
use Rattle.offline_map.specs.declared.faults.MapFault.{MapFault}
use Rattle.offline_map.specs.declared.faults.MapFault.TheVariants.{CountsA, CountsB, Row, Uncovered, NoMemory}
use Rattle.offline_map.specs.Maps.{row_of}
use Rattle.offline_map.specs.MapFaults.{IsRightPiece, HasCountsOf, IsFaultOfPieces, IsMapFaultOf}
use Rattle.offline_map.specs.Making.{Making, with_piece, IsMadeOf, IsFaultOfCounts, IsFaultOfPiece}

-- the counts and the rows of what was made of an overlap are those of the overlap
pub source_count : (k m : Making) (o : OverlapParts) (n : ℕ) → k ≡ m → IsMadeOf m o → n ≡ length k.a.faces → n ≡ o.faces_a
source_count k m o n e made is = is ∙ ap (λ (x : Making). length x.a.faces) e ∙ sym made.counts.source

pub target_count : (k m : Making) (o : OverlapParts) (n : ℕ) → k ≡ m → IsMadeOf m o → n ≡ length k.b.faces → n ≡ o.faces_b
target_count k m o n e made is = is ∙ ap (λ (x : Making). length x.b.faces) e ∙ sym made.counts.target

pub rows_of_pieces : (k m : Making) (o : OverlapParts) → k ≡ m → IsMadeOf m o → k.rows ≡ map row_of o.pieces
rows_of_pieces k m o e made = ap (λ (x : Making). x.rows) e ∙ made.rows

-- the meshes of a map that was begun, with the rows of these pieces
abbrev pub made_of : RawMesh → RawMesh → List Piece → Making
made_of a b pieces = record { a = a; b = b; rows = map row_of pieces }

-- one piece more of a list
pub one_piece_more : (a b : RawMesh) (m n : Making) (pieces : List Piece) (i : ℕ) (p : Piece) → m ≡ made_of a b (take i pieces) → i < length pieces → p ≡ get_or pieces i p → n ≡ with_piece m p
    → n ≡ made_of a b (take (i + 1) pieces)
one_piece_more a b m n pieces i p made within is put =
    let all : take (i + 1) pieces ≡ take i pieces ++ p ∷ [] = take_more pieces i p within ∙ ap (λ q. take i pieces ++ q ∷ []) (sym is) in
    let rows : map row_of (take i pieces) ++ row_of p ∷ [] ≡ map row_of (take (i + 1) pieces) = sym (map-append row_of (take i pieces) (p ∷ [])) ∙ ap (map row_of) (sym all) in
    put ∙ ap (λ (x : Making). with_piece x p) made ∙ ap (λ (r : List MapRow). let x : Making = record { a = a; b = b; rows = r } in x) rows

pub one_right_piece_more : (a b : RawMesh) (m : Making) (pieces : List Piece) (i : ℕ) (p : Piece) → m ≡ made_of a b (take i pieces) → i < length pieces → p ≡ get_or pieces i p
    → All (IsRightPiece a b) (take i pieces) → IsRightPiece m.a m.b p → All (IsRightPiece a b) (take (i + 1) pieces)
one_right_piece_more a b m pieces i p made within is before right =
    let here : IsRightPiece a b p = subst (λ (x : Making). IsRightPiece x.a x.b p) made right in
    All-more (IsRightPiece a b) pieces i p within before (at_read pieces (IsRightPiece a b) i p within is here p)

-- the fault of the next piece is one of the list
pub fault_of_next : (a b : RawMesh) (m : Making) (pieces : List Piece) (i : ℕ) (p : Piece) (f : MapFault) → m ≡ made_of a b (take i pieces) → i < length pieces → p ≡ get_or pieces i p
    → All (IsRightPiece a b) (take i pieces) → IsFaultOfPiece m p f → IsFaultOfPieces a b pieces f
fault_of_next a b m pieces i p (CountsA k n) made within is before h = absurd h
fault_of_next a b m pieces i p (CountsB k n) made within is before h = absurd h
fault_of_next a b m pieces i p (Row r) made within is before h =
    let few : length m.rows ≡ length (take i pieces) = ap (λ (x : Making). length x.rows) made ∙ length-map (take i pieces) row_of in
    let same : i ≡ r - 1 = omega (arith, few, length-take i pieces, h.0) in
    let wrong : Piece → Type 0 = λ (q : Piece). IsRightPiece a b q → ⊥ in
    let here : wrong p = subst (λ (x : Making). IsRightPiece x.a x.b p → ⊥) made h.1 in
    record {
      least = omega (arith, h.0);
      greatest = omega (arith, h.0, few, length-take i pieces);
      before = subst (λ (n : ℕ). All (IsRightPiece a b) (take n pieces)) same before;
      here = subst (λ (n : ℕ). HoldsAt wrong pieces n) same (at_read pieces wrong i p within is here);
    }
fault_of_next a b m pieces i p (Uncovered j) made within is before h = absurd h
fault_of_next a b m pieces i p NoMemory made within is before h = tt

-- what was made of all pieces of an overlap with the right counts is made of the overlap
pub made_of_all : (a b : RawMesh) (o : OverlapParts) (begun m : Making) (pieces : List Piece) → begun ≡ made_of a b [] → pieces ≡ o.pieces → m ≡ made_of begun.a begun.b pieces
    → m ≡ made_of a b o.pieces
made_of_all a b o begun m pieces e f g = g ∙ ap (λ (x : Making). made_of x.a x.b pieces) e ∙ ap (made_of a b) f

pub right_of_all : (a b : RawMesh) (o : OverlapParts) (begun m : Making) (pieces : List Piece) → begun ≡ made_of a b [] → pieces ≡ o.pieces → m ≡ made_of a b o.pieces
    → All (IsRightPiece begun.a begun.b) pieces → All (IsRightPiece m.a m.b) o.pieces
right_of_all a b o begun m pieces e f g h =
    let right : All (IsRightPiece begun.a begun.b) o.pieces = subst (All (IsRightPiece begun.a begun.b)) f h in
    subst (λ (x : Making). All (IsRightPiece x.a x.b) o.pieces) (sym g) (subst (λ (x : Making). All (IsRightPiece x.a x.b) o.pieces) e right)

pub is_made_of : (a b : RawMesh) (o : OverlapParts) (m : Making) → IsSoundOverlap o → o.faces_a ≡ length a.faces → o.faces_b ≡ length b.faces → m ≡ made_of a b o.pieces → IsMadeOf m o
is_made_of a b o m sound source target e =
    subst (λ (x : Making). IsMadeOf x o) (sym e) (record { sound = sound; counts = record { source = source; target = target }; rows = refl })

-- the faults of the counts and of the pieces of an overlap are faults of it
pub fault_of_counts : (a b : RawMesh) (o : OverlapParts) (f : MapFault) → IsFaultOfCounts a b o.faces_a o.faces_b f → f ≢ NoMemory → IsMapFaultOf a b o f
fault_of_counts a b o (CountsA m n) h told = h
fault_of_counts a b o (CountsB m n) h told = h
fault_of_counts a b o (Row r) h told = absurd h
fault_of_counts a b o (Uncovered j) h told = absurd h
fault_of_counts a b o NoMemory h told = absurd (told refl)

pub fault_of_pieces : (a b : RawMesh) (o : OverlapParts) (f : MapFault) → HasCountsOf a b o → IsFaultOfPieces a b o.pieces f → f ≢ NoMemory → IsMapFaultOf a b o f
fault_of_pieces a b o (CountsA m n) counts h told = absurd h
fault_of_pieces a b o (CountsB m n) counts h told = absurd h
fault_of_pieces a b o (Row r) counts h told = (counts, h)
fault_of_pieces a b o (Uncovered j) counts h told = absurd h
fault_of_pieces a b o NoMemory counts h told = absurd (told refl)
