-- In the index of a mesh, who shares a cell is a candidate.
use Rattle.std.proofs.Common.{◌≡◌, ℕ, ◌-◌, ◌≤◌, ◌↔◌, ℤ, pos, ◌<ℤ◌, arith, ap, sym, ◌∙◌, subst, List, [], length, Option}
use Rattle.std.proofs.lemmas.Int.{ints}
use Rattle.std.specs.List.{Contains}
use Rattle.std.proofs.lemmas.List.Elements.{All-get_or}
use Rattle.vec_exact.specs.Face.{IsAccepted}
use Rattle.vec_exact.specs.Face.{IsAcceptedFace}
use Rattle.mesh_check.specs.Mesh.{IsAcceptedMesh}
use Rattle.cell_index.proofs.BoxCells.{law_holds}
use Rattle.vec_exact.specs.declared.RawMesh.{RawMesh}
use Rattle.mesh_check.specs.Mesh.{corners_of}
use Rattle.cell_index.specs.declared.CellBox.{CellBox}
use Rattle.cell_index.specs.Box.{boxes}
use Rattle.cell_index.specs.Candidate.{SharesCell, AreCandidates, HasCandidates, HasMeeting}
use Rattle.cell_index.specs.Fineness.{fineness_of}
use Rattle.cell_index.specs.IndexOf.{IndexView, IsIndexOf, IsSharer, panels, at_panel, LawSharersAreCandidates}
use Rattle.cell_index.proofs.Fair.{panel_of, place_of_panel, place_below, panel_at, box_at_place}

along : (a b x y : Option CellBox) → a ≡ x → b ≡ y → SharesCell a b → SharesCell x y
along a b x y p q s = subst (λ (z : Option CellBox). SharesCell z y) p (subst (λ (z : Option CellBox). SharesCell a z) q s)

-- the boxes of target j in the index of a mesh
target_boxes : (index : IndexView) (b : RawMesh) (j : ℕ) → IsIndexOf index b → 1 ≤ j → j ≤ length b.faces → panels index.boxes j ≡ boxes (corners_of b j) (fineness_of (length b.faces))
target_boxes index b j h lo hi = h.boxes_are j lo hi ∙ ap (boxes (corners_of b j)) h.fineness

pub sharers : LawSharersAreCandidates
sharers index b a i j h = (to, back)
  where
    k : ℤ
    k = fineness_of (length b.faces)

    own : (p : ℕ) → at_panel (boxes (corners_of a i) index.fineness) p ≡ at_panel (boxes (corners_of a i) k) p
    own p = ap (λ (z : ℤ). at_panel (boxes (corners_of a i) z) p) h.fineness

    to : IsSharer (boxes (corners_of a i) index.fineness) index.boxes j → AreCandidates a i b j
    to s =
        let hi : j ≤ length b.faces = omega (arith, s.last, h.count) in
        let p = s.shares.0 in
        let lt = s.shares.1 in
        record {
          first = s.first;
          last = hi;
          share = (
            panel_of p,
            along _ _ _ _ (own p ∙ panel_at (corners_of a i) k p lt)
                (ap (λ (z : List (Option CellBox)). at_panel z p) (target_boxes index b j h s.first hi) ∙ panel_at (corners_of b j) k p lt) s.shares.2,
          );
        }

    back : AreCandidates a i b j → IsSharer (boxes (corners_of a i) index.fineness) index.boxes j
    back c =
        let p = place_of_panel c.share.0 in
        record {
          first = c.first;
          last = omega (arith, c.last, h.count);
          shares = (
            p,
            place_below c.share.0,
            along _ _ _ _ (sym (own p ∙ box_at_place (corners_of a i) k c.share.0))
                (sym (ap (λ (z : List (Option CellBox)). at_panel z p) (target_boxes index b j h c.first c.last) ∙ box_at_place (corners_of b j) k c.share.0)) c.share.1,
          );
        }

pub has_candidates : (index : IndexView) (a : RawMesh) (i : ℕ) (found : List ℕ) → ((j : ℕ) → Contains found j ↔ IsSharer (boxes (corners_of a i) index.fineness) index.boxes j) → (b : RawMesh) → IsIndexOf index b → HasCandidates a i b found
has_candidates index a i found h b o j =
    let s = sharers index b a i j o in
    (λ c. s.0 ((h j).0 c), λ c. (h j).1 (s.1 c))

face_accepted : (b : RawMesh) (j : ℕ) → IsAcceptedMesh b → 1 ≤ j → j ≤ length b.faces → IsAcceptedFace (corners_of b j)
face_accepted b j h lo hi = let f = All-get_or (IsAccepted b.nodes) b.faces (j - 1) [] (omega arith) h.faces in f.accepted

pub has_meeting : (index : IndexView) (a : RawMesh) (i : ℕ) (found : List ℕ) → IsAcceptedFace (corners_of a i) → ((j : ℕ) → Contains found j ↔ IsSharer (boxes (corners_of a i) index.fineness) index.boxes j)
    → (b : RawMesh) → IsAcceptedMesh b → IsIndexOf index b → HasMeeting a i b found
has_meeting index a i found f h b m o j lo hi d =
    (has_candidates index a i found h b o j).1
    (record { first = lo; last = hi; share = law_holds (corners_of a i) (corners_of b j) (fineness_of (length b.faces)) f (face_accepted b j m lo hi) (some (length b.faces)) d })
  where
    some : (n : ℕ) → pos 0 <ℤ fineness_of n
    some n = omega (arith, ints)
