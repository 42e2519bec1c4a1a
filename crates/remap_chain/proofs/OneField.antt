-- What the chain gives is determined by the two meshes and the values, and its faults are those of its steps.
use Rattle.std.proofs.Common.{◌≡◌, ◌≢◌, ◌<◌, ◌⊎◌, ◌∙◌, ℕ, ℤ, List, length, map, All, Result, Err, inl, inr, refl, sym, ap, ap₂, subst, arith}
use Rattle.std.proofs.lemmas.List.{length-map}
use Rattle.vec_exact.specs.declared.RawMesh.{RawMesh}
use Rattle.clip.specs.Overlaps.{OverlapParts}
use Rattle.overlap_run.specs.Pairs.{IsPairCount}
use Rattle.overlap_run.specs.Whole.{pair_of, IsOverlapOf}
use Rattle.map_rows.specs.Maps.{MapParts}
use Rattle.map_rows.specs.Application.{application_of}
use Rattle.offline_map.specs.declared.faults.MapFault.{MapFault}
use Rattle.offline_map.specs.declared.faults.MapFault.TheVariants as of_map
use Rattle.offline_map.specs.Maps.{map_of}
use Rattle.offline_map.specs.MapFaults.{IsRightPiece, IsMappable, IsMapFaultOf}
use Rattle.offline_map.proofs.FirstFaults.{same_map_fault, no_map_fault, no_wrong_piece}
use Rattle.apply_map.specs.Fields.{field_of}
use Rattle.remap_chain.specs.declared.whole.ChainOut.{ChainOut}
use Rattle.remap_chain.specs.declared.faults.ChainFault.{ChainFault}
use Rattle.remap_chain.specs.declared.faults.ChainFault.TheVariants.{TooManyPieces, Uncovered, Length, NoMemory}
use Rattle.remap_chain.specs.Chains.{IsFoundOverlap, IsChainOf, IsChainFaultOf, IsFaultOfOverlap, IsFaultOfMap, IsFaultOfField, OneChain}
use Rattle.remap_chain.proofs.OnePair.{one_count, one_overlap, count_of_overlap}

-- the number of pieces of the overlap is that of the pairs that meet
pub pair_count : (a b : RawMesh) (o : OverlapParts) → IsOverlapOf a b o → IsPairCount a b (length o.pieces)
pair_count a b o is = (map pair_of o.pieces, is.pairs, length-map o.pieces pair_of)

too_many : (a b : RawMesh) (o : OverlapParts) (n : ℕ) → IsFoundOverlap a b o → IsPairCount a b n → 8388608 < n → ⊥
too_many a b o n found count past = omega (arith, found.few, past, count_of_overlap a b o n found.overlap count)

same_found : (a b : RawMesh) (o p : OverlapParts) → IsFoundOverlap a b o → IsFoundOverlap a b p → o ≡ p
same_found a b o p x y = one_overlap a b o p x.overlap y.overlap

same_target : (a b : RawMesh) (o p : OverlapParts) (j k : ℕ) → o ≡ p → IsMapFaultOf a b o (of_map.Uncovered j) → IsMapFaultOf a b p (of_map.Uncovered k) → j ≡ k
same_target a b o p j k e h i =
    let here : IsMapFaultOf a b p (of_map.Uncovered j) = subst (λ (q : OverlapParts). IsMapFaultOf a b q (of_map.Uncovered j)) e h in
    let same : of_map.Uncovered j ≡ of_map.Uncovered k = same_map_fault a b p (of_map.Uncovered j) (of_map.Uncovered k) here i in
    cc

uncovered_not : (a b : RawMesh) (o p : OverlapParts) (j : ℕ) → o ≡ p → IsMapFaultOf a b o (of_map.Uncovered j) → IsMappable a b p → ⊥
uncovered_not a b o p j e h w = no_map_fault a b p (of_map.Uncovered j) w (subst (λ (q : OverlapParts). IsMapFaultOf a b q (of_map.Uncovered j)) e h)

pub same_fault : (a b : RawMesh) (values : List ℤ) (f g : ChainFault) → IsChainFaultOf a b values f → IsChainFaultOf a b values g → f ≡ g
same_fault a b values (TooManyPieces n) (TooManyPieces k) h i = ap TooManyPieces (one_count a b n k h.0 i.0)
same_fault a b values (TooManyPieces n) (Uncovered j) h i = absurd (too_many a b i.0 n i.1 h.0 h.1)
same_fault a b values (TooManyPieces n) (Length s t) h i = absurd (too_many a b i.0 n i.1 h.0 h.1)
same_fault a b values (Uncovered j) (TooManyPieces n) h i = absurd (too_many a b h.0 n h.1 i.0 i.1)
same_fault a b values (Uncovered j) (Uncovered k) h i = ap Uncovered (same_target a b h.0 i.0 j k (same_found a b h.0 i.0 h.1 i.1) h.2 i.2)
same_fault a b values (Uncovered j) (Length s t) h i = absurd (uncovered_not a b h.0 i.0 j (same_found a b h.0 i.0 h.1 i.1) h.2 i.2)
same_fault a b values (Length s t) (TooManyPieces n) h i = absurd (too_many a b h.0 n h.1 i.0 i.1)
same_fault a b values (Length s t) (Uncovered j) h i = absurd (uncovered_not a b i.0 h.0 j (same_found a b i.0 h.0 i.1 h.1) i.2 h.2)
same_fault a b values (Length s t) (Length u v) h i =
    ap₂ Length (h.3.0 ∙ ap (λ (o : OverlapParts). o.faces_a) (same_found a b h.0 i.0 h.1 i.1) ∙ sym i.3.0) (h.3.1 ∙ sym i.3.1)
same_fault a b values NoMemory g h i = absurd h
same_fault a b values f NoMemory h i = absurd i

-- the chain has no fault over this overlap: it has a map, and there is a value for each source face
pub record IsFaultless (a b : RawMesh) (values : List ℤ) (o : OverlapParts) : Type 0 where
  pub found : IsFoundOverlap a b o
  pub mappable : IsMappable a b o
  pub counts : length values ≡ o.faces_a

pub faultless : (a b : RawMesh) (values : List ℤ) (o : OverlapParts) (f : ChainFault) → IsFaultless a b values o → IsChainFaultOf a b values f → ⊥
faultless a b values o (TooManyPieces n) c f = too_many a b o n c.found f.0 f.1
faultless a b values o (Uncovered j) c f = uncovered_not a b f.0 o j (same_found a b f.0 o f.1 c.found) f.2 c.mappable
faultless a b values o (Length s t) c f =
    let e = same_found a b o f.0 c.found f.1 in
    let sources : o.faces_a ≡ f.0.faces_a = ap (λ (p : OverlapParts). p.faces_a) e in
    f.3.2 (omega (arith, c.counts, sources))
faultless a b values o NoMemory c f = f

pub no_fault : (a b : RawMesh) (values : List ℤ) (out : ChainOut) (f : ChainFault) → IsChainOf a b values out → IsChainFaultOf a b values f → ⊥
no_fault a b values out f c h = faultless a b values c.0 f (record { found = c.1.found; mappable = c.1.mappable; counts = c.1.counts }) h

pub same_chain : (a b : RawMesh) (values : List ℤ) (out other : ChainOut) → IsChainOf a b values out → IsChainOf a b values other → out ≡ other
same_chain a b values out other c d =
    let e = same_found a b c.0 d.0 c.1.found d.1.found in
    let pieces = c.1.pieces ∙ ap (λ (o : OverlapParts). length o.pieces) e ∙ sym d.1.pieces in
    let maps = c.1.map ∙ ap map_of e ∙ sym d.1.map in
    let fields = c.1.field ∙ ap (λ (o : OverlapParts). field_of (application_of (map_of o) 1 values)) e ∙ sym d.1.field in
    λ i. record { pieces = pieces i; map = maps i; field = fields i }

pub one_chain : (a b : RawMesh) (values : List ℤ) → OneChain a b values
one_chain a b values = record { same = same_chain a b values; same_fault = same_fault a b values; none = no_fault a b values }

-- The faults of the steps are those of the chain.

pub fault_of_overlap : (a b : RawMesh) (values : List ℤ) (f : ChainFault) → IsFaultOfOverlap a b f → f ≢ NoMemory → IsChainFaultOf a b values f
fault_of_overlap a b values (TooManyPieces n) h not = h
fault_of_overlap a b values (Uncovered j) h not = absurd h
fault_of_overlap a b values (Length s t) h not = absurd h
fault_of_overlap a b values NoMemory h not = absurd (not refl)

pub fault_of_map : (a b : RawMesh) (values : List ℤ) (o : OverlapParts) (f : ChainFault) → IsFoundOverlap a b o → IsFaultOfMap a b o f → f ≢ NoMemory → IsChainFaultOf a b values f
fault_of_map a b values o (TooManyPieces n) found h not = absurd h
fault_of_map a b values o (Uncovered j) found h not = (o, found, h)
fault_of_map a b values o (Length s t) found h not = absurd h
fault_of_map a b values o NoMemory found h not = absurd (not refl)

pub fault_of_field : (a b : RawMesh) (values : List ℤ) (o : OverlapParts) (f : ChainFault) → IsFoundOverlap a b o → IsMappable a b o → IsFaultOfField (map_of o) values f → f ≢ NoMemory → IsChainFaultOf a b values f
fault_of_field a b values o (TooManyPieces n) found w h not = absurd h
fault_of_field a b values o (Uncovered j) found w h not = absurd h
fault_of_field a b values o (Length s t) found w h not = (o, found, w, h)
fault_of_field a b values o NoMemory found w h not = absurd (not refl)

-- what an answer is where there is a fault
pub refused : {X : Type 0} (a b : RawMesh) (values : List ℤ) (f : ChainFault) (r : Result X ChainFault) → r ≡ Err f → (f ≢ NoMemory → IsChainFaultOf a b values f)
    → (fault : ChainFault) → IsChainFaultOf a b values fault → (r ≡ Err fault) ⊎ (r ≡ Err NoMemory)
refused a b values NoMemory r e k fault h = inr e
refused a b values (TooManyPieces n) r e k fault h = inl (e ∙ ap Err (same_fault a b values (TooManyPieces n) fault (k (λ q. cc)) h))
refused a b values (Uncovered j) r e k fault h = inl (e ∙ ap Err (same_fault a b values (Uncovered j) fault (k (λ q. cc)) h))
refused a b values (Length s t) r e k fault h = inl (e ∙ ap Err (same_fault a b values (Length s t) fault (k (λ q. cc)) h))

-- The overlap of two meshes has their counts, and its pieces are right.

pub no_counts_a : (a b : RawMesh) (o : OverlapParts) (m n : ℕ) → IsOverlapOf a b o → IsMapFaultOf a b o (of_map.CountsA m n) → ⊥
no_counts_a a b o m n is h = h.2 (h.0 ∙ is.source_faces ∙ sym h.1)

pub no_counts_b : (a b : RawMesh) (o : OverlapParts) (m n : ℕ) → IsOverlapOf a b o → IsMapFaultOf a b o (of_map.CountsB m n) → ⊥
no_counts_b a b o m n is h = h.3 (h.1 ∙ is.target_faces ∙ sym h.2)

pieces_right : (a b : RawMesh) (o : OverlapParts) → IsOverlapOf a b o → All (IsRightPiece a b) o.pieces
pieces_right a b o is k d below = let p = is.pieces k d below in record { ring = p.ring; corners = p.corners }

pub no_row : (a b : RawMesh) (o : OverlapParts) (r : ℕ) → IsOverlapOf a b o → IsMapFaultOf a b o (of_map.Row r) → ⊥
no_row a b o r is h = no_wrong_piece a b o.pieces r (pieces_right a b o is) h.1

-- what is known of a fault of its map
abbrev pub IsOwnMapFault : RawMesh → RawMesh → OverlapParts → MapFault → Type 0
IsOwnMapFault a b o fault = fault ≢ of_map.NoMemory → IsMapFaultOf a b o fault

pub own_row : (a b : RawMesh) (o : OverlapParts) (r : ℕ) → IsOverlapOf a b o → IsOwnMapFault a b o (of_map.Row r) → ⊥
own_row a b o r is h = no_row a b o r is (h (λ e. cc))

-- there is a value for each source face of the map
pub has_values : (a b : RawMesh) (values : List ℤ) (out : ChainOut) → IsChainOf a b values out → length values ≡ out.map.n_a
has_values a b values out c = c.1.counts ∙ sym (ap (λ (m : MapParts). m.n_a) c.1.map)
