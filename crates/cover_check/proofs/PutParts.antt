-- What is put to the parts, or to the cells.
use Rattle.std.proofs.Common.{◌≡◌, ℕ, zero, suc, ◌≤◌, ◌⊎◌, inl, inr, List, [], ◌∷◌, ◌++◌, length, map, arith, refl, sym, ap, ◌∙◌, subst, Some}
use Rattle.std.specs.Prelude.{All}
use Rattle.std.proofs.lemmas.List.{get_or_default, map-append}
use Rattle.std.proofs.lemmas.List.Elements.{All-cons, All-contains, All-contains_itself, All-pop, All-push, Contains-get_or, Contains-push}
use Rattle.vec_exact.specs.declared.RawMesh.{RawMesh}
use Rattle.vec_exact.specs.declared.Vec3.{Vec3}
use Rattle.cover_cells.specs.declared.cells.CellPlane.{CellPlane}
use Rattle.cover_check.specs.declared.parts.Part.{Part}
use Rattle.cone_laws.specs.Inside.{IsInside}
use Rattle.cover_cells.specs.Cells.{IsCell, cells_with}
use Rattle.cover_cells.proofs.Counts.{counts_held, held_counts}
use Rattle.cover_check.specs.Rest.{IsLess}
use Rattle.cover_check.specs.Parts.{PartView, view_of, with_faces, IsSoundPart, IsWithin, IsPartOf, IsCellOf, IsDivided}
use Rattle.cover_check.proofs.Insides.{some_inside, inside_or_not}
use Rattle.cover_check.proofs.Divided.{AreNear, spread_settled, spread_further}

-- the cell is put to the cells where it has no face, else it is put to the parts
pub record IsPut (old new : List Part) (cells left : List (List CellPlane)) (cell : List CellPlane) (near : List ℕ) : Type 0 where
  pub settled : length near ≡ 0 → (map view_of new ≡ map view_of old) × (left ≡ cells ++ cell ∷ [])
  pub further : 1 ≤ length near → (map view_of new ≡ map view_of old ++ record { cell = cell; faces = near } ∷ []) × (left ≡ cells)

some_or_none : (n : ℕ) → (n ≡ 0) ⊎ (1 ≤ n)
some_or_none zero = inl refl
some_or_none (suc n) = inr (omega arith)

pub put_divided : (sources : RawMesh) (target : List Vec3) (all : List ℕ) (old new : List Part) (others : List PartView) (faces near : List ℕ) (pieces : List (List CellPlane)) (cell : List CellPlane) (cells left : List (List CellPlane))
    → AreNear sources target cell faces near → IsPut old new cells left cell near
    → IsDivided sources target all (map view_of old ++ (others ++ with_faces faces (pieces ++ cell ∷ []))) cells
    → IsDivided sources target all (map view_of new ++ (others ++ with_faces faces pieces)) left
put_divided sources target all old new others faces near pieces cell cells left n p h =
    elim (some_or_none (length near)) [
      | inl e ↦
          let q = p.settled e in
          subst (λ (l : List (List CellPlane)). IsDivided sources target all (map view_of new ++ (others ++ with_faces faces pieces)) l) (sym q.1)
          (subst (λ (b : List PartView). IsDivided sources target all (b ++ (others ++ with_faces faces pieces)) (cells ++ cell ∷ [])) (sym q.0)
          (spread_settled sources target all (map view_of old) others faces near pieces cell cells h n e))
      | inr some ↦
          let q = p.further some in
          subst (λ (l : List (List CellPlane)). IsDivided sources target all (map view_of new ++ (others ++ with_faces faces pieces)) l) (sym q.1)
          (subst (λ (b : List PartView). IsDivided sources target all (b ++ (others ++ with_faces faces pieces)) cells) (sym q.0)
          (spread_further sources target all (map view_of old) others faces near pieces cell cells h n))
    ]

pub put_sound : (P : PartView → Type 0) (old new : List Part) (near : List ℕ) (cell : List CellPlane) (cells left : List (List CellPlane)) → IsPut old new cells left cell near
    → (1 ≤ length near → P (record { cell = cell; faces = near })) → All P (map view_of old) → All P (map view_of new)
put_sound P old new near cell cells left p s h =
    elim (some_or_none (length near)) [
      | inl e ↦ subst (All P) (sym (p.settled e).0) h
      | inr some ↦ subst (All P) (sym (p.further some).0) (All-push P (map view_of old) (record { cell = cell; faces = near }) h (s some))
    ]

-- ---- the last of several parts
pub view_popped : (parts rest : List Part) (p : Part) → parts ≡ rest ++ p ∷ [] → map view_of parts ≡ map view_of rest ++ view_of p ∷ []
view_popped parts rest p e = ap (map view_of) e ∙ map-append view_of rest (p ∷ [])

pub all_last : (P : PartView → Type 0) (parts rest : List Part) (p : Part) → parts ≡ rest ++ p ∷ [] → All P (map view_of parts) → P (view_of p) × All P (map view_of rest)
all_last P parts rest p e h =
    let popped = view_popped parts rest p e in (
      All-contains P (map view_of rest ++ view_of p ∷ []) (view_of p) (subst (All P) popped h) (Contains-push (map view_of rest) (view_of p)),
      (All-pop P (map view_of parts) (map view_of rest) (Some (view_of p)) popped h).0,
    )

-- ---- the target itself
pub whole_divided : (sources : RawMesh) (target : List Vec3) (all : List ℕ) (cells left : List (List CellPlane)) → left ≡ [] → All (IsCell sources target) cells
    → ((d : Vec3) → IsInside target d → cells_with sources target d cells ≡ 1)
    → ((d : Vec3) → ¬ IsInside target d → cells_with sources target d cells ≡ 0)
    → IsDivided sources target all (with_faces all cells) left
whole_divided sources target all cells left none rings inside outside = record {
  each_part = each cells rings (λ k e l d has. some_inside (IsInside target d) (cells_with sources target d cells) (inside_or_not target d) (outside d) (counts_held sources target d cells k e l has));
  each_cell = subst (All (IsCellOf sources target all)) (sym none) (λ k d l. absurd (omega arith));
  one = λ d i off. omega (arith, ap (cells_with sources target d) (own_cells cells), ap (cells_with sources target d) none, inside d i);
}
  where
    own_cells : (cs : List (List CellPlane)) → map (λ (q : PartView). q.cell) (with_faces all cs) ≡ cs
    own_cells [] = refl
    own_cells (x ∷ xs) = ap (λ (l : List (List CellPlane)). x ∷ l) (own_cells xs)

    each : (cs : List (List CellPlane)) → All (IsCell sources target) cs → All (IsWithin sources target) cs → All (IsPartOf sources target all) (with_faces all cs)
    each [] r w = λ k d l. absurd (omega arith)
    each (x ∷ xs) r w =
        All-cons (IsPartOf sources target all) (record { cell = x; faces = all }) (with_faces all xs)
        (record {
          ring = r 0 [] (omega arith);
          within = w 0 [] (omega arith);
          among = All-contains_itself all;
          beyond = λ d has k l. inl (Contains-get_or all k 0 l);
        })
        (each xs (λ k d l. r (suc k) d (omega arith)) (λ k d l. w (suc k) d (omega arith)))

-- where no part is left, the cells are those of the target less all faces
pub divided_less : (sources : RawMesh) (target : List Vec3) (all : List ℕ) (cells : List (List CellPlane)) → IsDivided sources target all [] cells → IsLess sources target all cells
divided_less sources target all cells h = record {
  each = λ k e l. (h.each_cell k e l).ring;
  beyond = λ d some.
      let (k, x, l, at, has) = held_counts sources target d cells some in
      let cell = All-contains (IsCellOf sources target all) cells x h.each_cell (k, l, get_or_default cells k x x l ∙ at) in
      (cell.within d has, cell.beyond d has);
  one = λ d inside off. omega (arith, h.one d inside off);
}

-- parts with at most no face
pub no_parts : (sources : RawMesh) (target : List Vec3) (parts : List PartView) → All (IsSoundPart sources target 0) parts → parts ≡ []
no_parts sources target [] h = refl
no_parts sources target (p ∷ ps) h = let s = h 0 p (omega arith) in absurd (omega (arith, s.some, s.few))
