-- Blocks of 64 source faces, one after another.
use Rattle.std.proofs.Common.{◌≡◌, ℕ, suc, ◌+◌, ◌-◌, ◌*◌, ◌<◌, ◌≤◌, ◌^◌, min, List, [], ◌∷◌, length, slice_index_or, ap, sym, ◌∙◌, subst, arith}
use Rattle.std.specs.Int.{div_ceil}
use Rattle.block_workers.specs.InPlace.{AllInPlace}
use Rattle.vec_exact.specs.declared.RawMesh.{RawMesh}
use Rattle.clip.specs.declared.pieces.Piece.{Piece}
use Rattle.overlap_run.specs.declared.blocks.Block.{Block}
use Rattle.overlap_run.specs.Pairs.{DoMeet}
use Rattle.overlap_run.specs.Parts.{DoMeetWithin, IsBlockOf, IsNumberedBlock, AreFirstBlocks, TakesBlock, clip_count}
use Rattle.overlap_run.proofs.BlockSteps.{block_none}
use Rattle.overlap_run.proofs.RunSteps.{no_faces, run_more, whole_block}
use Rattle.overlap_run.proofs.ClipCounts.{clip_count_none, clip_count_join, clip_count_grows, clip_count_fits}

-- the last face of the first s blocks
abbrev pub ends_at : RawMesh → ℕ → ℕ
ends_at a s = min (length a.faces) (64 * s)

-- the pairs that are clipped in the first s blocks
abbrev pub clipped : RawMesh → RawMesh → ℕ → ℕ
clipped a b s = clip_count a b 1 (ends_at a s)

-- there is a face in block s
pub has_face : (a : RawMesh) (s blocks : ℕ) → s < blocks → blocks ≡ div_ceil (length a.faces) 64 → 64 * s < length a.faces
has_face a s blocks l e = omega (arith, l, e)

pub ends_at_last : (a : RawMesh) (s blocks : ℕ) → blocks ≤ s → blocks ≡ div_ceil (length a.faces) 64 → ends_at a s ≡ length a.faces
ends_at_last a s blocks l e = omega (arith, l, e)

before : (a : RawMesh) (s : ℕ) → 64 * s < length a.faces → ends_at a s ≡ 64 * s
before a s l = omega (arith, l)

later : (a : RawMesh) (s : ℕ) → 64 * s < length a.faces → 64 * s ≤ ends_at a (s + 1)
later a s l = omega (arith, l)

ends_at_most : (a : RawMesh) (s : ℕ) → ends_at a s ≤ length a.faces
ends_at_most a s = omega arith

pub clipped_none : (a b : RawMesh) → clipped a b 0 ≡ 0
clipped_none a b =
    let none : ends_at a 0 ≡ 0 = omega arith in
    ap (clip_count a b 1) none ∙ clip_count_none a b 1 0 (omega arith)

pub clipped_more : (a b : RawMesh) (s : ℕ) → 64 * s < length a.faces → clipped a b (s + 1) ≡ clipped a b s + clip_count a b (64 * s + 1) (ends_at a (s + 1))
clipped_more a b s l = omega (arith, ap (clip_count a b 1) (before a s l), clip_count_join a b 1 (64 * s) (ends_at a (s + 1)) (omega arith) (later a s l))

-- no more than for all faces
pub clipped_at_most : (a b : RawMesh) (s : ℕ) → clipped a b s ≤ clip_count a b 1 (length a.faces)
clipped_at_most a b s = clip_count_grows a b 1 (ends_at a s) (length a.faces) (omega arith) (ends_at_most a s)

pub clipped_fits : (a b : RawMesh) (s : ℕ) → length a.faces ≤ 1048576 → length b.faces ≤ 1048576 → clipped a b s ≤ 1099511627776
clipped_fits a b s m n = clip_count_fits a b 1 (ends_at a s) (omega arith) (ends_at_most a s) m n

module _ {C : Type 0} (Holds : C → List Piece → Type 0) (a b : RawMesh) where
  pub first_none : (run : Block C) → run.count ≡ 0 → Holds run.pieces [] → AreFirstBlocks Holds a b 0 run
  first_none run e f = record {
    block_of = block_none Holds a b (DoMeetWithin a b 1 (ends_at a 0)) (no_faces a b 1 (ends_at a 0) (omega arith)) run e f;
    few = omega (arith, e);
  }

  -- all blocks
  pub first_all : (s blocks : ℕ) → blocks ≤ s → blocks ≡ div_ceil (length a.faces) 64 → (run : Block C) → AreFirstBlocks Holds a b s run → IsBlockOf Holds a b (DoMeet a b) run
  first_all s blocks l e run h = whole_block Holds a b run (subst (λ (n : ℕ). IsBlockOf Holds a b (DoMeetWithin a b 1 n) run) (ends_at_last a s blocks l e) h.block_of)

-- one block more, whose pieces were put behind the others one by one
module _ {C : Type 0} (Holds : C → List Piece → Type 0) (a b : RawMesh) (s : ℕ) (face : 64 * s < length a.faces) where
  -- what the faces before it are, as far as the face in front of its first one
  pub first_before : (run : Block C) → AreFirstBlocks Holds a b s run → IsBlockOf Holds a b (DoMeetWithin a b 1 (64 * s + 1 - 1)) run
  first_before run h =
      let e : ends_at a s ≡ 64 * s + 1 - 1 = omega (arith, before a s face) in
      subst (λ (n : ℕ). IsBlockOf Holds a b (DoMeetWithin a b 1 n) run) e h.block_of

  pub first_put : (old new : Block C) (n : ℕ) → n ≡ ends_at a (s + 1) → AreFirstBlocks Holds a b s old → IsBlockOf Holds a b (DoMeetWithin a b 1 n) new → new.count ≤ old.count + clip_count a b (64 * s + 1) n
      → AreFirstBlocks Holds a b (s + 1) new
  first_put old new n e h k few = record {
    block_of = subst (λ (m : ℕ). IsBlockOf Holds a b (DoMeetWithin a b 1 m) new) e k;
    few = omega (arith, h.few, few, ap (clip_count a b (64 * s + 1)) e, clipped_more a b s face);
  }

  pub first_fits : (run : Block C) → length a.faces ≤ 1048576 → length b.faces ≤ 1048576 → AreFirstBlocks Holds a b s run → run.count < 2 ^ 63
  first_fits run m n h = omega (arith, h.few, clipped_fits a b s m n)

-- one block more
module _ {C D : Type 0} (Holds : C → List Piece → Type 0) (HoldsMore : D → List Piece → Type 0) (a b : RawMesh) (s : ℕ) (face : 64 * s < length a.faces) where
  pub first_more : (old : Block C) (more : Block D) (new : Block C) → AreFirstBlocks Holds a b s old → IsNumberedBlock HoldsMore a b s more → TakesBlock Holds HoldsMore old more new
      → AreFirstBlocks Holds a b (s + 1) new
  first_more old more new h k takes =
      let next = subst (λ (n : ℕ). IsBlockOf HoldsMore a b (DoMeetWithin a b (n + 1) (ends_at a (s + 1))) more) (sym (before a s face)) k.block_of in
      record {
        block_of = run_more Holds HoldsMore a b (ends_at a s) (ends_at a (s + 1)) (omega (arith, before a s face, later a s face)) old more new h.block_of next takes;
        few = omega (arith, h.few, k.few, takes.count, clipped_more a b s face);
      }

  pub room_for : (old : Block C) (more : Block D) → length a.faces ≤ 1048576 → length b.faces ≤ 1048576 → AreFirstBlocks Holds a b s old → IsNumberedBlock HoldsMore a b s more
      → old.count + more.count < 2 ^ 64
  room_for old more m n h k = omega (arith, h.few, k.few, clipped_more a b s face, clipped_fits a b (s + 1) m n)

-- the items from the first on, and from the second on
pub first_in_place : {X : Type 0} (P : ℕ → X → Type 0) (s : ℕ) (left rest : List X) (x : X) → left ≡ x ∷ rest → AllInPlace (λ t. P (s + t)) left → P s x
first_in_place P s left rest x e h =
    let at_least : 0 < length left = omega (arith, ap length e) in
    let here = h 0 x at_least in
    let number : s + 0 ≡ s = omega arith in
    subst (λ (n : ℕ). P n x) number (subst (P (s + 0)) (ap (λ (l : List _). slice_index_or l 0 x) e) here)

pub rest_in_place : {X : Type 0} (P : ℕ → X → Type 0) (s : ℕ) (left rest : List X) (x : X) → left ≡ x ∷ rest → AllInPlace (λ t. P (s + t)) left → AllInPlace (λ t. P (s + 1 + t)) rest
rest_in_place {X} P s left rest x e h t d l =
    let within : suc t < length left = omega (arith, ap length e, l) in
    let here : P (s + suc t) (slice_index_or left (suc t) d) = h (suc t) d within in
    let number : s + suc t ≡ s + 1 + t = omega arith in
    let item : slice_index_or left (suc t) d ≡ slice_index_or rest t d = ap (λ (l : List X). slice_index_or l (suc t) d) e in
    subst (λ (n : ℕ). P n (slice_index_or rest t d)) number (subst (P (s + suc t)) item here)

pub from_first : {X : Type 0} (P : ℕ → X → Type 0) (xs : List X) → AllInPlace P xs → AllInPlace (λ t. P (0 + t)) xs
from_first P xs h t d l =
    let number : t ≡ 0 + t = omega arith in
    subst (λ (n : ℕ). P n (slice_index_or xs t d)) number (h t d l)

-- where an item is left, not all were seen
pub one_left : {X : Type 0} (s : ℕ) (left rest : List X) (x : X) (all : ℕ) → left ≡ x ∷ rest → s + length left ≡ all → s < all
one_left s left rest x all e size = omega (arith, ap length e, size)
