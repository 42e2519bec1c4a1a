-- Where the pieces of blocks stand in a list that grows.
use Rattle.std.proofs.Common.{◌≡◌, ℕ, ◌≤◌, ◌<◌, ◌⊎◌, inl, inr, List, [], ◌∷◌, ◌++◌, ◌*◌, ◌+◌, length, min, ◌∙◌, ap, sym, subst, arith}
use Rattle.std.proofs.lemmas.List.{append_assoc}
use Rattle.vec_exact.specs.declared.RawMesh.{RawMesh}
use Rattle.clip.specs.declared.pieces.Piece.{Piece}
use Rattle.clip.specs.declared.columns.Place.{Place}
use Rattle.overlap_run.specs.declared.blocks.Block.{Block}
use Rattle.overlap_run.specs.declared.blocks.Stretch.{Stretch}
use Rattle.block_workers.specs.declared.job.Placed.{Placed}
use Rattle.overlap_run.specs.declared.blocks.Waiting.{Waiting}
use Rattle.overlap_run.specs.Pairs.{IsCountOf}
use Rattle.overlap_run.specs.Parts.{IsNumberedBlock, IsWaitingBlock, DoesBlockWait, DoMeetWithin, StandsIn, HoldsSome}

-- pieces that join at the end of a list leave the others where they are
module _ {C : Type 0} (Holds : C → List Piece → Type 0) (IsBehind : List Piece → Place → Type 0) where
  pub stands_still : (old other new : C) → ((ps qs : List Piece) → Holds old ps → Holds other qs → Holds new (ps ++ qs)) → HoldsSome Holds other
      → (stretch : Stretch) (pieces : List Piece) → StandsIn Holds IsBehind old stretch pieces → StandsIn Holds IsBehind new stretch pieces
  stands_still old other new joins own stretch pieces (before, after, held, from, to) =
      let all : (before ++ (pieces ++ after)) ++ own.0 ≡ before ++ (pieces ++ (after ++ own.0)) =
      append_assoc before (pieces ++ after) own.0 ∙ ap (λ (l : List Piece). before ++ l) (append_assoc pieces after own.0) in
      (before, after ++ own.0, subst (Holds new) all (joins (before ++ (pieces ++ after)) own.0 held own.1), from, to)

-- what lists the pieces of a block may be another list that holds the same pieces
pub numbered_same : {D : Type 0} (Holds Others : D → List Piece → Type 0) (a b : RawMesh) (s : ℕ) (block : Block D) → ((pieces : List Piece) → Holds block.pieces pieces → Others block.pieces pieces)
    → IsNumberedBlock Holds a b s block → IsNumberedBlock Others a b s block
numbered_same Holds Others a b s block same h = record {
  block_of = record {
    count = h.block_of.count;
    listed = λ l. let all = h.block_of.listed l in (all.0, all.1, same all.0 all.2);
    dropped = λ l. same _ (h.block_of.dropped l);
  };
  few = h.few;
}

few_or_many : (n : ℕ) → (n ≤ 8388608) ⊎ (8388608 < n)
few_or_many n = grind arith

-- a numbered block lists some pieces
pub numbered_holds : {C : Type 0} (Holds : C → List Piece → Type 0) (a b : RawMesh) (s : ℕ) (block : Block C) → IsNumberedBlock Holds a b s block → HoldsSome Holds block.pieces
numbered_holds Holds a b s block h = elim (few_or_many block.count) [
  | inl few ↦ (let all = h.block_of.listed few in (all.0, all.2))
  | inr many ↦ ([], h.block_of.dropped many)
]

-- the count of a numbered block, whatever is told of its pieces
pub numbered_counted : {C D : Type 0} (Holds : C → List Piece → Type 0) (a b : RawMesh) (s : ℕ) (block : Block C) (put : Block D) → put.count ≡ block.count → IsNumberedBlock Holds a b s block
    → IsNumberedBlock (λ _ _. Unit {0}) a b s put
numbered_counted Holds a b s block put e h = record {
  block_of = record {
    count = subst (IsCountOf (DoMeetWithin a b (64 * s + 1) (min (length a.faces) (64 * (s + 1))))) (sym e) h.block_of.count;
    listed = λ l. let all = h.block_of.listed (omega (arith, l, e)) in (all.0, all.1, tt);
    dropped = λ l. tt;
  };
  few = omega (arith, e, h.few);
}

-- a block goes on waiting where the worker's list grows, and where it is let go
module _ {C : Type 0} (Holds : C → List Piece → Type 0) (IsBehind : List Piece → Place → Type 0) where
  pub waits_on : (old new : Waiting C) → (new.count ≤ 8388608 → old.count ≤ 8388608)
      → (new.count ≤ 8388608 → (stretch : Stretch) (pieces : List Piece) → StandsIn Holds IsBehind old.pieces stretch pieces → StandsIn Holds IsBehind new.pieces stretch pieces)
      → (a b : RawMesh) (s : ℕ) (put : Block Stretch) → IsWaitingBlock Holds IsBehind old a b s put → IsWaitingBlock Holds IsBehind new a b s put
  waits_on old new fewer still a b s put h = record {
    counted = h.counted;
    stands = λ l. numbered_same (StandsIn Holds IsBehind old.pieces) (StandsIn Holds IsBehind new.pieces) a b s put (still l put.pieces) (h.stands (fewer l));
  }

  -- how many pairs a block has that waits with one of the workers
  pub waiting_count : (a b : RawMesh) (workers : List (Waiting C)) (s : ℕ) (x : Placed (Block Stretch)) → DoesBlockWait Holds IsBehind a b workers s x → IsNumberedBlock (λ _ _. Unit {0}) a b s x.output
  waiting_count a b [] s x h = absurd (omega (arith, h.0))
  waiting_count a b (own ∷ others) s x h = let w = h.1 own in w.counted
