-- Parts of an overlap: some of its pieces, and how many there are. Source: our own.
use Rattle.std.specs.Prelude.{◌≡◌, ℕ, ◌+◌, ◌-◌, ◌*◌, ◌<◌, ◌≤◌, ◌⊎◌, List, [], ◌∷◌, ◌++◌, length, map, All, min}
use Rattle.std.specs.List.{range_with_len, sum_by}
use Rattle.vec_exact.specs.declared.RawMesh.{RawMesh}
use Rattle.block_workers.specs.declared.job.Placed.{Placed}
use Rattle.block_workers.specs.InParts.{IsPlacedBy}
use Rattle.cell_index.specs.CandidateList.{candidates_of}
use Rattle.clip.specs.declared.pieces.Piece.{Piece}
use Rattle.clip.specs.declared.columns.Place.{Place}
use Rattle.clip.specs.Overlaps.{IsSoundPiece}
use Rattle.overlap_run.specs.declared.blocks.Block.{Block}
use Rattle.overlap_run.specs.declared.blocks.Stretch.{Stretch}
use Rattle.overlap_run.specs.declared.blocks.Waiting.{Waiting}
use Rattle.overlap_run.specs.Pairs.{FacePair, DoMeet, AreExactly, IsCountOf}
use Rattle.overlap_run.specs.Whole.{pair_of, IsPieceOf}

-- the pair meets, and its source face is one from `first` to `last`
pub record DoMeetWithin (a b : RawMesh) (first last : ℕ) (p : FacePair) : Type 0 where
  pub from : first ≤ p.source
  pub to : p.source ≤ last
  pub meets : DoMeet a b p

-- the pieces are those of the pairs with P, in order
pub record ArePiecesOf (a b : RawMesh) (P : FacePair → Type 0) (pieces : List Piece) : Type 0 where
  pub pairs : AreExactly P (map pair_of pieces)
  pub each : All (IsPieceOf a b) pieces
  pub sound : All (IsSoundPiece (length a.faces) (length b.faces)) pieces

-- The count is that of the pairs with P; their pieces are listed as far as the limit, and past it none is. Holds says which pieces a list holds.
pub record IsBlockOf {C : Type 0} (Holds : C → List Piece → Type 0) (a b : RawMesh) (P : FacePair → Type 0) (block : Block C) : Type 0 where
  pub count : IsCountOf P block.count
  pub listed : block.count ≤ 8388608 → (pieces : List Piece) × ArePiecesOf a b P pieces × Holds block.pieces pieces
  pub dropped : 8388608 < block.count → Holds block.pieces []

-- p is the piece of this pair of faces
pub record IsPieceAt (a b : RawMesh) (q : FacePair) (p : Piece) : Type 0 where
  pub pair : pair_of p ≡ q
  pub right : IsPieceOf a b p
  pub sound : IsSoundPiece (length a.faces) (length b.faces) p

-- the block has one pair more, and its piece where it lists pieces
pub record AddsPiece {C : Type 0} (Holds : C → List Piece → Type 0) (a b : RawMesh) (pair : FacePair) (old new : Block C) : Type 0 where
  pub count : new.count ≡ old.count + 1
  pub listed : new.count ≤ 8388608 → (p : Piece) × IsPieceAt a b pair p × ((pieces : List Piece) → Holds old.pieces pieces → Holds new.pieces (pieces ++ p ∷ []))
  pub dropped : 8388608 < new.count → Holds new.pieces []

-- the block gains the pair where it meets, and stays as it is where it does not
abbrev pub TakesPair : {C : Type 0} → (C → List Piece → Type 0) → RawMesh → RawMesh → FacePair → Block C → Block C → Type 0
TakesPair Holds a b pair old new = (DoMeet a b pair × AddsPiece Holds a b pair old new) ⊎ ((DoMeet a b pair → ⊥) × (new ≡ old))

-- the block has the pairs of another one too, and its pieces behind its own where it lists pieces; the other one may list them in another form
pub record TakesBlock {C D : Type 0} (Holds : C → List Piece → Type 0) (HoldsMore : D → List Piece → Type 0) (old : Block C) (more : Block D) (new : Block C) : Type 0 where
  pub count : new.count ≡ old.count + more.count
  pub listed : new.count ≤ 8388608 → (pieces others : List Piece) → Holds old.pieces pieces → HoldsMore more.pieces others → Holds new.pieces (pieces ++ others)
  pub dropped : 8388608 < new.count → Holds new.pieces []

-- the target faces that are clipped with face i of a
abbrev pub targets_of : RawMesh → RawMesh → ℕ → List ℕ
targets_of a b i = candidates_of a i b

-- how many pairs are clipped for the source faces from `first` to `last`
unfoldable pub clip_count : RawMesh → RawMesh → ℕ → ℕ → ℕ
clip_count a b first last = sum_by (λ (i : ℕ). length (targets_of a b i)) (range_with_len first (last + 1 - first))

-- the block with this number, which counts from 0: it has the pairs of 64 source faces, as far as the mesh has them
pub record IsNumberedBlock {C : Type 0} (Holds : C → List Piece → Type 0) (a b : RawMesh) (s : ℕ) (block : Block C) : Type 0 where
  pub block_of : IsBlockOf Holds a b (DoMeetWithin a b (64 * s + 1) (min (length a.faces) (64 * (s + 1)))) block
  pub few : block.count ≤ clip_count a b (64 * s + 1) (min (length a.faces) (64 * (s + 1)))

-- all of the first s blocks as one, which has no more pairs than are clipped for them
pub record AreFirstBlocks {C : Type 0} (Holds : C → List Piece → Type 0) (a b : RawMesh) (s : ℕ) (block : Block C) : Type 0 where
  pub block_of : IsBlockOf Holds a b (DoMeetWithin a b 1 (min (length a.faces) (64 * s))) block
  pub few : block.count ≤ clip_count a b 1 (min (length a.faces) (64 * s))

-- The pieces stand in the list between two places, behind some pieces and before others. Holds says which pieces a list holds, and IsBehind which place stands behind which pieces.
abbrev pub StandsIn : {C : Type 0} → (C → List Piece → Type 0) → (List Piece → Place → Type 0) → C → Stretch → List Piece → Type 0
StandsIn Holds IsBehind list stretch pieces = (before after : List Piece) × Holds list (before ++ (pieces ++ after)) × IsBehind before stretch.from × IsBehind (before ++ pieces) stretch.to

-- there are pieces that the list holds
abbrev pub HoldsSome : {C : Type 0} → (C → List Piece → Type 0) → C → Type 0
HoldsSome Holds list = (pieces : List Piece) × Holds list pieces

-- the block with this number, whose pieces were put behind those of the worker's other blocks: how many there are, and where they stand, unless the worker let its list go
pub record IsWaitingBlock {C : Type 0} (Holds : C → List Piece → Type 0) (IsBehind : List Piece → Place → Type 0) (own : Waiting C) (a b : RawMesh) (s : ℕ) (block : Block Stretch) : Type 0 where
  pub counted : IsNumberedBlock (λ _ _. Unit {0}) a b s block
  pub stands : own.count ≤ 8388608 → IsNumberedBlock (StandsIn Holds IsBehind own.pieces) a b s block

-- block s waits with one of the workers
abbrev pub DoesBlockWait : {C : Type 0} → (C → List Piece → Type 0) → (List Piece → Place → Type 0) → RawMesh → RawMesh → List (Waiting C) → ℕ → Placed (Block Stretch) → Type 0
DoesBlockWait Holds IsBehind a b workers s placed = IsPlacedBy (λ own t block. IsWaitingBlock Holds IsBehind own a b t block) workers s placed

-- the worker has kept its list
abbrev pub HasList : {C : Type 0} → Waiting C → Type 0
HasList own = own.count ≤ 8388608

-- so many pairs meet in the first s blocks
abbrev pub IsFirstCount : RawMesh → RawMesh → ℕ → ℕ → Type 0
IsFirstCount a b s n = AreFirstBlocks {C = Unit {0}} (λ _ _. Unit {0}) a b s (record { count = n; pieces = tt })
