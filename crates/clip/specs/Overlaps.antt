-- Overlaps as contracts see them, and what each of them keeps.
use Rattle.std.specs.Prelude.{◌≡◌, ℕ, ◌<◌, ◌≤◌, ◌^◌, ◌⊎◌, List, length, All, AllPairs}
use Rattle.clip.specs.declared.pieces.Piece.{Piece}

-- the face counts of two meshes, and pieces of them
pub record OverlapParts : Type 0 where
  pub faces_a : ℕ
  pub faces_b : ℕ
  pub pieces : List Piece

-- the source face of p comes before that of q, or they have one source face and the target face of p comes before that of q
abbrev pub IsBefore : Piece → Piece → Type 0
IsBefore p q = (p.a < q.a) ⊎ ((p.a ≡ q.a) × (p.b < q.b))

-- a number that a ring may hold
abbrev pub IsRingNumber : ℕ → Type 0
IsRingNumber n = (1 ≤ n) × (n ≤ 32)

-- the numbers of a piece as files have them: its face numbers fit 32 bits with sign, and the length and the numbers of its ring 8 bits
pub record HasSmallNumbers (p : Piece) : Type 0 where
  pub source : p.a < 2 ^ 31
  pub target : p.b < 2 ^ 31
  pub greatest_size : length p.ring.items ≤ 32
  pub numbers : All IsRingNumber p.ring.items

-- a piece of two meshes with these face counts
pub record IsSoundPiece (faces_a faces_b : ℕ) (p : Piece) : Type 0 where
  pub source : (1 ≤ p.a) × (p.a ≤ faces_a)
  pub target : (1 ≤ p.b) × (p.b ≤ faces_b)
  pub least_size : 3 ≤ length p.ring.items
  pub greatest_size : length p.ring.items ≤ 32
  pub numbers : All IsRingNumber p.ring.items
  pub corners : length p.corners ≡ length p.ring.items

-- a mesh may have this many faces
abbrev pub IsFaceCount : ℕ → Type 0
IsFaceCount n = (1 ≤ n) × (n ≤ 1048576)

-- what each overlap keeps
pub record IsSoundOverlap (o : OverlapParts) : Type 0 where
  pub source_faces : IsFaceCount o.faces_a
  pub target_faces : IsFaceCount o.faces_b
  pub count : length o.pieces ≤ 8388608
  -- the pieces stand in strictly ascending order
  pub ascending : AllPairs IsBefore o.pieces
  pub pieces : All (IsSoundPiece o.faces_a o.faces_b) o.pieces
