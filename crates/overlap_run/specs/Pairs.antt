-- Pairs of faces of two meshes that meet. Source: our own.
use Rattle.std.specs.Prelude.{◌≡◌, ℕ, ◌<◌, ◌⊎◌, List, length, All, AllPairs, Contains}
use Rattle.vec_exact.specs.declared.RawMesh.{RawMesh}
use Rattle.cone_laws.specs.Inside.{Meets}
use Rattle.mesh_check.specs.Mesh.{corners_of}
use Rattle.clip.specs.Planes.{IsFaceNumber}

-- a source face and a target face, by their numbers, which count from 1
pub record FacePair : Type 0 where
  pub source : ℕ
  pub target : ℕ

-- the source face of p comes before that of q, or they have one source face and the target face of p comes before that of q
abbrev pub IsEarlier : FacePair → FacePair → Type 0
IsEarlier p q = (p.source < q.source) ⊎ ((p.source ≡ q.source) × (p.target < q.target))

-- the pair is one of a face of a and a face of b, and some direction is inside both
pub record DoMeet (a b : RawMesh) (p : FacePair) : Type 0 where
  pub source : IsFaceNumber a p.source
  pub target : IsFaceNumber b p.target
  pub meets : Meets (corners_of a p.source) (corners_of b p.target)

-- the members of the list are exactly the pairs with P, and they ascend strictly, by source and then by target
pub record AreExactly (P : FacePair → Type 0) (pairs : List FacePair) : Type 0 where
  pub ascending : AllPairs IsEarlier pairs
  pub each : All P pairs
  pub complete : (p : FacePair) → P p → Contains pairs p

-- the list of all pairs that meet
abbrev pub IsMeetingPairs : RawMesh → RawMesh → List FacePair → Type 0
IsMeetingPairs a b pairs = AreExactly (DoMeet a b) pairs

-- there are n pairs with P
abbrev pub IsCountOf : (FacePair → Type 0) → ℕ → Type 0
IsCountOf P n = (pairs : List FacePair) × AreExactly P pairs × (length pairs ≡ n)

-- there are n pairs that meet
abbrev pub IsPairCount : RawMesh → RawMesh → ℕ → Type 0
IsPairCount a b n = IsCountOf (DoMeet a b) n

-- there is at most one such list
abbrev pub OneListOfPairs : Type 0
OneListOfPairs = (a b : RawMesh) (pairs others : List FacePair) → IsMeetingPairs a b pairs → IsMeetingPairs a b others → pairs ≡ others
