-- What the whole chain gives of two meshes and values for the source faces, and its first fault. Source: our own.
use Rattle.std.specs.Prelude.{◌≡◌, ◌<◌, ◌≤◌, ℤ, List, length}
use Rattle.vec_exact.specs.declared.RawMesh.{RawMesh}
use Rattle.vec_exact.specs.declared.limits.TheConstants.{MAX_PIECES}
use Rattle.clip.specs.Overlaps.{OverlapParts}
use Rattle.overlap_run.specs.Pairs.{IsPairCount}
use Rattle.overlap_run.specs.Whole.{IsOverlapOf}
use Rattle.map_rows.specs.Maps.{MapParts}
use Rattle.map_rows.specs.Application.{application_of}
use Rattle.offline_map.specs.declared.faults.MapFault.TheVariants as of_map
use Rattle.offline_map.specs.Maps.{map_of}
use Rattle.offline_map.specs.MapFaults.{IsMappable, IsMapFaultOf}
use Rattle.apply_map.specs.declared.fields.ApplyFault.TheVariants as of_field
use Rattle.apply_map.specs.Fields.{field_of, IsApplyFaultOf}
use Rattle.remap_chain.specs.declared.whole.ChainOut.{ChainOut}
use Rattle.remap_chain.specs.declared.faults.ChainFault.{ChainFault}
use Rattle.remap_chain.specs.declared.faults.ChainFault.TheVariants.{TooManyPieces, Uncovered, Length, NoMemory}

-- o is the overlap of the two meshes, and no more pairs of faces meet than an overlap may have
pub record IsFoundOverlap (a b : RawMesh) (o : OverlapParts) : Type 0 where
  pub overlap : IsOverlapOf a b o
  pub few : length o.pieces ≤ MAX_PIECES

-- out is what the chain gives where o is the overlap
pub record IsChainOver (a b : RawMesh) (values : List ℤ) (o : OverlapParts) (out : ChainOut) : Type 0 where
  pub found : IsFoundOverlap a b o
  pub mappable : IsMappable a b o
  -- there is a value for each source face
  pub counts : length values ≡ o.faces_a
  pub pieces : out.pieces ≡ length o.pieces
  pub map : out.map ≡ map_of o
  -- one slice
  pub field : out.field ≡ field_of (application_of (map_of o) 1 values)

-- out is what the chain gives
abbrev pub IsChainOf : RawMesh → RawMesh → List ℤ → ChainOut → Type 0
IsChainOf a b values out = (o : OverlapParts) × IsChainOver a b values o out

-- This is the first fault: too many pairs that meet, then a target face of the overlap without a row, then a number of values that is not that of the source faces. Want of memory is none.
abbrev pub IsChainFaultOf : RawMesh → RawMesh → List ℤ → ChainFault → Type 0
IsChainFaultOf a b values (TooManyPieces n) = IsPairCount a b n × (MAX_PIECES < n)
IsChainFaultOf a b values (Uncovered j) = (o : OverlapParts) × IsFoundOverlap a b o × IsMapFaultOf a b o (of_map.Uncovered j)
IsChainFaultOf a b values (Length sources field) = (o : OverlapParts) × IsFoundOverlap a b o × IsMappable a b o × IsApplyFaultOf (map_of o) 1 values (of_field.Length sources field)
IsChainFaultOf a b values NoMemory = ⊥

-- the faults of each step, and want of memory always
abbrev pub IsFaultOfOverlap : RawMesh → RawMesh → ChainFault → Type 0
IsFaultOfOverlap a b (TooManyPieces n) = IsPairCount a b n × (MAX_PIECES < n)
IsFaultOfOverlap a b NoMemory = Unit {0}
IsFaultOfOverlap a b fault = ⊥

abbrev pub IsFaultOfMap : RawMesh → RawMesh → OverlapParts → ChainFault → Type 0
IsFaultOfMap a b o (Uncovered j) = IsMapFaultOf a b o (of_map.Uncovered j)
IsFaultOfMap a b o NoMemory = Unit {0}
IsFaultOfMap a b o fault = ⊥

abbrev pub IsFaultOfField : MapParts → List ℤ → ChainFault → Type 0
IsFaultOfField m values (Length sources field) = IsApplyFaultOf m 1 values (of_field.Length sources field)
IsFaultOfField m values NoMemory = Unit {0}
IsFaultOfField m values fault = ⊥

-- of two meshes and values the chain gives at most one answer, it has at most one fault, and none where there is an answer
pub record OneChain (a b : RawMesh) (values : List ℤ) : Type 0 where
  pub same : (out other : ChainOut) → IsChainOf a b values out → IsChainOf a b values other → out ≡ other
  pub same_fault : (f g : ChainFault) → IsChainFaultOf a b values f → IsChainFaultOf a b values g → f ≡ g
  pub none : (out : ChainOut) (f : ChainFault) → IsChainOf a b values out → IsChainFaultOf a b values f → ⊥
