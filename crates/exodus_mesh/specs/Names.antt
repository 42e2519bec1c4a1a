-- The names that files are searched for, and the faults of names.
use Rattle.std.specs.Prelude.{ℕ, List, ◌++◌, codes, decimal, Option, Some, None, Result, Ok, Err}
use Rattle.exodus_mesh.specs.declared.ids.NameId.{NameId}
use Rattle.exodus_mesh.specs.declared.ids.NameId.TheVariants.{Coord, CoordX, CoordY, CoordZ, NumElBlk, Connect, FacesA, FacesB, Pieces, Source, Target, RingSize, RingPlane, Corner, Col, Row, S, AreaA, AreaB, Var}
use Rattle.exodus_mesh.specs.declared.ids.NameFault.{NameFault}

-- the bytes of the name that stands for this, where `--var` gave the name `var`
unfoldable pub name_of : List ℕ → NameId → List ℕ
name_of var Coord = codes "coord"
name_of var CoordX = codes "coordx"
name_of var CoordY = codes "coordy"
name_of var CoordZ = codes "coordz"
name_of var NumElBlk = codes "num_el_blk"
name_of var (Connect n) = codes "connect" ++ decimal n
name_of var FacesA = codes "faces_a"
name_of var FacesB = codes "faces_b"
name_of var Pieces = codes "pieces"
name_of var Source = codes "source"
name_of var Target = codes "target"
name_of var RingSize = codes "ring_size"
name_of var RingPlane = codes "ring_plane"
name_of var Corner = codes "corner"
name_of var Col = codes "col"
name_of var Row = codes "row"
name_of var S = codes "S"
name_of var AreaA = codes "area_a"
name_of var AreaB = codes "area_b"
name_of var Var = var

-- go on where there is no fault
infixl 10 ◌>>=◌
abbrev pub ◌>>=◌ : {A B : Type 0} → Result A NameFault → (A → Result B NameFault) → Result B NameFault
Ok x >>= next = next x
Err fault >>= next = Err fault

-- what was found, or else a fault
abbrev pub found_or : {A : Type 0} → NameFault → Option A → Result A NameFault
found_or fault None = Err fault
found_or fault (Some x) = Ok x
