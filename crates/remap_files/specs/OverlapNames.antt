-- The counts and the variables of an overlap in a file, or the first fault of names, in the order in which names and
-- shapes are tested. The whole form is our own.
use Rattle.std.specs.Prelude.{ℕ, ℤ, [], ◌∷◌, Result, Ok, Err, ◌==◌, if◌then◌else◌, unsigned_abs}
use Rattle.nc_format.specs.declared.NcFile.{NcFile}
use Rattle.nc_format.specs.Numbers.{att_named, one_int}
use Rattle.exodus_mesh.specs.declared.kinds.NumberKind.TheVariants.{Int}
use Rattle.exodus_mesh.specs.declared.ids.NameId.{NameId}
use Rattle.exodus_mesh.specs.declared.ids.NameId.TheVariants.{FacesA, FacesB, Pieces, Source, Target, RingSize, RingPlane, Corner}
use Rattle.exodus_mesh.specs.declared.ids.NameFault.{NameFault}
use Rattle.exodus_mesh.specs.declared.ids.NameFault.TheVariants.{Missing, Shape, Kind}
use Rattle.exodus_mesh.specs.Names.{◌>>=◌, name_of, found_or}
use Rattle.exodus_mesh.specs.VarLens.{same_len, var_len, var_lens}
use Rattle.exodus_mesh.specs.MeshNames.{place_of}
use Rattle.exodus_mesh.specs.Columns.{column_in}
use Rattle.exodus_mesh.specs.Pairs.{is_within}
use Rattle.remap_files.specs.declared.vars.OverlapVars.{OverlapVars}

-- 1. The first global attribute of a name is one integer.
unfoldable pub att_in : NcFile → NameId → Result ℤ NameFault
att_in file id = do
  a ← found_or (Missing id) (att_named file.atts (name_of [] id))
  found_or (Kind id) (one_int a)

-- the same, from low to high
unfoldable pub count_in : ℕ → ℕ → NcFile → NameId → Result ℕ NameFault
count_in low high file id = do
  z ← att_in file id
  if is_within low high z then Ok (unsigned_abs z) else Err (Shape id)

-- 2. The variable of all rings, with its one length
unfoldable pub planes_in : NcFile → Result (ℕ × ℕ) NameFault
planes_in file = do
  place ← found_or (Missing RingPlane) (place_of file RingPlane)
  len ← var_len file Int RingPlane place
  Ok (place, len)

-- the variable of all corners, with as many triples
unfoldable pub corner_in : NcFile → ℕ → Result ℕ NameFault
corner_in file corners = do
  place ← found_or (Missing Corner) (place_of file Corner)
  both ← var_lens file Int Corner place
  same ← same_len Corner corners both.0
  three ← same_len Corner 3 both.1
  Ok place

-- the five variables, in order, where there is a piece
unfoldable pub five_in : NcFile → ℕ → ℕ → ℕ → Result OverlapVars NameFault
five_in file faces_a faces_b pieces = do
  source ← column_in file Int pieces Source
  target ← column_in file Int pieces Target
  size ← column_in file Int pieces RingSize
  planes ← planes_in file
  corner ← corner_in file planes.1
  Ok (record { faces_a = faces_a; faces_b = faces_b; pieces = pieces; corners = planes.1; vars = source ∷ target ∷ size ∷ planes.0 ∷ corner ∷ [] })

-- without a piece no variable is looked at
abbrev pub no_vars : ℕ → ℕ → OverlapVars
no_vars faces_a faces_b = record { faces_a = faces_a; faces_b = faces_b; pieces = 0; corners = 0; vars = [] }

-- The counts and the variables of an overlap, or the first fault of names.
unfoldable pub overlap_vars_in : NcFile → Result OverlapVars NameFault
overlap_vars_in file = do
  faces_a ← count_in 1 1048576 file FacesA
  faces_b ← count_in 1 1048576 file FacesB
  pieces ← count_in 0 8388608 file Pieces
  if pieces == 0 then Ok (no_vars faces_a faces_b) else five_in file faces_a faces_b pieces
