-- The overlap of two accepted meshes, and its map, as their files have them.
use Rattle.std.proofs.Common.{◌≤◌, ℤ, List, [], ◌∷◌, length, unsigned_abs, FitsSigned, refl, arith}
use Rattle.std.proofs.lemmas.Int.{fits_signed_from_abs}
use Rattle.std.proofs.lemmas.List.Elements.{All-from_recursion}
use mir.Syntax.{w32}
use Rattle.nc_write.specs.File.{file_of}
use Rattle.nc_format.specs.Written.{header_of}
use Rattle.nc_format.proofs.Inside.{doc_header}
use Rattle.clip.specs.Overlaps.{OverlapParts, IsSoundOverlap}
use Rattle.vec_exact.specs.declared.RawMesh.{RawMesh}
use Rattle.overlap_run.specs.Whole.{IsOverlapOf}
use Rattle.overlap_run.proofs.SoundWhole.{IsGridCorner, corners_on_grid}
use Rattle.map_rows.specs.Maps.{MapParts, IsSoundMap}
use Rattle.remap_files.specs.OverlapDocument.{overlap_document, IsCorner, HasCorners}
use Rattle.map_files.specs.MapDocument.{map_document}
use Rattle.remap_files.proofs.OverlapLength.{overlap_document_form}
use Rattle.map_files.proofs.MapLength.{map_document_form}
use Rattle.remap_files.proofs.OverlapAgain.{read_again}
use Rattle.map_files.proofs.MapAgain.{map_again}
use Rattle.remap_load.specs.Kinds.{HasContent}
use Rattle.overlap_load.specs.OverlapFile.{overlap_kind}
use Rattle.map_load.specs.MapFile.{map_kind}

fits : (z : ℤ) → unsigned_abs z ≤ 268435456 → FitsSigned w32 z
fits z small = fits_signed_from_abs w32 z (omega (arith, small))

-- three numbers on the grid fit 32 bits
corner_of_grid : (c : List ℤ) → IsGridCorner c → IsCorner c
corner_of_grid [] h = absurd (omega (arith, h.three))
corner_of_grid (x ∷ []) h = absurd (omega (arith, h.three))
corner_of_grid (x ∷ y ∷ []) h = absurd (omega (arith, h.three))
corner_of_grid (x ∷ y ∷ z ∷ []) h = (refl, All-from_recursion (FitsSigned w32) (x ∷ y ∷ z ∷ []) (fits x h.within.x, (fits y h.within.y, (fits z h.within.z, tt))))
corner_of_grid (x ∷ y ∷ z ∷ w ∷ rest) h = absurd (omega (arith, h.three))

has_corners : (a b : RawMesh) (o : OverlapParts) → IsOverlapOf a b o → HasCorners o
has_corners a b o is k d below t e within = corner_of_grid _ (corners_on_grid a b o is k d below t e within)

-- what the file of the overlap of two meshes holds
pub overlap_content : (a b : RawMesh) (o : OverlapParts) → IsSoundOverlap o → IsOverlapOf a b o → length (file_of (overlap_document o)) ≤ 2147483647 → HasContent overlap_kind (file_of (overlap_document o)) o
overlap_content a b o sound is short =
    let doc = overlap_document o in
    let header = doc_header doc (overlap_document_form o sound) in
    record { file = header_of doc; netcdf = record { short = short; header = header }; holds = read_again o (header_of doc) sound (has_corners a b o is) header }

-- and what that of a map holds
pub map_content : (m : MapParts) → IsSoundMap m → length (file_of (map_document m)) ≤ 2147483647 → HasContent map_kind (file_of (map_document m)) m
map_content m sound short =
    let doc = map_document m in
    let header = doc_header doc (map_document_form m sound) in
    record { file = header_of doc; netcdf = record { short = short; header = header }; holds = map_again m (header_of doc) sound header }
