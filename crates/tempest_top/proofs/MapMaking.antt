-- The map of the overlap of a file, from one piece after another.
use Rattle.std.proofs.Common.{◌≡◌, ◌≢◌, ◌∙◌, ◌<◌, ◌≤◌, ◌+◌, ℕ, Bool, List, [], ◌∷◌, ◌++◌, length, map, take, get_or, All, Option, refl, ap, sym, subst, arith, length-append}
use Rattle.std.proofs.Math.Seq.{take-append_seam}
use Rattle.std.proofs.lemmas.List.{map-append, length-map, length-take, take-take, take_all, take_more}
use Rattle.std.proofs.lemmas.List.Elements.{All-nil, All-cons, All-append}
use Rattle.vec_exact.specs.declared.RawMesh.{RawMesh}
use Rattle.clip.specs.declared.pieces.Piece.{Piece}
use Rattle.clip.specs.Overlaps.{IsSoundPiece}
use Rattle.map_rows.specs.declared.rows.MapRow.{MapRow}
use Rattle.map_rows.specs.Maps.{MapParts}
use Rattle.remap_io.specs.Folder.{Folder}
use Rattle.remap_io.specs.Outside.{FilesSeen, OnlyReads}
use Rattle.remap_load.proofs.Contents.{refusal_later}
use Rattle.remap_files.specs.declared.vars.OverlapVars.{OverlapVars}
use Rattle.remap_files.proofs.FoundOverlap.{overlap_vars_ok}
use Rattle.overlap_load.specs.Windows.{Reading, IsRead}
use Rattle.overlap_load.proofs.Windowed.{begins}
use Rattle.offline_map.specs.declared.faults.MapFault.{MapFault}
use Rattle.offline_map.specs.declared.faults.MapFault.TheVariants.{NoMemory}
use Rattle.offline_map.specs.Maps.{row_of, map_of}
use Rattle.offline_map.specs.MapFaults.{IsRightPiece, HasCountsOf, IsMapFaultOf, IsMappable}
use Rattle.offline_map.specs.Making.{Making, with_piece, IsFaultOfCounts, IsFaultOfPiece}
use Rattle.offline_map.proofs.Makings.{made_of, is_made_of, fault_of_next, fault_of_counts, fault_of_pieces}
use Rattle.tempest_top.specs.MapFaults.{overlap_words}
use Rattle.tempest_top.specs.declared.map.NoMap.{NoMap}
use Rattle.tempest_top.specs.declared.map.NoMap.TheVariants.{File, Fault}
use Rattle.tempest_top.specs.MapReading.{IsMaking, IsWhole, IsPut, IsMapOfFile, IsFaultOfFile, IsNoMap}

-- no piece was put yet
pub begun_making : (folder : Option Folder) (name : List ℕ) (a b : RawMesh) (reader : Reading) (maker : Making) → IsRead folder name reader [] → reader.vars.faces_a ≡ length a.faces → reader.vars.faces_b ≡ length b.faces → maker ≡ made_of a b []
    → IsMaking folder name a b reader maker
begun_making folder name a b reader maker read source target made =
    record { pieces = []; read = read; source = source; target = target; made = made; right = All-nil (IsRightPiece a b) }

-- one more was
pub next_making : (folder : Option Folder) (name : List ℕ) (a b : RawMesh) (old new : Reading) (maker next : Making) (p : Piece) (m : IsMaking folder name a b old maker)
    → IsRead folder name new (m.pieces ++ p ∷ []) → new.vars ≡ old.vars → next ≡ with_piece maker p → IsRightPiece maker.a maker.b p → IsMaking folder name a b new next
next_making folder name a b old new maker next p m read vars put right =
    let right_here : IsRightPiece a b p = subst (λ (x : Making). IsRightPiece x.a x.b p) m.made right in
    let rows : map row_of m.pieces ++ row_of p ∷ [] ≡ map row_of (m.pieces ++ p ∷ []) = sym (map-append row_of m.pieces (p ∷ [])) in
    record {
      pieces = m.pieces ++ p ∷ [];
      read = read;
      source = ap (λ (v : OverlapVars). v.faces_a) vars ∙ m.source;
      target = ap (λ (v : OverlapVars). v.faces_b) vars ∙ m.target;
      made = put ∙ ap (λ (x : Making). with_piece x p) m.made ∙ ap (λ (l : List MapRow). let x : Making = record { a = a; b = b; rows = l } in x) rows;
      right = All-append (IsRightPiece a b) m.pieces (p ∷ []) m.right (All-cons (IsRightPiece a b) p [] right_here (All-nil (IsRightPiece a b)));
    }

-- there are as many rows as pieces were read
pub row_count : (folder : Option Folder) (name : List ℕ) (a b : RawMesh) (reader : Reading) (maker : Making) → IsMaking folder name a b reader maker → length maker.rows ≡ reader.at
row_count folder name a b reader maker m =
    let begun = (begins folder name reader m.pieces m.read).1 in
    let o = (begins folder name reader m.pieces m.read).0 in
    let rows : length maker.rows ≡ length (map row_of m.pieces) = ap (λ (x : Making). length x.rows) m.made in
    omega (arith, rows, length-map m.pieces row_of, ap length begun.first, length-take reader.at o.pieces, begun.count, ((m.read).reader).at, ((m.read).reader).end)

-- the counts of the file aren't those of the meshes
pub counts_fault : (folder : Option Folder) (name : List ℕ) (a b : RawMesh) (reader : Reading) (fault : MapFault) → IsRead folder name reader [] → IsFaultOfCounts a b reader.vars.faces_a reader.vars.faces_b fault → IsFaultOfFile folder name a b fault
counts_fault folder name a b reader fault read h =
    let o = (begins folder name reader [] read).0 in
    let begun = (begins folder name reader [] read).1 in
    let here : IsFaultOfCounts a b o.faces_a o.faces_b fault = subst (λ (n : ℕ). IsFaultOfCounts a b o.faces_a n fault) (sym begun.target_faces) (subst (λ (n : ℕ). IsFaultOfCounts a b n reader.vars.faces_b fault) (sym begun.source_faces) h) in
    record { overlap = o; of_file = begun.of_file; is = λ some. fault_of_counts a b o fault here some }

-- the next piece isn't right
pub piece_fault : (folder : Option Folder) (name : List ℕ) (a b : RawMesh) (old new : Reading) (maker : Making) (p : Piece) (fault : MapFault) (m : IsMaking folder name a b old maker)
    → IsRead folder name new (m.pieces ++ p ∷ []) → new.vars ≡ old.vars → IsFaultOfPiece maker p fault → IsFaultOfFile folder name a b fault
piece_fault folder name a b old new maker p fault m read vars h =
    let pieces = m.pieces in
    let all = pieces ++ p ∷ [] in
    let o = (begins folder name new all read).0 in
    let begun = (begins folder name new all read).1 in
    let n = length pieces in
    let long : length all ≡ n + 1 = length-append pieces (p ∷ []) in
    let count : length all ≤ length o.pieces = omega (arith, ap length begun.first, length-take new.at o.pieces) in
    let upto : take (length all) o.pieces ≡ all =
    let few : length all ≤ new.at = omega (arith, ap length begun.first, length-take new.at o.pieces) in
    sym (take-take (length all) new.at o.pieces few) ∙ ap (take (length all)) begun.first ∙ take_all (length all) all (omega arith) in
    let front : take n o.pieces ≡ pieces = sym (take-take n (length all) o.pieces (omega (arith, long))) ∙ ap (take n) upto ∙ take-append_seam pieces (p ∷ []) in
    let more : take (n + 1) o.pieces ≡ take n o.pieces ++ get_or o.pieces n p ∷ [] = take_more o.pieces n p (omega (arith, count, long)) in
    let both : pieces ++ p ∷ [] ≡ pieces ++ get_or o.pieces n p ∷ [] = sym upto ∙ ap (λ k. take k o.pieces) long ∙ more ∙ ap (λ (l : List Piece). l ++ get_or o.pieces n p ∷ []) front in
    let is : p ≡ get_or o.pieces n p = last_same pieces p (get_or o.pieces n p) both in
    let made : maker ≡ made_of a b (take n o.pieces) = m.made ∙ ap (made_of a b) (sym front) in
    let right : All (IsRightPiece a b) (take n o.pieces) = subst (All (IsRightPiece a b)) (sym front) m.right in
    let counts : HasCountsOf a b o = record { source = begun.source_faces ∙ ap (λ (v : OverlapVars). v.faces_a) vars ∙ m.source; target = begun.target_faces ∙ ap (λ (v : OverlapVars). v.faces_b) vars ∙ m.target } in
    let found = fault_of_next a b maker o.pieces n p fault made (omega (arith, count, long)) is right h in
    record { overlap = o; of_file = begun.of_file; is = λ some. fault_of_pieces a b o fault counts found some }
  where
    get_last_of : (l : List Piece) (q d : Piece) → get_or (l ++ q ∷ []) (length l) d ≡ q
    get_last_of [] q d = refl
    get_last_of (x ∷ xs) q d = get_last_of xs q d

    get_last : (l : List Piece) (p : Piece) → get_or (l ++ p ∷ []) (length l) p ≡ p
    get_last l p = get_last_of l p p

    last_same : (l : List Piece) (p q : Piece) → l ++ p ∷ [] ≡ l ++ q ∷ [] → p ≡ q
    last_same l p q e = sym (get_last l p) ∙ ap (λ (x : List Piece). get_or x (length l) p) e ∙ get_last_of l q p

-- all pieces of an overlap that the file holds were put
pub whole_making : (folder : Option Folder) (name : List ℕ) (a b : RawMesh) (reader : Reading) (maker : Making) → IsMaking folder name a b reader maker → reader.at ≡ reader.vars.pieces → IsWhole folder name a b maker
whole_making folder name a b reader maker m done =
    let o = (begins folder name reader m.pieces m.read).0 in
    let begun = (begins folder name reader m.pieces m.read).1 in
    let all : o.pieces ≡ m.pieces = sym (take_all reader.at o.pieces (omega (arith, begun.count, done))) ∙ begun.first in
    let made : maker ≡ made_of a b o.pieces = m.made ∙ ap (made_of a b) (sym all) in
    let right : All (IsRightPiece a b) o.pieces = subst (All (IsRightPiece a b)) (sym all) m.right in
    record {
      overlap = o;
      of_file = begun.of_file;
      source = ap (λ (x : Making). x.a) m.made;
      target = ap (λ (x : Making). x.b) m.made;
      made = is_made_of a b o maker begun.sound (begun.source_faces ∙ m.source) (begun.target_faces ∙ m.target) made;
      right = subst (λ (x : Making). All (IsRightPiece x.a x.b) o.pieces) (sym made) right;
    }

-- the next piece can be put: there is room for its row, and it is a sound one of the two meshes
pub room_for_next : (folder : Option Folder) (name : List ℕ) (a b : RawMesh) (reader : Reading) (maker : Making) → IsMaking folder name a b reader maker → reader.at < reader.vars.pieces → length maker.rows < 8388608
room_for_next folder name a b reader maker m more =
    omega (arith, more, row_count folder name a b reader maker m, (overlap_vars_ok reader.head.file reader.vars ((m.read).reader).found).pieces)

pub sound_next : (folder : Option Folder) (name : List ℕ) (a b : RawMesh) (reader : Reading) (maker : Making) (p : Piece) → IsMaking folder name a b reader maker → IsSoundPiece reader.vars.faces_a reader.vars.faces_b p
    → IsSoundPiece (length maker.a.faces) (length maker.b.faces) p
sound_next folder name a b reader maker p m sound =
    let source : reader.vars.faces_a ≡ length maker.a.faces = m.source ∙ ap (λ (x : Making). length x.a.faces) (sym m.made) in
    let target : reader.vars.faces_b ≡ length maker.b.faces = m.target ∙ ap (λ (x : Making). length x.b.faces) (sym m.made) in
    subst (λ (n : ℕ). IsSoundPiece (length maker.a.faces) n p) target (subst (λ (n : ℕ). IsSoundPiece n reader.vars.faces_b p) source sound)

-- In a folder that only was read meanwhile the same holds.

pub making_later : (old new : Option Folder) (name : List ℕ) (a b : RawMesh) (reader : Reading) (maker : Making) → new ≡ old → IsMaking old name a b reader maker → IsMaking new name a b reader maker
making_later old new name a b reader maker same m = subst (λ (f : Option Folder). IsMaking f name a b reader maker) (sym same) m

pub put_before : (old new : Option Folder) (name : List ℕ) (a b : RawMesh) (before after : Reading) (maker : Making) (more : Bool) → new ≡ old → IsPut new name a b before after maker more → IsPut old name a b before after maker more
put_before old new name a b before after maker more same h = subst (λ (f : Option Folder). IsPut f name a b before after maker more) same h

pub no_map_later : (old mid new : FilesSeen) (name : List ℕ) (a b : RawMesh) (why : NoMap) → OnlyReads old mid → IsNoMap mid new name a b why → IsNoMap old new name a b why
no_map_later old mid new name a b (File refusal) reads h = refusal_later overlap_words.kind old mid new name refusal reads h
no_map_later old mid new name a b (Fault fault) reads h = subst (λ (f : Option Folder). IsFaultOfFile f name a b fault) reads.same_folder h

-- a fault of the whole
pub whole_fault : (folder : Option Folder) (name : List ℕ) (a b : RawMesh) (maker : Making) (fault : MapFault) (w : IsWhole folder name a b maker) → (fault ≢ NoMemory → IsMapFaultOf maker.a maker.b w.overlap fault) → IsFaultOfFile folder name a b fault
whole_fault folder name a b maker fault w is =
    record { overlap = w.overlap; of_file = w.of_file; is = λ some. subst (λ (x : RawMesh). IsMapFaultOf a x w.overlap fault) w.target (subst (λ (x : RawMesh). IsMapFaultOf x maker.b w.overlap fault) w.source (is some)) }

-- and its map
pub whole_map : (folder : Option Folder) (name : List ℕ) (a b : RawMesh) (maker : Making) (made : MapParts) (w : IsWhole folder name a b maker) → IsMappable maker.a maker.b w.overlap → made ≡ map_of w.overlap → IsMapOfFile folder name a b made
whole_map folder name a b maker made w mappable is =
    record {
      overlap = w.overlap;
      of_file = w.of_file;
      mappable = subst (λ (x : RawMesh). IsMappable a x w.overlap) w.target (subst (λ (x : RawMesh). IsMappable x maker.b w.overlap) w.source mappable);
      is = is;
    }
