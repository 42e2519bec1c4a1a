-- What a reader keeps from one piece to the next, and the overlap that its pieces begin.
use Rattle.std.proofs.Common.{◌≡◌, ◌∙◌, ◌⊎◌, inl, inr, ◌<◌, ◌≤◌, ◌+◌, ◌-◌, ◌*◌, ◌==◌, ℕ, zero, suc, ℤ, Bool, true, false, if◌then◌else◌, List, [], ◌∷◌, ◌++◌, length, map, take, drop, min, Option, None, Some, IsSomeAnd, Ok, nat_lt, slice_get, slice_range, slice_index_or, refl, ap, ap₂, sym, subst, arith, length-append}
use Rattle.std.specs.List.{range_with_len, sum_by}
use Rattle.std.proofs.Math.Nat.{mul-le-mul_right, div-mul-le_self, add-mul}
use Rattle.std.proofs.Math.Seq.{drop-append_seam}
use Rattle.std.proofs.lemmas.Bool.{cases_lt, lt-ltb, le-ltb}
use Rattle.std.proofs.lemmas.Bool.Decides.{nat_tests}
use Rattle.std.proofs.lemmas.List.{take-append-le, take_all, take_min, take-take, length-drop, length-take, length-take-le}
use Rattle.std.proofs.lemmas.List.Sums.{sum_by-take-drop, sum_by-cons}
use Rattle.std.proofs.lemmas.List.FromFn.{map-range_with_len_more, take-map-range_with_len, length-map-range_with_len, get_or-map-range_with_len}
use Rattle.clip.specs.declared.pieces.Piece.{Piece}
use Rattle.clip.specs.Overlaps.{OverlapParts, IsSoundPiece, IsSoundOverlap}
use Rattle.remap_io.specs.Folder.{Folder, file_at, OnFile}
use Rattle.remap_io.specs.Outside.{FilesSeen}
use Rattle.nc_write.specs.Kinds.{size_of}
use Rattle.nc_format.specs.declared.NcFile.{NcFile}
use Rattle.nc_format.specs.declared.NcVar.{NcVar}
use Rattle.nc_format.specs.Numbers.{is_int}
use Rattle.exodus_mesh.specs.MeshIn.{values_in}
use Rattle.exodus_mesh.specs.declared.faults.FileFault.{FileFault}
use Rattle.exodus_mesh.specs.declared.faults.FileFault.TheVariants.{Name, Row, AreaA, AreaB, NoMemory}
use Rattle.remap_files.specs.declared.vars.OverlapVars.{OverlapVars}
use Rattle.remap_files.specs.OverlapNames.{overlap_vars_in}
use Rattle.remap_files.specs.OverlapIn.{lists_in}
use Rattle.remap_files.specs.OverlapRows.{Columns, columns_of, ring_begin, ring_len, piece_at, row_fault, overlap_at, overlap_lens}
use Rattle.remap_files.specs.Rows.{HasRowLens, IsGoodRing, with_corners, piece_with}
use Rattle.remap_files.proofs.RowFaults.{all_are_good, rest_is_bad, any_corners, overlap_is, fault_is, no_fault, first_begin}
use Rattle.remap_files.proofs.GoodRows.{sound_rows}
use Rattle.remap_files.proofs.FoundOverlap.{AreOverlapVars, overlap_vars_ok}
use Rattle.remap_files.proofs.ReadOverlaps.{overlap_in_is}
use Rattle.remap_load.specs.declared.Head.{Head}
use Rattle.remap_load.specs.Heads.{IsHead, IsHeadOfBytes}
use Rattle.remap_load.specs.declared.refusal.FileRefusal.{FileRefusal}
use Rattle.remap_load.specs.declared.refusal.FileRefusal.TheVariants.{Load, Content}
use Rattle.remap_load.specs.Kinds.{IsFileRefusal}
use Rattle.remap_load.specs.Pieces.{numbers_at, count_of, count_at, var_bytes, bytes_at}
use Rattle.remap_load.proofs.Contents.{content_of_head, fault_of_head, filled as filled_bytes}
use Rattle.remap_load.proofs.Fronts.{on_file, on_this_file}
use Rattle.overlap_load.specs.OverlapFile.{overlap_kind, HoldsOverlap, FailsOverlap, overlap_bytes}
use Rattle.overlap_load.specs.Windows.{Reading, without_corners, columns, begin_of, corner_place, width_of, bytes_from, rest_bytes, InOnePiece, IsReader, AreColumns, IsRead, Begins, piece_here, next_row, AreNext, IsRowRefusal}
use Rattle.overlap_load.proofs.Reader.{begin_grows, begin_small, one_more_ring, ring_of_row, begin_inside, pieces_front, piece_of_part}
use Rattle.overlap_load.proofs.Values.{all_ints, counts_are}

-- The file of a told folder.

some_bytes : (o : Option (List ℕ)) (P : List ℕ → Type 0) → IsSomeAnd o P → (bytes : List ℕ) × (o ≡ Some bytes) × P bytes
some_bytes None P h = absurd h
some_bytes (Some bytes) P h = (bytes, refl, h)

told : (m : Folder) (name : List ℕ) (P : List ℕ → Type 0) → OnFile (Some m) name P → (bytes : List ℕ) × (file_at m name ≡ Some bytes) × P bytes
told m name P h = some_bytes (file_at m name) P h

here : (m : Folder) (name bytes : List ℕ) (P : List ℕ → Type 0) → file_at m name ≡ Some bytes → P bytes → OnFile (Some m) name P
here m name bytes P e p = let known : IsSomeAnd (Some bytes) P = p in subst (λ (o : Option (List ℕ)). IsSomeAnd o P) (sym e) known

-- Variables and their lists.

lens_of_vars : (head : Head) (v : OverlapVars) → IsHead head → overlap_vars_in head.file ≡ Ok v → map (count_at head.file) v.vars ≡ overlap_lens v
lens_of_vars head v is found =
    let some = filled_bytes head is in
    let are : AreOverlapVars head.file v = overlap_vars_ok head.file v found in
    counts_are head.file some.0 v.vars are.vars some.1 ∙ are.lens some.0 some.1

is_some : (n : ℕ) → 0 < n → (n == 0) ≡ false
is_some n h = grind (arith, nat_tests)

pub five_lens : (v : OverlapVars) → 0 < v.pieces → overlap_lens v ≡ v.pieces ∷ v.pieces ∷ v.pieces ∷ v.corners ∷ 3 * v.corners ∷ []
five_lens v some = ap (λ b. if b then [] else (v.pieces ∷ v.pieces ∷ v.pieces ∷ v.corners ∷ 3 * v.corners ∷ [])) (is_some v.pieces some)

fifth : (f : ℕ → ℕ) (l : List ℕ) (a b c d e : ℕ) → map f l ≡ a ∷ b ∷ c ∷ d ∷ e ∷ [] → (4 < length l) × (f (slice_index_or l 4 0) ≡ e)
fifth f [] a b c d e h = absurd cc
fifth f (p ∷ []) a b c d e h = absurd cc
fifth f (p ∷ q ∷ []) a b c d e h = absurd cc
fifth f (p ∷ q ∷ r ∷ []) a b c d e h = absurd cc
fifth f (p ∷ q ∷ r ∷ s ∷ []) a b c d e h = absurd cc
fifth f (p ∷ q ∷ r ∷ s ∷ t ∷ more) a b c d e h = (omega arith, ap (λ l. slice_index_or l 4 0) h)

-- the variable of the corners has three numbers for each place of a ring
pub corner_var : (head : Head) (v : OverlapVars) → IsHead head → overlap_vars_in head.file ≡ Ok v → 0 < v.pieces → (4 < length v.vars) × (count_at head.file (corner_place v) ≡ 3 * v.corners)
corner_var head v is found some = fifth (count_at head.file) v.vars v.pieces v.pieces v.pieces v.corners (3 * v.corners) (lens_of_vars head v is found ∙ five_lens v some)

at_four : (f : ℕ → List ℤ) (l : List ℕ) → 4 < length l → slice_index_or (map f l) 4 [] ≡ f (slice_index_or l 4 0)
at_four f [] h = absurd (omega (arith, h))
at_four f (p ∷ []) h = absurd (omega (arith, h))
at_four f (p ∷ q ∷ []) h = absurd (omega (arith, h))
at_four f (p ∷ q ∷ r ∷ []) h = absurd (omega (arith, h))
at_four f (p ∷ q ∷ r ∷ s ∷ []) h = absurd (omega (arith, h))
at_four f (p ∷ q ∷ r ∷ s ∷ t ∷ more) h = refl

map_four : {A B : Type 0} (f : A → B) (l : List A) → map f (take 4 l) ≡ take 4 (map f l)
map_four f [] = refl
map_four f (p ∷ []) = refl
map_four f (p ∷ q ∷ []) = refl
map_four f (p ∷ q ∷ r ∷ []) = refl
map_four f (p ∷ q ∷ r ∷ s ∷ more) = refl

columns_four : (l : List (List ℤ)) → columns_of l ≡ with_corners (columns_of (take 4 l)) (slice_index_or l 4 [])
columns_four [] = refl
columns_four (p ∷ []) = refl
columns_four (p ∷ q ∷ []) = refl
columns_four (p ∷ q ∷ r ∷ []) = refl
columns_four (p ∷ q ∷ r ∷ s ∷ more) = refl

-- the lists of the first four variables have the lengths of theirs
pub four_lens : (head : Head) (v : OverlapVars) → IsHead head → overlap_vars_in head.file ≡ Ok v → map (count_at head.file) (take 4 v.vars) ≡ take 4 (overlap_lens v)
four_lens head v is found = map_four (count_at head.file) v.vars ∙ ap (take 4) (lens_of_vars head v is found)

four_rows : (v : OverlapVars) (values : List (List ℤ)) → map length values ≡ v.pieces ∷ v.pieces ∷ v.pieces ∷ v.corners ∷ [] → (4 ≤ length values) × HasRowLens v (with_corners (columns_of values) [])
four_rows v [] h = absurd cc
four_rows v (a ∷ []) h = absurd cc
four_rows v (a ∷ b ∷ []) h = absurd cc
four_rows v (a ∷ b ∷ c ∷ []) h = absurd cc
four_rows v (a ∷ b ∷ c ∷ d ∷ more) h = (
  omega arith,
  record {
    source = ap (λ l. slice_index_or l 0 0) h;
    target = ap (λ l. slice_index_or l 1 0) h;
    ring_size = ap (λ l. slice_index_or l 2 0) h;
    ring_plane = ap (λ l. slice_index_or l 3 0) h;
  },
)

pub row_lens : (v : OverlapVars) (values : List (List ℤ)) → map length values ≡ take 4 (overlap_lens v) → 0 < v.pieces → (4 ≤ length values) × HasRowLens v (with_corners (columns_of values) [])
row_lens v values lens some = four_rows v values (lens ∙ ap (take 4) (five_lens v some))

-- The reader before its first piece.

abbrev pub begun : Head → OverlapVars → List (List ℤ) → Reading
begun head vars values = record { head = head; vars = vars; values = values; at = 0; begin = 0; corners = []; first = 0; end = 0 }

pub begun_reader : (head : Head) (vars : OverlapVars) (values : List (List ℤ)) → IsHead head → overlap_vars_in head.file ≡ Ok vars → map length values ≡ take 4 (overlap_lens vars) → row_fault vars (with_corners (columns_of values) []) ≡ None
    → IsReader (begun head vars values)
begun_reader head vars values is found lens none = record {
  head = is;
  found = found;
  count = λ some. (row_lens vars values lens some).0;
  lens = λ some. (row_lens vars values lens some).1;
  good = none;
  at = omega arith;
  end = omega arith;
  begin = sym (first_begin (columns_of values).ring_size);
  first = omega arith;
  long = omega (arith, first_begin (columns_of values).ring_size);
  one = inl refl;
}

-- the first four lists of the file, and the fifth, are its rows with their corners
abbrev pub AreFour : NcFile → OverlapVars → List (List ℤ) → List ℕ → Type 0
AreFour file vars values bytes = values ≡ lists_in file bytes (take 4 vars.vars)

pub rows_are : (file : NcFile) (bytes : List ℕ) (vars : OverlapVars) (values : List (List ℤ)) → values ≡ lists_in file bytes (take 4 vars.vars) → columns_of (lists_in file bytes vars.vars) ≡ with_corners (columns_of values) (slice_index_or (lists_in file bytes vars.vars) 4 [])
rows_are file bytes vars values same =
    let lists = lists_in file bytes vars.vars in
    columns_four lists ∙ ap (λ (l : List (List ℤ)). with_corners (columns_of l) (slice_index_or lists 4 [])) (sym (same ∙ map_four (values_in file bytes) vars.vars))

none_yet : (sizes : List ℤ) (corner : List ℤ) → [] ≡ slice_range corner (3 * 0) (3 * ring_begin sizes 0)
none_yet sizes corner =
    let size : 3 * ring_begin sizes 0 - 3 * 0 ≡ 0 = omega (arith, first_begin sizes) in
    sym (ap (λ n. take n (drop (3 * 0) corner)) size)

pub begun_read : (folder : Option Folder) (name : List ℕ) (head : Head) (vars : OverlapVars) (values : List (List ℤ)) → IsReader (begun head vars values) → OnFile folder name (IsHeadOfBytes head) → OnFile folder name (AreFour head.file vars values)
    → IsRead folder name (begun head vars values) []
begun_read None name head vars values reader of_file same = record {
  reader = reader;
  of_file = of_file;
  corner = [];
  enough = omega (arith, first_begin (columns_of values).ring_size);
  columns_are = tt;
  window = none_yet (columns_of values).ring_size [];
  are = refl;
}
begun_read (Some m) name head vars values reader of_file same =
    let file = told m name (AreFour head.file vars values) same in
    let corner = slice_index_or (lists_in head.file file.0 vars.vars) 4 [] in
    record {
      reader = reader;
      of_file = of_file;
      corner = corner;
      enough = omega (arith, first_begin (columns_of values).ring_size);
      columns_are = here m name file.0 (AreColumns (begun head vars values) corner) file.1 (rows_are head.file file.0 vars values file.2);
      window = none_yet (columns_of values).ring_size corner;
      are = refl;
    }

-- More corners.

abbrev pub filled : Reading → List ℤ → ℕ → Reading
filled r corners end = record r { corners = corners; first = r.begin; end = end }

pub filled_reader : (folder : Option Folder) (name : List ℕ) (r : Reading) (corners : List ℤ) (end : ℕ) → IsReader r → r.at ≡ r.end → AreNext folder name r corners end → IsReader (filled r corners end)
filled_reader folder name r corners end h all next =
    let begin : r.begin ≡ begin_of r r.end = h.begin ∙ ap (begin_of r) all in
    record {
      head = h.head;
      found = h.found;
      count = h.count;
      lens = h.lens;
      good = h.good;
      at = omega (arith, all, next.more);
      end = next.within;
      begin = h.begin;
      first = omega arith;
      long = next.long ∙ ap (λ n. 3 * (begin_of r end - n)) (sym begin);
      one = inr next.one;
    }

-- a part that has so many numbers is within the whole
part_within : (l part : List ℤ) (i j : ℕ) → i ≤ length l → length part ≡ j - i → part ≡ slice_range l i j → j ≤ length l
part_within l part i j le long is =
    omega (arith, ap length is, long, le, length-take (j - i) (drop i l), length-drop i l)

corner_is : (r : Reading) (corner : List ℤ) (bytes : List ℕ) → 4 < length r.vars.vars → AreColumns r corner bytes → numbers_at r.head.file bytes (corner_place r.vars) ≡ corner
corner_is r corner bytes many are =
    sym (at_four (values_in r.head.file bytes) r.vars.vars many) ∙ ap (λ (c : Columns). c.corner) are

abbrev IsPart : Reading → List ℤ → ℕ → List ℕ → Type 0
IsPart r corners end bytes = corners ≡ slice_range (numbers_at r.head.file bytes (corner_place r.vars)) (3 * begin_of r r.end) (3 * begin_of r end)

filled_untold : (name : List ℕ) (r : Reading) (corners : List ℤ) (end : ℕ) (pieces : List Piece) → IsRead None name r pieces → r.at ≡ r.end → r.at < r.vars.pieces → AreNext None name r corners end → IsRead None name (filled r corners end) pieces
filled_untold name r corners end pieces h all some next =
    let reader = h.reader in
    let b = begin_of r r.end in
    let e = begin_of r end in
    let begin : r.begin ≡ b = reader.begin ∙ ap (begin_of r) all in
    let front = take (3 * b) h.corner in
    let corner = front ++ corners in
    let long : length front ≡ 3 * b = length-take-le (3 * b) h.corner h.enough in
    let grows : b ≤ e = begin_grows (columns r []).ring_size r.end end (omega (arith, next.more)) in
    let same : take (3 * b) h.corner ≡ take (3 * b) corner = sym (take-append-le (3 * b) front corners (omega (arith, long)) ∙ take-take (3 * b) (3 * b) h.corner (omega arith)) in
    let behind : drop (3 * r.begin) corner ≡ corners = ap (λ n. drop n corner) (omega (arith, begin, long)) ∙ drop-append_seam front corners in
    record {
      reader = filled_reader None name r corners end reader all next;
      of_file = tt;
      corner = corner;
      enough = omega (arith, length-append front corners, long, next.long, grows);
      columns_are = tt;
      window = sym (ap (take (3 * e - 3 * r.begin)) behind ∙ take_all (3 * e - 3 * r.begin) corners (omega (arith, next.long, begin)));
      are = h.are ∙ pieces_front r.vars (columns r []) h.corner corner r.at (3 * b) (reader.lens (omega (arith, some))) (omega (arith, some)) (omega (arith, ap (begin_of r) all)) same;
    }

filled_told : (m : Folder) (name : List ℕ) (r : Reading) (corners : List ℤ) (end : ℕ) (pieces : List Piece) → IsRead (Some m) name r pieces → r.at ≡ r.end → r.at < r.vars.pieces → AreNext (Some m) name r corners end → IsRead (Some m) name (filled r corners end) pieces
filled_told m name r corners end pieces h all some next =
    let reader = h.reader in
    let many = (corner_var r.head r.vars reader.head reader.found (omega (arith, some))).0 in
    let b = begin_of r r.end in
    let e = begin_of r end in
    let begin : r.begin ≡ b = reader.begin ∙ ap (begin_of r) all in
    let A : Type 0 = corners ≡ slice_range h.corner (3 * b) (3 * e) in
    let part : A = (told m name (λ bytes. A) (on_file (Some m) name (AreColumns r h.corner) (IsPart r corners end) (λ bytes. A)
    (λ bytes are is. is ∙ ap (λ (l : List ℤ). slice_range l (3 * b) (3 * e)) (corner_is r h.corner bytes many are)) h.columns_are next.of_file)).2 in
    record {
      reader = filled_reader (Some m) name r corners end reader all next;
      of_file = h.of_file;
      corner = h.corner;
      enough = part_within h.corner corners (3 * b) (3 * e) h.enough (omega (arith, next.long)) part;
      columns_are = h.columns_are;
      window = part ∙ ap (λ n. slice_range h.corner (3 * n) (3 * e)) (sym begin);
      are = h.are;
    }

pub filled_read : (folder : Option Folder) (name : List ℕ) (r : Reading) (corners : List ℤ) (end : ℕ) (pieces : List Piece) → IsRead folder name r pieces → r.at ≡ r.end → r.at < r.vars.pieces → AreNext folder name r corners end → IsRead folder name (filled r corners end) pieces
filled_read None name r corners end pieces h all some next = filled_untold name r corners end pieces h all some next
filled_read (Some m) name r corners end pieces h all some next = filled_told m name r corners end pieces h all some next

-- One row more.

pub next_reader : (r : Reading) → IsReader r → r.at < r.end → IsReader (next_row r)
next_reader r h ready =
    let some : 0 < r.vars.pieces = omega (arith, ready, h.end) in
    record {
      head = h.head;
      found = h.found;
      count = h.count;
      lens = h.lens;
      good = h.good;
      at = omega (arith, ready);
      end = h.end;
      begin = ap (λ n. n + ring_len (columns r []).ring_size r.at) h.begin ∙ sym (one_more_ring r.vars (columns r []) r.at (h.lens some) (omega (arith, ready, h.end)));
      first = omega (arith, h.first);
      long = h.long;
      one = h.one;
    }

piece_is_at : (folder : Option Folder) (name : List ℕ) (r : Reading) (pieces : List Piece) (h : IsRead folder name r pieces) → r.at < r.end → piece_here r ≡ piece_at (columns r h.corner) r.at
piece_is_at folder name r pieces h ready =
    let reader = h.reader in
    ap (λ n. piece_with (columns r []) r.at (drop (3 * (n - r.first)) r.corners)) reader.begin
    ∙ piece_of_part r.vars (columns r []) h.corner r.corners r.at r.first r.end (reader.lens (omega (arith, ready, reader.end))) ready reader.end (omega (arith, reader.first, reader.begin)) h.window

pub next_read : (folder : Option Folder) (name : List ℕ) (r : Reading) (pieces : List Piece) → IsRead folder name r pieces → r.at < r.end → IsRead folder name (next_row r) (pieces ++ piece_here r ∷ [])
next_read folder name r pieces h ready = record {
  reader = next_reader r h.reader ready;
  of_file = h.of_file;
  corner = h.corner;
  enough = h.enough;
  columns_are = h.columns_are;
  window = h.window;
  are = ap₂ (λ (l : List Piece) (p : Piece). l ++ p ∷ []) h.are (piece_is_at folder name r pieces h ready) ∙ sym (map-range_with_len_more (piece_at (columns r h.corner)) 0 r.at r.at (omega arith));
}

-- The overlap that the pieces begin.

abbrev overlap_with : Reading → List ℤ → OverlapParts
overlap_with r corner = overlap_at r.vars (columns r corner)

is_sound : (r : Reading) (corner : List ℤ) → IsReader r → IsSoundOverlap (overlap_with r corner)
is_sound r corner h =
    let are : AreOverlapVars r.head.file r.vars = overlap_vars_ok r.head.file r.vars h.found in
    sound_rows r.vars (columns r corner) are.source_faces are.target_faces are.pieces (any_corners r.vars (columns r []) corner ∙ h.good)

holds : (r : Reading) (corner : List ℤ) (bytes : List ℕ) → IsReader r → AreColumns r corner bytes → HoldsOverlap r.head.file bytes (overlap_with r corner)
holds r corner bytes h are =
    let lists = lists_in r.head.file bytes r.vars.vars in
    let none : row_fault r.vars (columns_of lists) ≡ None = ap (row_fault r.vars) are ∙ any_corners r.vars (columns r []) corner ∙ h.good in
    overlap_in_is r.head.file bytes r.vars h.found ∙ overlap_is r.vars lists none ∙ ap (λ (c : Columns). Ok (overlap_at r.vars c)) are

pub begins : (folder : Option Folder) (name : List ℕ) (r : Reading) (pieces : List Piece) → IsRead folder name r pieces → (o : OverlapParts) × Begins folder name r pieces o
begins folder name r pieces h =
    let o = overlap_with r h.corner in (
      o,
      record {
        of_file = content_of_head overlap_kind folder name r.head o (h.reader).head h.of_file (on_this_file folder name (AreColumns r h.corner) (λ bytes. HoldsOverlap r.head.file bytes o) (λ bytes are. holds r h.corner bytes h.reader are) h.columns_are);
        sound = is_sound r h.corner h.reader;
        source_faces = refl;
        target_faces = refl;
        count = length-map-range_with_len (piece_at (columns r h.corner)) 0 r.vars.pieces;
        first = take-map-range_with_len (piece_at (columns r h.corner)) 0 r.vars.pieces r.at (omega (arith, (h.reader).at, (h.reader).end)) ∙ sym h.are;
      },
    )

pub next_sound : (folder : Option Folder) (name : List ℕ) (r : Reading) (pieces : List Piece) → IsRead folder name r pieces → r.at < r.end → IsSoundPiece r.vars.faces_a r.vars.faces_b (piece_here r)
next_sound folder name r pieces h ready =
    let o = overlap_with r h.corner in
    let f = piece_at (columns r h.corner) in
    let sound = is_sound r h.corner h.reader in
    let long : length (map f (range_with_len 0 r.vars.pieces)) ≡ r.vars.pieces = length-map-range_with_len f 0 r.vars.pieces in
    let below : r.at < length (map f (range_with_len 0 r.vars.pieces)) = omega (arith, long, ready, (h.reader).end) in
    let d = piece_here r in
    let at : slice_index_or (map f (range_with_len 0 r.vars.pieces)) r.at d ≡ f r.at = get_or-map-range_with_len f 0 r.vars.pieces r.at r.at d (omega (arith, ready, (h.reader).end)) (omega arith) in
    subst (IsSoundPiece r.vars.faces_a r.vars.faces_b) (at ∙ sym (piece_is_at folder name r pieces h ready)) (sound.pieces r.at d below)

-- What the corners cost.

opt_bytes : (o : Option NcVar) (n : ℕ) → n ≤ count_of o → n * width_of o ≤ var_bytes o
opt_bytes None n le = omega arith
opt_bytes (Some v) n le = omega (arith, mul-le-mul_right (size_of v.kind) le, div-mul-le_self (v.parts * v.part) (size_of v.kind))

begin_bytes : (r : Reading) (k : ℕ) → IsReader r → 0 < r.vars.pieces → k ≤ r.vars.pieces → (3 * begin_of r k) * width_of (slice_get r.head.file.vars (corner_place r.vars)) ≤ bytes_at r.head.file (corner_place r.vars)
begin_bytes r k h some le =
    let count = (corner_var r.head r.vars h.head h.found some).1 in
    opt_bytes (slice_get r.head.file.vars (corner_place r.vars)) (3 * begin_of r k) (omega (arith, count, begin_inside r.vars (columns r []) k (h.lens some) h.good le))

from_here : (b : Bool) (n : ℕ) → b ≡ true → (if b then n else 0) ≡ n
from_here b n h = ap (λ (c : Bool). if c then n else 0) h

some_or_none : (b : Bool) (n all part : ℕ) → n + part ≤ all → (if b then n else 0) + part ≤ all
some_or_none true n all part le = omega (arith, le)
some_or_none false n all part le = omega (arith, le)

-- what is read for some rows is taken off what is left
pub part_cost : (r : Reading) (end count : ℕ) → IsReader r → r.end < end → end ≤ r.vars.pieces → begin_of r r.end + count ≡ begin_of r end → bytes_from r end + (3 * count) * width_of (slice_get r.head.file.vars (corner_place r.vars)) ≤ rest_bytes r
part_cost r end count h more within sum =
    let w = width_of (slice_get r.head.file.vars (corner_place r.vars)) in
    let all = bytes_at r.head.file (corner_place r.vars) in
    let some : 0 < r.vars.pieces = omega (arith, more, within) in
    let old : rest_bytes r ≡ all - (3 * begin_of r r.end) * w = from_here (nat_lt r.end r.vars.pieces) (all - (3 * begin_of r r.end) * w) (lt-ltb r.end r.vars.pieces (omega (arith, more, within))) in
    let split : (3 * begin_of r end) * w ≡ (3 * begin_of r r.end) * w + (3 * count) * w = ap (λ n. n * w) (let e : 3 * begin_of r end ≡ 3 * begin_of r r.end + 3 * count = omega (arith, sum) in e) ∙ add-mul (3 * begin_of r r.end) (3 * count) w in
    subst (λ n. bytes_from r end + (3 * count) * w ≤ n) (sym old)
    (some_or_none (nat_lt end r.vars.pieces) (all - (3 * begin_of r end) * w) (all - (3 * begin_of r r.end) * w) ((3 * count) * w) (omega (arith, split, begin_bytes r end h some within)))

-- nothing is left behind all rows, and before the first one all is
pub whole_cost : (r : Reading) → IsReader r → r.end ≡ 0 → 0 < r.vars.pieces → bytes_from r r.vars.pieces + bytes_at r.head.file (corner_place r.vars) ≤ rest_bytes r
whole_cost r h first some =
    let w = width_of (slice_get r.head.file.vars (corner_place r.vars)) in
    let all = bytes_at r.head.file (corner_place r.vars) in
    let none : begin_of r r.end ≡ 0 = ap (begin_of r) first ∙ first_begin (columns r []).ring_size in
    let nothing : (3 * begin_of r r.end) * w ≡ 0 = ap (λ n. (3 * n) * w) none ∙ omega arith in
    let old : rest_bytes r ≡ all - (3 * begin_of r r.end) * w = from_here (nat_lt r.end r.vars.pieces) (all - (3 * begin_of r r.end) * w) (lt-ltb r.end r.vars.pieces (omega (arith, first, some))) in
    let new : bytes_from r r.vars.pieces ≡ 0 = ap (λ (b : Bool). if b then all - (3 * begin_of r r.vars.pieces) * w else 0) (le-ltb r.vars.pieces r.vars.pieces (omega arith)) in
    omega (arith, old, new, nothing)

sum_four : (f : ℕ → ℕ) (l : List ℕ) → 4 < length l → sum_by f (take 4 l) + f (slice_index_or l 4 0) ≤ sum_by f l
sum_four f [] h = absurd (omega (arith, h))
sum_four f (p ∷ []) h = absurd (omega (arith, h))
sum_four f (p ∷ q ∷ []) h = absurd (omega (arith, h))
sum_four f (p ∷ q ∷ r ∷ []) h = absurd (omega (arith, h))
sum_four f (p ∷ q ∷ r ∷ s ∷ []) h = absurd (omega (arith, h))
sum_four f (p ∷ q ∷ r ∷ s ∷ t ∷ more) h =
    let l = p ∷ q ∷ r ∷ s ∷ t ∷ more in
    omega (arith, sum_by-take-drop f l 4, sum_by-cons f t more)

some_rows : (n : ℕ) → (n ≡ 0) ⊎ (0 < n)
some_rows zero = inl refl
some_rows (suc n) = inr (omega arith)

-- the rows and their corners cost what the overlap does
pub begun_cost : (head : Head) (vars : OverlapVars) (values : List (List ℤ)) → IsReader (begun head vars values) → rest_bytes (begun head vars values) + sum_by (bytes_at head.file) (take 4 vars.vars) ≤ overlap_bytes head.file vars
begun_cost head vars values h =
    let r = begun head vars values in
    let w = width_of (slice_get head.file.vars (corner_place vars)) in
    let all = bytes_at head.file (corner_place vars) in
    let f = bytes_at head.file in
    elim (some_rows vars.pieces) [
      | inl none ↦
          let nothing : rest_bytes r ≡ 0 = ap (λ (b : Bool). if b then all - (3 * begin_of r 0) * w else 0) (le-ltb 0 vars.pieces (omega (arith, none))) in
          omega (arith, nothing, sum_by-take-drop f vars.vars 4)
      | inr some ↦
          let here : rest_bytes r ≤ all = whole_or_less (nat_lt 0 vars.pieces) all ((3 * begin_of r 0) * w) in
          omega (arith, here, sum_four f vars.vars (corner_var head vars h.head h.found some).0)
    ]
  where
    whole_or_less : (b : Bool) (n m : ℕ) → (if b then n - m else 0) ≤ n
    whole_or_less true n m = omega arith
    whole_or_less false n m = omega arith

-- What the calls of a reader rely on.

pub begin_bound : (r : Reading) (k : ℕ) → IsReader r → 0 < r.vars.pieces → k ≤ r.vars.pieces → begin_of r k ≤ 268435456
begin_bound r k h some le =
    let are : AreOverlapVars r.head.file r.vars = overlap_vars_ok r.head.file r.vars h.found in
    omega (arith, begin_small r.vars (columns r []) k (h.lens some) h.good le, le, are.pieces)

-- the next row, whose corners stand in memory
pub record HasRow (r : Reading) : Type 0 where
  pub count : 4 ≤ length r.values
  pub source : r.at < length (columns r []).source
  pub target : r.at < length (columns r []).target
  pub ring_size : r.at < length (columns r []).ring_size
  pub ring : IsGoodRing (columns r []).ring_size (columns r []).ring_plane r.at
  pub begin : r.begin ≡ ring_begin (columns r []).ring_size r.at
  pub bound : r.begin + ring_len (columns r []).ring_size r.at ≤ 268435456
  pub inside : 3 * (r.begin - r.first) + 3 * ring_len (columns r []).ring_size r.at ≤ length r.corners

pub has_row : (r : Reading) → IsReader r → r.at < r.end → HasRow r
has_row r h ready =
    let some : 0 < r.vars.pieces = omega (arith, ready, h.end) in
    let below : r.at < r.vars.pieces = omega (arith, ready, h.end) in
    let lens = h.lens some in
    let next = one_more_ring r.vars (columns r []) r.at lens below in
    let grows = begin_grows (columns r []).ring_size (r.at + 1) r.end (omega (arith, ready)) in
    record {
      count = h.count some;
      source = omega (arith, lens.source, below);
      target = omega (arith, lens.target, below);
      ring_size = omega (arith, lens.ring_size, below);
      ring = ring_of_row r.vars (columns r []) r.at h.good below;
      begin = h.begin;
      bound = omega (arith, next, h.begin, begin_bound r (r.at + 1) h some (omega (arith, below)));
      inside = omega (arith, next, h.begin, grows, h.long, h.first);
    }

pub first_four : (l front : List ℕ) (n : ℕ) → n ≡ min (length l) 4 → front ≡ take n l → front ≡ take 4 l
first_four l front n h e =
    let turned : n ≡ min 4 (length l) = omega (arith, h) in
    e ∙ ap (λ k. take k l) turned ∙ take_min 4 l

is_zero : (n : ℕ) → n ≡ 0 → (n == 0) ≡ true
is_zero n h = grind (arith, nat_tests)

-- without a row none is at fault
pub no_rows : (v : OverlapVars) (values : List (List ℤ)) → v.pieces ≡ 0 → map length values ≡ take 4 (overlap_lens v) → row_fault v (with_corners (columns_of values) []) ≡ None
no_rows v [] none lens = no_fault v (with_corners (columns_of []) []) (λ k below. absurd (omega (arith, below, none))) (omega arith)
no_rows v (x ∷ xs) none lens =
    let all = v.pieces ∷ v.pieces ∷ v.pieces ∷ v.corners ∷ 3 * v.corners ∷ [] in
    let empty : length x ∷ map length xs ≡ [] = lens ∙ ap (λ b. take 4 (if b then [] else all)) (is_zero v.pieces none) in
    absurd cc

-- A row at fault is one of the file.

row_fails : (file : NcFile) (bytes : List ℕ) (vars : OverlapVars) (values : List (List ℤ)) (k : ℕ) → overlap_vars_in file ≡ Ok vars → AreFour file vars values bytes → row_fault vars (with_corners (columns_of values) []) ≡ Some k → FailsOverlap file bytes (Row k)
row_fails file bytes vars values k found same h =
    let lists = lists_in file bytes vars.vars in
    let fault : row_fault vars (columns_of lists) ≡ Some k = ap (row_fault vars) (rows_are file bytes vars values same) ∙ any_corners vars (with_corners (columns_of values) []) (slice_index_or lists 4 []) ∙ h in
    overlap_in_is file bytes vars found ∙ fault_is vars (columns_of lists) k fault

pub row_refused : (old new : FilesSeen) (name : List ℕ) (head : Head) (vars : OverlapVars) (values : List (List ℤ)) (why : FileRefusal FileFault) → IsHead head → OnFile old.folder name (IsHeadOfBytes head) → overlap_vars_in head.file ≡ Ok vars
    → OnFile old.folder name (AreFour head.file vars values) → IsRowRefusal vars (with_corners (columns_of values) []) why → IsFileRefusal overlap_kind old new name why
row_refused old new name head vars values (Load fault) is of_file found same h = absurd h
row_refused old new name head vars values (Content (Name fault)) is of_file found same h = absurd h
row_refused old new name head vars values (Content (Row k)) is of_file found same h =
    (tt, fault_of_head overlap_kind old.folder name head (Row k) is of_file (on_this_file old.folder name (AreFour head.file vars values) (λ bytes. FailsOverlap head.file bytes (Row k)) (λ bytes four. row_fails head.file bytes vars values k found four h) same))
row_refused old new name head vars values (Content (AreaA i)) is of_file found same h = absurd h
row_refused old new name head vars values (Content (AreaB j)) is of_file found same h = absurd h
row_refused old new name head vars values (Content NoMemory) is of_file found same h = absurd h

-- Corners that are read next.

abbrev pub bare : Reading → Reading
bare r = without_corners r.head r.vars r.values r.begin r.end

pub bare_reader : (r : Reading) → IsReader r → r.at ≡ r.end → IsReader (bare r)
bare_reader r h all =
    let begin : r.begin ≡ begin_of r r.end = h.begin ∙ ap (begin_of r) all in
    record {
      head = h.head;
      found = h.found;
      count = h.count;
      lens = h.lens;
      good = h.good;
      at = omega arith;
      end = h.end;
      begin = begin;
      first = omega arith;
      long = omega (arith, begin);
      one = h.one;
    }

pub bare_next : (folder : Option Folder) (name : List ℕ) (r : Reading) (corners : List ℤ) (end : ℕ) → AreNext folder name (bare r) corners end → AreNext folder name r corners end
bare_next folder name r corners end n = record { more = n.more; within = n.within; of_file = n.of_file; long = n.long; one = n.one }

no_some : (n : ℕ) → (let none : Option ℕ = None in none ≡ Some n) → ⊥
no_some n h = absurd cc

-- the rings of all rows take up all of `ring_plane`
all_planes : (v : OverlapVars) (c : Columns) → row_fault v c ≡ None → length c.ring_plane ≤ ring_begin c.ring_size v.pieces
all_planes v c none =
    elim (cases_lt (ring_begin c.ring_size v.pieces) (length c.ring_plane)) [
      | inl less ↦ absurd (no_some v.pieces (sym none ∙ rest_is_bad v c (all_are_good v c none) less))
      | inr le ↦ le
    ]

whole_range : (l : List ℤ) (i j : ℕ) → i ≡ 0 → length l ≤ j → l ≡ slice_range l i j
whole_range l i j first le = sym (ap (λ k. slice_range l k j) first ∙ take_all (j - 0) l (omega (arith, le)))

pub whole_next : (folder : Option Folder) (name : List ℕ) (r : Reading) (corners : List ℤ) → IsReader r → r.end < r.vars.pieces → r.end ≡ 0 → OnFile folder name (λ bytes. corners ≡ numbers_at r.head.file bytes (corner_place r.vars))
    → length corners ≡ count_at r.head.file (corner_place r.vars) → AreNext folder name r corners r.vars.pieces
whole_next folder name r corners h more first same long =
    let some : 0 < r.vars.pieces = omega (arith, more) in
    let sizes = (columns r []).ring_size in
    let lens = h.lens some in
    let planes : length (columns r []).ring_plane ≤ begin_of r r.vars.pieces = all_planes r.vars (columns r []) h.good in
    let inside : begin_of r r.vars.pieces ≤ r.vars.corners = begin_inside r.vars (columns r []) r.vars.pieces lens h.good (omega arith) in
    let none : begin_of r r.end ≡ 0 = ap (begin_of r) first ∙ first_begin sizes in
    let count = (corner_var r.head r.vars h.head h.found some).1 in
    let zero_first : 3 * begin_of r r.end ≡ 0 = omega (arith, none) in
    let all : length corners ≤ 3 * begin_of r r.vars.pieces = omega (arith, long, count, planes, lens.ring_plane) in
    record {
      more = more;
      within = omega arith;
      of_file = on_this_file folder name (λ bytes. corners ≡ numbers_at r.head.file bytes (corner_place r.vars)) (IsPart r corners r.vars.pieces)
          (λ bytes is. whole_range corners (3 * begin_of r r.end) (3 * begin_of r r.vars.pieces) zero_first all ∙ ap (λ (l : List ℤ). slice_range l (3 * begin_of r r.end) (3 * begin_of r r.vars.pieces)) is) same;
      long = omega (arith, long, count, planes, inside, lens.ring_plane, none);
      one = λ less. absurd (omega (arith, less));
    }

pub part_next : (folder : Option Folder) (name : List ℕ) (r : Reading) (corners : List ℤ) (end count : ℕ) → IsReader r → r.at ≡ r.end → InOnePiece r → r.end < end → end ≤ r.vars.pieces → begin_of r r.end + count ≡ begin_of r end
    → OnFile folder name (λ bytes. corners ≡ slice_range (numbers_at r.head.file bytes (corner_place r.vars)) (3 * r.begin) (3 * r.begin + 3 * count)) → length corners ≡ 3 * count → AreNext folder name r corners end
part_next folder name r corners end count h all one more within sum same long =
    let begin : r.begin ≡ begin_of r r.end = h.begin ∙ ap (begin_of r) all in
    let i : 3 * r.begin ≡ 3 * begin_of r r.end = omega (arith, begin) in
    let j : 3 * r.begin + 3 * count ≡ 3 * begin_of r end = omega (arith, begin, sum) in
    record {
      more = more;
      within = within;
      of_file = on_this_file folder name (λ bytes. corners ≡ slice_range (numbers_at r.head.file bytes (corner_place r.vars)) (3 * r.begin) (3 * r.begin + 3 * count)) (IsPart r corners end)
          (λ bytes is. is ∙ ap₂ (λ n m. slice_range (numbers_at r.head.file bytes (corner_place r.vars)) n m) i j) same;
      long = omega (arith, long, sum);
      one = λ less. one;
    }

-- the variable of the corners is one of whole numbers
abbrev HasInts : NcFile → ℕ → Type 0
HasInts file place = IsSomeAnd (slice_get file.vars place) (λ (v : NcVar). is_int v.kind ≡ true)

pub corner_ints : (head : Head) (v : OverlapVars) → IsHead head → overlap_vars_in head.file ≡ Ok v → 0 < v.pieces → HasInts head.file (corner_place v)
corner_ints head v is found some = all_ints head.file v.vars (overlap_vars_ok head.file v found).vars 4 0 (corner_var head v is found some).0

pub some_within : {A : Type 0} (P : A → Type 0) (l : List A) (k : ℕ) → IsSomeAnd (slice_get l k) P → k < length l
some_within P [] k h = absurd h
some_within P (x ∷ xs) zero h = omega arith
some_within P (x ∷ xs) (suc k) h = omega (arith, some_within P xs k h)

pub var_there : (o : Option NcVar) (P : NcVar → Type 0) → IsSomeAnd o P → (v : NcVar) × (o ≡ Some v)
var_there None P h = absurd h
var_there (Some v) P h = (v, refl)
