-- Where names are found, the counts are within their limits, and each variable has the type and the lengths that an overlap has.
use Rattle.std.proofs.Common.{◌≡◌, ◌==◌, ◌≤◌, ◌*◌, ℕ, Bool, true, false, if◌then◌else◌, List, [], ◌∷◌, length, map, All, Result, Ok, Err, refl, ap, ap₂, sym, subst, ◌∙◌, arith, unsigned_abs}
use Rattle.std.proofs.lemmas.List.Elements.{All-from_recursion}
use Rattle.clip.specs.Overlaps.{IsFaceCount}
use Rattle.nc_format.specs.declared.NcFile.{NcFile}
use Rattle.nc_format.specs.Header.{IsHeader}
use Rattle.exodus_mesh.specs.declared.kinds.NumberKind.TheVariants.{Int}
use Rattle.exodus_mesh.specs.declared.ids.NameId.{NameId}
use Rattle.exodus_mesh.specs.declared.ids.NameId.TheVariants.{FacesA, FacesB, Pieces, Source, Target, RingSize, RingPlane, Corner}
use Rattle.exodus_mesh.specs.declared.ids.NameFault.{NameFault}
use Rattle.exodus_mesh.specs.declared.ids.NameFault.TheVariants.{Missing, Shape}
use Rattle.exodus_mesh.specs.Names.{◌>>=◌, found_or}
use Rattle.exodus_mesh.specs.VarLens.{same_len, var_len, var_lens}
use Rattle.exodus_mesh.specs.MeshNames.{place_of}
use Rattle.exodus_mesh.specs.Found.{IsIntVar, IsSomeIntVar}
use Rattle.exodus_mesh.proofs.NumberVars.{value_ok, ok_same, if_ok, var_len_ok, var_lens_ok, same_ok}
use Rattle.exodus_mesh.specs.Columns.{column_in}
use Rattle.exodus_mesh.specs.Pairs.{is_within}
use Rattle.exodus_mesh.proofs.FoundColumns.{column_ok}
use Rattle.exodus_mesh.proofs.GoodPairs.{within}
use Rattle.exodus_mesh.proofs.VarValues.{len_values, lens_values}
use Rattle.remap_files.specs.declared.vars.OverlapVars.{OverlapVars}
use Rattle.remap_files.specs.OverlapNames.{att_in, count_in, planes_in, corner_in, five_in, no_vars, overlap_vars_in}
use Rattle.remap_files.specs.OverlapRows.{overlap_lens}
use Rattle.remap_files.specs.OverlapIn.{lists_in}

count_ok : (low high : ℕ) (file : NcFile) (id : NameId) (n : ℕ) → count_in low high file id ≡ Ok n → (low ≤ n) × (n ≤ high)
unfolding count_in
count_ok low high file id n h =
    let p = value_ok (att_in file id) (λ z. if is_within low high z then Ok (unsigned_abs z) else Err (Shape id)) n h in
    let q = if_ok (is_within low high p.0) (unsigned_abs p.0) n (Shape id) p.2 in
    let w = within low high p.0 q.0 in
    (subst (λ (k : ℕ). low ≤ k) q.1 w.0, subst (λ (k : ℕ). k ≤ high) q.1 w.1)

planes_ok : (file : NcFile) (both : ℕ × ℕ) → planes_in file ≡ Ok both → IsIntVar file (both.1 ∷ []) both.0
unfolding planes_in
planes_ok file both h =
    let p = value_ok (found_or (Missing RingPlane) (place_of file RingPlane)) (λ place. var_len file Int RingPlane place >>= λ len. Ok (place, len)) both h in
    let q = value_ok (var_len file Int RingPlane p.0) (λ len. Ok (p.0, len)) both p.2 in
    let same : (let pair : ℕ × ℕ = (p.0, q.0) in pair ≡ both) = ok_same (p.0, q.0) both q.2 in
    subst (λ (pair : ℕ × ℕ). IsIntVar file (pair.1 ∷ []) pair.0) same (var_len_ok file Int RingPlane p.0 q.0 q.1)

corner_ok : (file : NcFile) (corners place : ℕ) → corner_in file corners ≡ Ok place → IsIntVar file (corners ∷ 3 ∷ []) place
unfolding corner_in
corner_ok file corners place h =
    let p = value_ok (found_or (Missing Corner) (place_of file Corner)) (λ at. var_lens file Int Corner at >>= λ both. same_len Corner corners both.0 >>= λ same. same_len Corner 3 both.1 >>= λ three. Ok at) place h in
    let q = value_ok (var_lens file Int Corner p.0) (λ both. same_len Corner corners both.0 >>= λ same. same_len Corner 3 both.1 >>= λ three. Ok p.0) place p.2 in
    let r = value_ok (same_len Corner corners (q.0).0) (λ same. same_len Corner 3 (q.0).1 >>= λ three. Ok p.0) place q.2 in
    let s = value_ok (same_len Corner 3 (q.0).1) (λ three. Ok p.0) place r.2 in
    let first : (q.0).0 ≡ corners = (same_ok Corner corners (q.0).0 r.0 r.1).0 in
    let second : (q.0).1 ≡ 3 = (same_ok Corner 3 (q.0).1 s.0 s.1).0 in
    let lens : (q.0).0 ∷ (q.0).1 ∷ [] ≡ corners ∷ 3 ∷ [] = ap₂ (λ (n m : ℕ). n ∷ m ∷ []) first second in
    subst (λ (k : ℕ). IsIntVar file (corners ∷ 3 ∷ []) k) (ok_same p.0 place s.2) (subst (λ (l : List ℕ). IsIntVar file l p.0) lens (var_lens_ok file Int Corner p.0 q.0 q.1))

-- what the counts and the variables of an overlap are
pub record AreOverlapVars (file : NcFile) (v : OverlapVars) : Type 0 where
  pub source_faces : IsFaceCount v.faces_a
  pub target_faces : IsFaceCount v.faces_b
  pub pieces : v.pieces ≤ 8388608
  pub vars : All (IsSomeIntVar file) v.vars
  pub lens : (bytes : List ℕ) → IsHeader bytes (length bytes) file → map length (lists_in file bytes v.vars) ≡ overlap_lens v

-- the five variables, with their lengths
record AreFive (file : NcFile) (pieces corners source target size plane corner : ℕ) : Type 0 where
  pub is_source : IsIntVar file (pieces ∷ []) source
  pub is_target : IsIntVar file (pieces ∷ []) target
  pub is_size : IsIntVar file (pieces ∷ []) size
  pub is_plane : IsIntVar file (corners ∷ []) plane
  pub is_corner : IsIntVar file (corners ∷ 3 ∷ []) corner

five_lens : (file : NcFile) (pieces corners source target size plane corner : ℕ) → AreFive file pieces corners source target size plane corner → (bytes : List ℕ) → IsHeader bytes (length bytes) file
    → map length (lists_in file bytes (source ∷ target ∷ size ∷ plane ∷ corner ∷ [])) ≡ pieces ∷ pieces ∷ pieces ∷ corners ∷ 3 * corners ∷ []
five_lens file pieces corners source target size plane corner f bytes h =
    let thrice : corners * 3 ≡ 3 * corners = omega arith in
    let first = len_values bytes file pieces source h f.is_source in
    let second = len_values bytes file pieces target h f.is_target in
    let third = len_values bytes file pieces size h f.is_size in
    let fourth = len_values bytes file corners plane h f.is_plane in
    let fifth = lens_values bytes file corners 3 corner h f.is_corner ∙ thrice in
    ap₂ (λ n l. n ∷ l) first (ap₂ (λ n l. n ∷ l) second (ap₂ (λ n l. n ∷ l) third (ap₂ (λ n l. n ∷ l) fourth (ap (λ n. n ∷ []) fifth))))

some_pieces : (pieces : ℕ) (l : List ℕ) → (pieces == 0) ≡ false → (if pieces == 0 then [] else l) ≡ l
some_pieces pieces l h = ap (λ b. if b then [] else l) h

five_ok : (file : NcFile) (faces_a faces_b pieces : ℕ) (v : OverlapVars) → IsFaceCount faces_a → IsFaceCount faces_b → pieces ≤ 8388608 → (pieces == 0) ≡ false → five_in file faces_a faces_b pieces ≡ Ok v → AreOverlapVars file v
unfolding five_in
five_ok file faces_a faces_b pieces v few_a few_b few some h =
    let made : ℕ → ℕ → ℕ → ℕ × ℕ → ℕ → OverlapVars = λ a b c d e. record { faces_a = faces_a; faces_b = faces_b; pieces = pieces; corners = d.1; vars = a ∷ b ∷ c ∷ d.0 ∷ e ∷ [] } in
    let p = value_ok (column_in file Int pieces Source) (λ a. column_in file Int pieces Target >>= λ b. column_in file Int pieces RingSize >>= λ c. planes_in file >>= λ d. corner_in file d.1 >>= λ e. Ok (made a b c d e)) v h in
    let q = value_ok (column_in file Int pieces Target) (λ b. column_in file Int pieces RingSize >>= λ c. planes_in file >>= λ d. corner_in file d.1 >>= λ e. Ok (made p.0 b c d e)) v p.2 in
    let r = value_ok (column_in file Int pieces RingSize) (λ c. planes_in file >>= λ d. corner_in file d.1 >>= λ e. Ok (made p.0 q.0 c d e)) v q.2 in
    let s = value_ok (planes_in file) (λ d. corner_in file d.1 >>= λ e. Ok (made p.0 q.0 r.0 d e)) v r.2 in
    let t = value_ok (corner_in file (s.0).1) (λ e. Ok (made p.0 q.0 r.0 s.0 e)) v s.2 in
    let five : AreFive file pieces (s.0).1 p.0 q.0 r.0 (s.0).0 t.0 = record {
      is_source = column_ok file Int pieces Source p.0 p.1;
      is_target = column_ok file Int pieces Target q.0 q.1;
      is_size = column_ok file Int pieces RingSize r.0 r.1;
      is_plane = planes_ok file s.0 s.1;
      is_corner = corner_ok file (s.0).1 t.0 t.1;
    } in
    let places = p.0 ∷ q.0 ∷ r.0 ∷ (s.0).0 ∷ t.0 ∷ [] in
    let all : All (IsSomeIntVar file) places = All-from_recursion (IsSomeIntVar file) places (
      (pieces ∷ [], five.is_source),
      ((pieces ∷ [], five.is_target), ((pieces ∷ [], five.is_size), (((s.0).1 ∷ [], five.is_plane), (((s.0).1 ∷ 3 ∷ [], five.is_corner), tt)))),
    ) in
    subst (λ (w : OverlapVars). AreOverlapVars file w) (ok_same (made p.0 q.0 r.0 s.0 t.0) v t.2)
    (record {
      source_faces = few_a;
      target_faces = few_b;
      pieces = few;
      vars = all;
      lens = λ bytes header. five_lens file pieces (s.0).1 p.0 q.0 r.0 (s.0).0 t.0 five bytes header ∙ sym (some_pieces pieces (pieces ∷ pieces ∷ pieces ∷ (s.0).1 ∷ 3 * (s.0).1 ∷ []) some);
    })

none_ok : (file : NcFile) (faces_a faces_b : ℕ) → IsFaceCount faces_a → IsFaceCount faces_b → AreOverlapVars file (no_vars faces_a faces_b)
none_ok file faces_a faces_b few_a few_b = record {
  source_faces = few_a;
  target_faces = few_b;
  pieces = omega arith;
  vars = All-from_recursion (IsSomeIntVar file) [] tt;
  lens = λ bytes header. refl;
}

rest_ok : (file : NcFile) (faces_a faces_b pieces : ℕ) (v : OverlapVars) → IsFaceCount faces_a → IsFaceCount faces_b → pieces ≤ 8388608 → (b : Bool) → (pieces == 0) ≡ b
    → (if b then Ok (no_vars faces_a faces_b) else five_in file faces_a faces_b pieces) ≡ Ok v → AreOverlapVars file v
rest_ok file faces_a faces_b pieces v few_a few_b few true e h = subst (λ (w : OverlapVars). AreOverlapVars file w) (ok_same (no_vars faces_a faces_b) v h) (none_ok file faces_a faces_b few_a few_b)
rest_ok file faces_a faces_b pieces v few_a few_b few false e h = five_ok file faces_a faces_b pieces v few_a few_b few e h

pub overlap_vars_ok : (file : NcFile) (v : OverlapVars) → overlap_vars_in file ≡ Ok v → AreOverlapVars file v
unfolding overlap_vars_in
overlap_vars_ok file v h =
    let end : ℕ → ℕ → ℕ → Result OverlapVars NameFault = λ a b n. if n == 0 then Ok (no_vars a b) else five_in file a b n in
    let p = value_ok (count_in 1 1048576 file FacesA) (λ a. count_in 1 1048576 file FacesB >>= λ b. count_in 0 8388608 file Pieces >>= λ n. end a b n) v h in
    let q = value_ok (count_in 1 1048576 file FacesB) (λ b. count_in 0 8388608 file Pieces >>= λ n. end p.0 b n) v p.2 in
    let r = value_ok (count_in 0 8388608 file Pieces) (λ n. end p.0 q.0 n) v q.2 in
    let a = count_ok 1 1048576 file FacesA p.0 p.1 in
    let b = count_ok 1 1048576 file FacesB q.0 q.1 in
    let n = count_ok 0 8388608 file Pieces r.0 r.1 in
    rest_ok file p.0 q.0 r.0 v a b n.1 (r.0 == 0) refl r.2
