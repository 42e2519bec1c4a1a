-- Where the variables of a map are found, the counts are within their limits, and each has the type and the length that a map has.
use Rattle.std.proofs.Common.{◌≡◌, ◌≤◌, ◌≢◌, ℕ, nat_le, if◌then◌else◌, [], ◌∷◌, length, Ok, Err, refl, subst, arith, slice_index}
use Rattle.std.proofs.lemmas.Bool.{leb-true}
use Rattle.std.proofs.lemmas.List.Elements.{All-head}
use Rattle.map_rows.specs.Maps.{IsFaceCount}
use Rattle.nc_format.specs.declared.NcFile.{NcFile}
use Rattle.exodus_mesh.specs.declared.kinds.NumberKind.{NumberKind}
use Rattle.exodus_mesh.specs.declared.kinds.NumberKind.TheVariants.{Int, Long}
use Rattle.exodus_mesh.specs.declared.ids.NameId.{NameId}
use Rattle.exodus_mesh.specs.declared.ids.NameId.TheVariants.{Col, Row, S, AreaA, AreaB}
use Rattle.exodus_mesh.specs.declared.ids.NameFault.TheVariants.{Missing, Shape}
use Rattle.exodus_mesh.specs.Names.{◌>>=◌, found_or}
use Rattle.exodus_mesh.specs.VarLens.{var_len, IsNumberVar}
use Rattle.exodus_mesh.specs.MeshNames.{place_of}
use Rattle.exodus_mesh.proofs.NumberVars.{value_ok, ok_same, if_ok, var_len_ok}
use Rattle.map_files.specs.declared.vars.MapVars.{MapVars}
use Rattle.exodus_mesh.specs.Columns.{column_in}
use Rattle.map_files.specs.MapNames.{list_in, map_vars_in}
use Rattle.exodus_mesh.proofs.FoundColumns.{column_ok}

-- a variable that is found has numbers, and not more than so many
record IsList (file : NcFile) (kind : NumberKind) (most : ℕ) (both : ℕ × ℕ) : Type 0 where
  pub var : IsNumberVar kind file (both.1 ∷ []) both.0
  pub most_is : both.1 ≤ most

list_ok : (file : NcFile) (kind : NumberKind) (most : ℕ) (id : NameId) (both : ℕ × ℕ) → list_in file kind most id ≡ Ok both → IsList file kind most both
unfolding list_in
list_ok file kind most id both h =
    let p = value_ok (found_or (Missing id) (place_of file id)) (λ place. var_len file kind id place >>= λ len. if nat_le len most then Ok (place, len) else Err (Shape id)) both h in
    let q = value_ok (var_len file kind id p.0) (λ len. if nat_le len most then Ok (p.0, len) else Err (Shape id)) both p.2 in
    let pair : ℕ × ℕ = (p.0, q.0) in
    let r = if_ok (nat_le q.0 most) pair both (Shape id) q.2 in
    subst (λ (b : ℕ × ℕ). IsList file kind most b) r.1 (record { var = var_len_ok file kind id p.0 q.0 q.1; most_is = leb-true q.0 most r.0 })

some_len : {kind : NumberKind} (file : NcFile) (n place : ℕ) → IsNumberVar kind file (n ∷ []) place → 1 ≤ n
some_len file n place i = let ne : n ≢ 0 = All-head (λ m. m ≢ 0) n [] i.fixed in omega arith

-- what the counts and the variables of a map are
pub record AreMapVars (file : NcFile) (v : MapVars) : Type 0 where
  pub source_faces : IsFaceCount v.n_a
  pub target_faces : IsFaceCount v.n_b
  pub rows : v.n_s ≤ 8388608
  pub five : length v.vars ≡ 5
  pub col : IsNumberVar Int file (v.n_s ∷ []) (slice_index v.vars 0)
  pub row : IsNumberVar Int file (v.n_s ∷ []) (slice_index v.vars 1)
  pub s : IsNumberVar Long file (v.n_s ∷ []) (slice_index v.vars 2)
  pub area_a : IsNumberVar Long file (v.n_a ∷ []) (slice_index v.vars 3)
  pub area_b : IsNumberVar Long file (v.n_b ∷ []) (slice_index v.vars 4)

pub map_vars_ok : (file : NcFile) (v : MapVars) → map_vars_in file ≡ Ok v → AreMapVars file v
unfolding map_vars_in
map_vars_ok file v h =
    let made : ℕ × ℕ → ℕ → ℕ → ℕ × ℕ → ℕ × ℕ → MapVars = λ a b c d e. record { n_a = d.1; n_b = e.1; n_s = a.1; vars = a.0 ∷ b ∷ c ∷ d.0 ∷ e.0 ∷ [] } in
    let p = value_ok (list_in file Int 8388608 Col) (λ a. column_in file Int a.1 Row >>= λ b. column_in file Long a.1 S >>= λ c. list_in file Long 1048576 AreaA >>= λ d. list_in file Long 1048576 AreaB >>= λ e. Ok (made a b c d e)) v h in
    let q = value_ok (column_in file Int (p.0).1 Row) (λ b. column_in file Long (p.0).1 S >>= λ c. list_in file Long 1048576 AreaA >>= λ d. list_in file Long 1048576 AreaB >>= λ e. Ok (made p.0 b c d e)) v p.2 in
    let r = value_ok (column_in file Long (p.0).1 S) (λ c. list_in file Long 1048576 AreaA >>= λ d. list_in file Long 1048576 AreaB >>= λ e. Ok (made p.0 q.0 c d e)) v q.2 in
    let s = value_ok (list_in file Long 1048576 AreaA) (λ d. list_in file Long 1048576 AreaB >>= λ e. Ok (made p.0 q.0 r.0 d e)) v r.2 in
    let t = value_ok (list_in file Long 1048576 AreaB) (λ e. Ok (made p.0 q.0 r.0 s.0 e)) v s.2 in
    let col = list_ok file Int 8388608 Col p.0 p.1 in
    let area_a = list_ok file Long 1048576 AreaA s.0 s.1 in
    let area_b = list_ok file Long 1048576 AreaB t.0 t.1 in
    subst (λ (w : MapVars). AreMapVars file w) (ok_same (made p.0 q.0 r.0 s.0 t.0) v t.2)
    (record {
      source_faces = (some_len file (s.0).1 (s.0).0 area_a.var, area_a.most_is);
      target_faces = (some_len file (t.0).1 (t.0).0 area_b.var, area_b.most_is);
      rows = col.most_is;
      five = refl;
      col = col.var;
      row = column_ok file Int (p.0).1 Row q.0 q.1;
      s = column_ok file Long (p.0).1 S r.0 r.1;
      area_a = area_a.var;
      area_b = area_b.var;
    })
