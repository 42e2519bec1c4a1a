-- Where a variable of one dimension is found, it has the type and the length.
use Rattle.std.proofs.Common.{◌≡◌, ℕ, [], ◌∷◌, Ok, subst}
use Rattle.nc_format.specs.declared.NcFile.{NcFile}
use Rattle.exodus_mesh.specs.declared.kinds.NumberKind.{NumberKind}
use Rattle.exodus_mesh.specs.declared.ids.NameId.{NameId}
use Rattle.exodus_mesh.specs.declared.ids.NameFault.TheVariants.{Missing}
use Rattle.exodus_mesh.specs.Names.{◌>>=◌, found_or}
use Rattle.exodus_mesh.specs.VarLens.{same_len, var_len, IsNumberVar}
use Rattle.exodus_mesh.specs.MeshNames.{place_of}
use Rattle.exodus_mesh.specs.Columns.{column_in}
use Rattle.exodus_mesh.proofs.NumberVars.{value_ok, ok_same, var_len_ok, same_ok}

pub column_ok : (file : NcFile) (kind : NumberKind) (pieces : ℕ) (id : NameId) (place : ℕ) → column_in file kind pieces id ≡ Ok place → IsNumberVar kind file (pieces ∷ []) place
unfolding column_in
column_ok file kind pieces id place h =
    let p = value_ok (found_or (Missing id) (place_of file id)) (λ at. var_len file kind id at >>= λ len. same_len id pieces len >>= λ same. Ok at) place h in
    let q = value_ok (var_len file kind id p.0) (λ len. same_len id pieces len >>= λ same. Ok p.0) place p.2 in
    let r = value_ok (same_len id pieces q.0) (λ same. Ok p.0) place q.2 in
    let len : q.0 ≡ pieces = (same_ok id pieces q.0 r.0 r.1).0 in
    subst (λ (k : ℕ). IsNumberVar kind file (pieces ∷ []) k) (ok_same p.0 place r.2) (subst (λ (n : ℕ). IsNumberVar kind file (n ∷ []) p.0) len (var_len_ok file kind id p.0 q.0 q.1))
