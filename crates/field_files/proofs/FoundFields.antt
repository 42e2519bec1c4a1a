-- What find_field finds.
use Rattle.std.proofs.Common.{◌≡◌, ℕ, ◌<◌, Bool, true, false, nat_lt, ◌&&◌, if◌then◌else◌, List, Some, Ok, Err, slice_get, get_or, refl, ap, sym, subst, ◌∙◌}
use Rattle.std.proofs.lemmas.Bool.{ltb-true}
use Rattle.std.specs.Str.{bytes_eq}
use Rattle.std.proofs.lemmas.Option.{get_or_from_slice_get}
use Rattle.std.proofs.lemmas.List.Quantifiers.{position-Some}
use Rattle.std.proofs.lemmas.Slice.Eq.{bytes_eq-Decides}
use Rattle.nc_write.specs.Extents.{lens_of}
use Rattle.nc_format.specs.declared.NcFile.{NcFile}
use Rattle.nc_format.specs.declared.NcVar.{NcVar}
use Rattle.nc_format.specs.Numbers.{is_int, var_named}
use Rattle.exodus_mesh.specs.declared.kinds.NumberKind.TheVariants.{Int}
use Rattle.exodus_mesh.specs.declared.ids.NameId.TheVariants.{Var}
use Rattle.exodus_mesh.specs.declared.ids.NameFault.TheVariants.{Missing, Shape, Kind}
use Rattle.exodus_mesh.specs.Names.{◌>>=◌, found_or}
use Rattle.exodus_mesh.specs.VarLens.{is_of, if_of}
use Rattle.exodus_mesh.proofs.NumberVars.{value_ok, found_ok, if_ok}
use Rattle.field_files.specs.FileHeader.{dims_of, dims_at}
use Rattle.field_files.specs.FieldNames.{last_len, has_field_shape, field_var, IsFieldPlace}

-- a variable of whole numbers whose last dimension is not the record dimension
pub record IsFieldVar (file : NcFile) (place : ℕ) : Type 0 where
  pub var : NcVar
  pub there : slice_get file.vars place ≡ Some var
  pub whole : is_int var.kind ≡ true
  pub last : 0 < last_len (lens_of file.dims) (dims_at file place)

both_true : (a b : Bool) → (a && b) ≡ true → a ≡ true
both_true true b h = refl
both_true false b h = absurd cc

pub field_place_ok : (file : NcFile) (place : ℕ) → IsFieldPlace file place → IsFieldVar file place
unfolding field_var
field_place_ok file place found =
    let name = found.0 in
    let p = value_ok (found_or (Missing Var) (var_named file.vars name)) (λ at. found_or (Missing Var) (slice_get file.vars at) >>= λ v. if_of Int Var v >>= λ good. if has_field_shape file.dims good.dims then Ok at else Err (Shape Var)) place found.1 in
    let q = value_ok (found_or (Missing Var) (slice_get file.vars p.0)) (λ v. if_of Int Var v >>= λ good. if has_field_shape file.dims good.dims then Ok p.0 else Err (Shape Var)) place p.2 in
    let r = value_ok (if_of Int Var q.0) (λ good. if has_field_shape file.dims good.dims then Ok p.0 else Err (Shape Var)) place q.2 in
    let kind = if_ok (is_of Int (q.0).kind) q.0 r.0 (Kind Var) r.1 in
    let shape = if_ok (has_field_shape file.dims (r.0).dims) p.0 place (Shape Var) r.2 in
    let there : slice_get file.vars place ≡ Some r.0 = ap (slice_get file.vars) (sym shape.1) ∙ found_ok (Missing Var) (slice_get file.vars p.0) q.0 q.1 ∙ ap (λ (v : NcVar). Some v) kind.1 in
    let some : nat_lt 0 (last_len (lens_of file.dims) (r.0).dims) ≡ true = both_true _ _ shape.0 in
    let dims : (r.0).dims ≡ dims_at file place = ap dims_of (sym there) in
    record {
      var = r.0;
      there = there;
      whole = ap (λ (v : NcVar). is_int v.kind) (sym kind.1) ∙ kind.0;
      last = subst (λ (ids : List ℕ). 0 < last_len (lens_of file.dims) ids) dims (ltb-true 0 (last_len (lens_of file.dims) (r.0).dims) some);
    }

-- the variable that is found has the name
pub record HasName (file : NcFile) (name : List ℕ) (place : ℕ) : Type 0 where
  pub var : NcVar
  pub there : slice_get file.vars place ≡ Some var
  pub same : var.name ≡ name

pub field_named : (file : NcFile) (name : List ℕ) (place : ℕ) → field_var file name ≡ Ok place → HasName file name place
unfolding field_var
field_named file name place h =
    let p = value_ok (found_or (Missing Var) (var_named file.vars name)) (λ at. found_or (Missing Var) (slice_get file.vars at) >>= λ v. if_of Int Var v >>= λ good. if has_field_shape file.dims good.dims then Ok at else Err (Shape Var)) place h in
    let q = value_ok (found_or (Missing Var) (slice_get file.vars p.0)) (λ v. if_of Int Var v >>= λ good. if has_field_shape file.dims good.dims then Ok p.0 else Err (Shape Var)) place p.2 in
    let r = value_ok (if_of Int Var q.0) (λ good. if has_field_shape file.dims good.dims then Ok p.0 else Err (Shape Var)) place q.2 in
    let shape = if_ok (has_field_shape file.dims (r.0).dims) p.0 place (Shape Var) r.2 in
    let first : var_named file.vars name ≡ Some place = found_ok (Missing Var) (var_named file.vars name) p.0 p.1 ∙ ap (λ (n : ℕ). Some n) shape.1 in
    let there : slice_get file.vars place ≡ Some q.0 = ap (slice_get file.vars) (sym shape.1) ∙ found_ok (Missing Var) (slice_get file.vars p.0) q.0 q.1 in
    let passes = position-Some (λ (v : NcVar). bytes_eq v.name name) file.vars place q.0 first in
    let here : get_or file.vars place q.0 ≡ q.0 = get_or_from_slice_get file.vars place q.0 q.0 there in
    record { var = q.0; there = there; same = bytes_same (q.0).name name (ap (λ (v : NcVar). bytes_eq v.name name) (sym here) ∙ passes.1) }
  where
    bytes_same : (a b : List ℕ) → bytes_eq a b ≡ true → a ≡ b
    bytes_same a b same = (bytes_eq-Decides a b).0 same
