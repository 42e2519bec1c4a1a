use Rattle.std.proofs.Common.{◌≡◌, ℕ, List, Option, Result, Ok, Err, IfOk, true, IsSomeAnd, slice_get, sym, subst}
use Rattle.nc_format.specs.declared.NcVar.{NcVar}
use Rattle.nc_format.specs.declared.NcFile.{NcFile}
use Rattle.nc_format.specs.Numbers.{is_int}
use Rattle.exodus_mesh.specs.declared.ids.NameFault.{NameFault}
use Rattle.field_files.specs.FieldNames.{field_var, IsFieldPlace}
use Rattle.field_files.proofs.FoundFields.{field_place_ok, field_named}
use Rattle.field_files.proofs.finding.find_field.Goals as goal

found_place : (file : NcFile) (name : List ℕ) (r : Result ℕ NameFault) → r ≡ field_var file name → IfOk r (IsFieldPlace file)
found_place file name (Ok place) h = (name, sym h)
found_place file name (Err fault) h = tt

found_named : (file : NcFile) (name : List ℕ) (r : Result ℕ NameFault) → r ≡ field_var file name → IfOk r (λ place. IsSomeAnd (slice_get file.vars place) (λ v. v.name ≡ name))
found_named file name (Ok place) h = let n = field_named file name place (sym h) in subst (λ (o : Option NcVar). IsSomeAnd o (λ v. v.name ≡ name)) (sym n.there) n.same
found_named file name (Err fault) h = tt

found_whole : (file : NcFile) (name : List ℕ) (r : Result ℕ NameFault) → r ≡ field_var file name → IfOk r (λ place. IsSomeAnd (slice_get file.vars place) (λ v. is_int v.kind ≡ true))
found_whole file name (Ok place) h = let f = field_place_ok file place (name, sym h) in subst (λ (o : Option NcVar). IsSomeAnd o (λ v. is_int v.kind ≡ true)) (sym f.there) f.whole
found_whole file name (Err fault) h = tt

pub returns-clause-place : goal.returns-clause-place
returns-clause-place c = found_place c.args.file.now c.args.name.now c.find_place.result c.find_place.ensures

pub returns-clause-named : goal.returns-clause-named
returns-clause-named c = found_named c.args.file.now c.args.name.now c.find_place.result c.find_place.ensures

pub returns-clause-whole : goal.returns-clause-whole
returns-clause-whole c = found_whole c.args.file.now c.args.name.now c.find_place.result c.find_place.ensures
