-- A variable that fits a map has a value for each source of each slice.
use Rattle.std.proofs.Common.{◌≡◌, ◌∙◌, ◌*◌, ◌/◌, ℕ, Option, None, Some, IsSomeAnd, slice_get, ap, subst}
use Rattle.std.proofs.Math.Nat.{mul-div_cancel}
use Rattle.map_rows.specs.Maps.{MapParts}
use Rattle.nc_write.specs.Kinds.{size_of}
use Rattle.nc_format.specs.declared.NcVar.{NcVar}
use Rattle.field_files.specs.declared.FieldVar.{FieldVar}
use Rattle.field_files.specs.FieldShapes.{Fits}
use Rattle.field_files.proofs.SomeBytes.{some_bytes}
use Rattle.remap_load.specs.Pieces.{count_of}
use Rattle.data_load.specs.declared.DataVar.{DataVar}
use Rattle.data_load.specs.DataFile.{IsDataVar}
use Rattle.tempest_top.specs.Fields.{LiesOver}

counts_of : (o : Option NcVar) (n : ℕ) → IsSomeAnd o (λ v. v.parts * v.part ≡ n * size_of v.kind) → count_of o ≡ n
counts_of None n h = absurd h
counts_of (Some v) n h = ap (λ (k : ℕ). k / size_of v.kind) h ∙ mul-div_cancel n (some_bytes v.kind)

pub lies_over : (m : MapParts) (n_a : ℕ) (found : DataVar) (field : FieldVar) → n_a ≡ m.n_a → IsDataVar found → Fits found.file n_a field → IsSomeAnd (slice_get found.file.vars found.var) (λ v. v.parts * v.part ≡ field.slices * n_a * size_of v.kind) → LiesOver m found field
lies_over m n_a found field same sound fits pieces = record {
  sound = sound;
  fits = subst (λ (k : ℕ). Fits found.file k field) same fits;
  counts = sound.count ∙ counts_of (slice_get found.file.vars found.var) (field.slices * n_a) pieces ∙ ap (λ (k : ℕ). field.slices * k) same;
}
