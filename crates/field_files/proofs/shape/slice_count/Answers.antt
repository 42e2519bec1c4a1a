use Rattle.std.proofs.Common.{ℕ, ◌/◌, ◌*◌, ◌∙◌, ap₂}
use Rattle.nc_write.specs.Kinds.{size_of}
use Rattle.field_files.proofs.FieldValues.{slices_are}
use Rattle.field_files.proofs.SomeBytes.{some_bytes}
use Rattle.field_files.proofs.shape.slice_count.Goals as goal

pub returns-clause-slices : goal.returns-clause-slices
returns-clause-slices c = λ slices h.
    let v = c.args.var.now in
    ap₂ (λ (a b : ℕ). a / b) c.value_count.ensures c.from.ensures
    ∙ slices_are (v.parts * v.part) (size_of v.kind) c.args.n_a slices (some_bytes v.kind) c.requires.sources h
