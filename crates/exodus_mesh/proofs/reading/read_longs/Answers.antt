use Rattle.std.proofs.Common.{◌≡◌, ◌∙◌, ◌%◌, ap, sym, length, slice_get, Some, Option}
use Rattle.nc_write.specs.Kinds.{size_of}
use Rattle.nc_format.specs.declared.NcVar.{NcVar}
use Rattle.nc_format.specs.Numbers.{numbers_in}
use Rattle.exodus_mesh.specs.MeshIn.{numbers_of_var}
use Rattle.exodus_mesh.proofs.VarValues.{has_pieces, whole_bytes}
use Rattle.exodus_mesh.proofs.reading.read_longs.Goals as goal

pub gather-requires : goal.gather-requires
gather-requires c =
    let there : slice_get c.args.file.now.vars c.args.place ≡ Some c.in-Some.var.now = sym c.in-Some.ensures in
    has_pieces c.args.bytes.now c.args.file.now c.args.place c.in-Some.var.now c.requires.header there

pub long_values-requires-clause-len : goal.long_values-requires-clause-len
long_values-requires-clause-len c =
    let there : slice_get c.args.file.now.vars c.args.place ≡ Some c.in-Some.var.now = sym c.in-Some.ensures in
    let bytes : c.deref.result.now ≡ c.in_ok-spelled.spelled.items = c.deref.ensures.value in
    ap (λ l. length l % size_of c.in-Some.var.now.kind) (bytes ∙ c.in_ok-spelled.ensures.pieces)
    ∙ whole_bytes c.args.bytes.now c.args.file.now c.args.place c.in-Some.var.now c.requires.header there

pub returns : goal.returns
returns c =
    let there : slice_get c.args.file.now.vars c.args.place ≡ Some c.in-Some.var.now = sym c.in-Some.ensures in
    let bytes : c.deref.result.now ≡ c.in_ok-spelled.spelled.items = c.deref.ensures.value in
    c.in_ok-items.ensures
    ∙ ap (λ l. numbers_in c.in-Some.var.now.kind l) (bytes ∙ c.in_ok-spelled.ensures.pieces)
    ∙ sym (ap (λ (o : Option NcVar). numbers_of_var c.args.bytes.now o) there)
