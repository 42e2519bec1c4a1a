use Rattle.std.proofs.Common.{◌≡◌, ◌∙◌, ◌%◌, true, ap, sym, subst, length, slice_get, Some, Option}
use Rattle.nc_write.specs.Kinds.{size_of}
use Rattle.nc_format.specs.declared.NcVar.{NcVar}
use Rattle.nc_format.specs.Numbers.{is_int, numbers_in}
use Rattle.exodus_mesh.specs.MeshIn.{numbers_of_var}
use Rattle.exodus_mesh.proofs.VarValues.{has_pieces, whole_bytes}
use Rattle.field_files.proofs.FoundFields.{field_place_ok}
use Rattle.field_files.proofs.reading.read_values.Goals as goal

same_kind : (o : Option NcVar) (v w : NcVar) → o ≡ Some v → o ≡ Some w → is_int v.kind ≡ true → is_int w.kind ≡ true
same_kind o v w one two h = let same : v ≡ w = cc in subst (λ (x : NcVar). is_int x.kind ≡ true) same h

pub gather-requires : goal.gather-requires
gather-requires c = has_pieces c.args.bytes.now c.args.file.now c.args.place c.in-Some.var.now c.requires.header (sym c.in-Some.ensures)

pub int_values-requires-clause-kind : goal.int_values-requires-clause-kind
int_values-requires-clause-kind c =
    let ok = field_place_ok c.args.file.now c.args.place c.requires.place in
    same_kind (slice_get c.args.file.now.vars c.args.place) ok.var c.in-Some.var.now ok.there (sym c.in-Some.ensures) ok.whole

pub int_values-requires-clause-len : goal.int_values-requires-clause-len
int_values-requires-clause-len c =
    let bytes : c.deref.result.now ≡ c.in_ok-spelled.spelled.items = c.deref.ensures.value in
    ap (λ l. length l % size_of c.in-Some.var.now.kind) (bytes ∙ c.in_ok-spelled.ensures.pieces)
    ∙ whole_bytes c.args.bytes.now c.args.file.now c.args.place c.in-Some.var.now c.requires.header (sym c.in-Some.ensures)

pub returns : goal.returns
returns c =
    let there : slice_get c.args.file.now.vars c.args.place ≡ Some c.in-Some.var.now = sym c.in-Some.ensures in
    let bytes : c.deref.result.now ≡ c.in_ok-spelled.spelled.items = c.deref.ensures.value in
    c.in_ok-items.ensures
    ∙ ap (λ l. numbers_in c.in-Some.var.now.kind l) (bytes ∙ c.in_ok-spelled.ensures.pieces)
    ∙ sym (ap (λ (o : Option NcVar). numbers_of_var c.args.bytes.now o) there)
