use Rattle.std.proofs.Common.{rules, ◌≡◌, ◌*◌, ◌-◌, ℕ, length, take, Option, Some, None, IsSomeAnd, slice_get, ap, sym, subst, ◌∙◌, arith}
use Rattle.nc_write.specs.Kinds.{size_of}
use Rattle.nc_format.specs.declared.NcVar.{NcVar}
use Rattle.field_files.specs.FieldShapes.{slices_of}
use Rattle.field_files.proofs.FoundFields.{field_place_ok}
use Rattle.field_files.proofs.FieldValues.{is_here, fitted_is, values_are}
use Rattle.field_files.proofs.shape.fit_field.Goals as goal

-- there is a variable at the place
some_var : (o : Option NcVar) (v : NcVar) → (let none : Option NcVar = None in none ≡ o) → o ≡ Some v → ⊥
some_var o v none there = absurd cc

pieces_are : (v : NcVar) (n_a slices told : ℕ) → v.parts * v.part ≡ told * n_a * size_of v.kind → slices ≡ told → v.parts * v.part ≡ slices * n_a * size_of v.kind
pieces_are v n_a slices told h same = h ∙ ap (λ (n : ℕ). n * n_a * size_of v.kind) (sym same)

pub returns-in_default-clause-over : goal.returns-in_default-clause-over
returns-in_default-clause-over c =
    let ok = field_place_ok c.args.file.now c.args.place c.requires.place in
    absurd (some_var (slice_get c.args.file.now.vars c.args.place) ok.var c.in_default.ensures ok.there)

pub overflow_sub-result : goal.overflow_sub-result
overflow_sub-result c =
    let dims : c.as_slice-dims.result.now ≡ c.args.file.now.dims = search rules in
    let ids : c.as_slice-ids.result.now ≡ c.in-Some.var.now.dims = search rules in
    let here =
    is_here c.args.file.now c.args.place c.args.n_a c.in-Some.var.now c.in-Some-trailing_count.trailing c.last_len-last.result c.len_before_last.result c.as_slice-dims.result.now c.as_slice-ids.result.now c.requires.header c.requires.place c.in-Some.ensures dims ids
    c.last_len-last.ensures c.len_before_last.ensures c.in-Some-trailing_count.ensures in
    omega (arith, here.slices.within, ap length ids)

pub slice_count-requires-clause-sources : goal.slice_count-requires-clause-sources
slice_count-requires-clause-sources c =
    let dims : c.as_slice-dims.result.now ≡ c.args.file.now.dims = search rules in
    let ids : c.as_slice-ids.result.now ≡ c.in-Some.var.now.dims = search rules in
    let here =
    is_here c.args.file.now c.args.place c.args.n_a c.in-Some.var.now c.in-Some-trailing_count.trailing c.last_len-last.result c.len_before_last.result c.as_slice-dims.result.now c.as_slice-ids.result.now c.requires.header c.requires.place c.in-Some.ensures dims ids
    c.last_len-last.ensures c.len_before_last.ensures c.in-Some-trailing_count.ensures in
    here.slices.sources

pub slice_count-requires-clause-short : goal.slice_count-requires-clause-short
slice_count-requires-clause-short c =
    let dims : c.as_slice-dims.result.now ≡ c.args.file.now.dims = search rules in
    let ids : c.as_slice-ids.result.now ≡ c.in-Some.var.now.dims = search rules in
    let here =
    is_here c.args.file.now c.args.place c.args.n_a c.in-Some.var.now c.in-Some-trailing_count.trailing c.last_len-last.result c.len_before_last.result c.as_slice-dims.result.now c.as_slice-ids.result.now c.requires.header c.requires.place c.in-Some.ensures dims ids
    c.last_len-last.ensures c.len_before_last.ensures c.in-Some-trailing_count.ensures in
    here.slices.short

pub slice_count-requires-clause-whole : goal.slice_count-requires-clause-whole
slice_count-requires-clause-whole c =
    let dims : c.as_slice-dims.result.now ≡ c.args.file.now.dims = search rules in
    let ids : c.as_slice-ids.result.now ≡ c.in-Some.var.now.dims = search rules in
    let here =
    is_here c.args.file.now c.args.place c.args.n_a c.in-Some.var.now c.in-Some-trailing_count.trailing c.last_len-last.result c.len_before_last.result c.as_slice-dims.result.now c.as_slice-ids.result.now c.requires.header c.requires.place c.in-Some.ensures dims ids
    c.last_len-last.ensures c.len_before_last.ensures c.in-Some-trailing_count.ensures in
    (_, here.slices.pieces)

pub returns-clause-over : goal.returns-clause-over
returns-clause-over c =
    let dims : c.as_slice-dims.result.now ≡ c.args.file.now.dims = search rules in
    let ids : c.as_slice-ids.result.now ≡ c.in-Some.var.now.dims = search rules in
    let here =
    is_here c.args.file.now c.args.place c.args.n_a c.in-Some.var.now c.in-Some-trailing_count.trailing c.last_len-last.result c.len_before_last.result c.as_slice-dims.result.now c.as_slice-ids.result.now c.requires.header c.requires.place c.in-Some.ensures dims ids
    c.last_len-last.ensures c.len_before_last.ensures c.in-Some-trailing_count.ensures in
    fitted_is c.args.file.now c.args.place c.args.n_a c.in-Some.var.now c.in-Some-trailing_count.trailing (length c.as_slice-ids.result.now) c.slice_count.result (sym c.in-Some.ensures) here.count (ap length ids) (c.slice_count.ensures.slices _ here.slices.pieces)

pub returns-clause-pieces : goal.returns-clause-pieces
returns-clause-pieces c =
    let dims : c.as_slice-dims.result.now ≡ c.args.file.now.dims = search rules in
    let ids : c.as_slice-ids.result.now ≡ c.in-Some.var.now.dims = search rules in
    let here =
    is_here c.args.file.now c.args.place c.args.n_a c.in-Some.var.now c.in-Some-trailing_count.trailing c.last_len-last.result c.len_before_last.result c.as_slice-dims.result.now c.as_slice-ids.result.now c.requires.header c.requires.place c.in-Some.ensures dims ids
    c.last_len-last.ensures c.len_before_last.ensures c.in-Some-trailing_count.ensures in
    let whole = pieces_are c.in-Some.var.now c.args.n_a c.slice_count.result (slices_of c.args.file.now (take (length c.in-Some.var.now.dims - c.in-Some-trailing_count.trailing) c.in-Some.var.now.dims)) here.slices.pieces (c.slice_count.ensures.slices _ here.slices.pieces) in
    let there : Some c.in-Some.var.now ≡ slice_get c.args.file.now.vars c.args.place = c.in-Some.ensures in
    subst (λ (o : Option NcVar). IsSomeAnd o (λ v. v.parts * v.part ≡ c.slice_count.result * c.args.n_a * size_of v.kind)) there whole

pub returns-clause-values : goal.returns-clause-values
returns-clause-values c =
    let dims : c.as_slice-dims.result.now ≡ c.args.file.now.dims = search rules in
    let ids : c.as_slice-ids.result.now ≡ c.in-Some.var.now.dims = search rules in
    let here =
    is_here c.args.file.now c.args.place c.args.n_a c.in-Some.var.now c.in-Some-trailing_count.trailing c.last_len-last.result c.len_before_last.result c.as_slice-dims.result.now c.as_slice-ids.result.now c.requires.header c.requires.place c.in-Some.ensures dims ids
    c.last_len-last.ensures c.len_before_last.ensures c.in-Some-trailing_count.ensures in
    let whole = pieces_are c.in-Some.var.now c.args.n_a c.slice_count.result (slices_of c.args.file.now (take (length c.in-Some.var.now.dims - c.in-Some-trailing_count.trailing) c.in-Some.var.now.dims)) here.slices.pieces (c.slice_count.ensures.slices _ here.slices.pieces) in
    values_are c.args.file.now c.args.place (c.slice_count.result * c.args.n_a) c.in-Some.var.now (sym c.in-Some.ensures) whole

pub returns-clause-fits : goal.returns-clause-fits
returns-clause-fits c = record { place = c.requires.place; over = sym (returns-clause-over c) }
