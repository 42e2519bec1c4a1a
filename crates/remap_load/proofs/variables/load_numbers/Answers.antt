use Rattle.std.proofs.Common.{◌≡◌, ◌∙◌, true, length, arith, subst, slice_get}
use Rattle.nc_format.specs.Numbers.{HasWholePieces}
use Rattle.nc_format.specs.declared.NcVar.{NcVar}
use Rattle.nc_format.proofs.Pieces.{header_has_pieces}
use Rattle.remap_load.specs.Pieces.{values_cost, bytes_at}
use Rattle.remap_load.specs.Loading.{ReadsAtMost}
use Rattle.remap_load.proofs.Costs.{of_it, is_there, one_there, at_place, cost_at_most, numbers_there, count_there, bytes_there}
use Rattle.remap_load.proofs.Reading.{asks_more, each_ok}
use Rattle.remap_load.proofs.variables.load_numbers.Goals as goal

pub variable-requires : goal.variable-requires
variable-requires g c = is_there (slice_get c.args.head.now.file.vars c.args.var) (λ v. g.N.Numbers.keeps v.kind ≡ true) c.requires.var

pub values_of-requires-clause-pieces : goal.values_of-requires-clause-pieces
values_of-requires-clause-pieces g c =
    let head = c.args.head.now in
    at_place (HasWholePieces head.len) head.file.vars c.args.var c.variable.result.now (header_has_pieces head.prefix head.len head.file c.requires.head.header) c.variable.ensures

pub values_of-requires-clause-kind : goal.values_of-requires-clause-kind
values_of-requires-clause-kind g c = of_it (slice_get c.args.head.now.file.vars c.args.var) c.variable.result.now (λ v. g.N.Numbers.keeps v.kind ≡ true) c.requires.var c.variable.ensures

pub returns-clause-values : goal.returns-clause-values
returns-clause-values g c =
    let file = c.args.head.now.file in
    let folder = (g.F.Files.seen c.args.files.now).folder in
    each_ok _ _ c.values_of.result (λ list h. numbers_there file c.args.var c.variable.result.now (g.N.Numbers.numbers list) folder c.args.name.now c.variable.ensures h) c.values_of.ensures.values

pub returns-clause-len : goal.returns-clause-len
returns-clause-len g c =
    each_ok _ _ c.values_of.result (λ list h. h ∙ count_there c.args.head.now.file c.args.var c.variable.result.now c.variable.ensures) c.values_of.ensures.len

pub returns-clause-reads : goal.returns-clause-reads
returns-clause-reads g c =
    let v = c.variable.result.now in
    asks_more (g.F.Files.seen c.args.files.now) (g.F.Files.seen c.values_of.new.files) (values_cost (length c.args.head.now.prefix) v) (bytes_at c.args.head.now.file c.args.var)
    (omega (arith, cost_at_most (length c.args.head.now.prefix) v v.parts, bytes_there c.args.head.now.file c.args.var v c.variable.ensures)) c.values_of.ensures.reads

pub returns-clause-first : goal.returns-clause-first
returns-clause-first g c = λ v h.
    subst (λ (w : NcVar). ReadsAtMost (g.F.Files.seen c.args.files.now) (g.F.Files.seen c.values_of.new.files) (values_cost (length c.args.head.now.prefix) w)) (one_there _ _ _ c.variable.ensures h) c.values_of.ensures.reads
