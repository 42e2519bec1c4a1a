use Rattle.std.proofs.Common.{◌∙◌, arith}
use Rattle.exodus_mesh.specs.declared.kinds.NumberKind.TheVariants.{Int, Long}
use Rattle.map_files.proofs.FoundMap.{map_vars_ok}
use Rattle.map_load.specs.declared.values.MapNumbers.{MapNumbers}
use Rattle.map_load.proofs.Loaded.{has_kind, count_of_head, first_reads, second_reads, third_reads, fourth_reads, all_reads, values_are}
use Rattle.map_load.proofs.values.load_values.Goals as goal

pub load_variable-requires-clause-kind : goal.load_variable-requires-clause-kind
load_variable-requires-clause-kind g c = has_kind Int c.args.head.now.file c.args.vars.now.n_s _ (map_vars_ok c.args.head.now.file c.args.vars.now c.requires.found).col

pub load_variable-requires-2-clause-kind : goal.load_variable-requires-2-clause-kind
load_variable-requires-2-clause-kind g c = has_kind Int c.args.head.now.file c.args.vars.now.n_s _ (map_vars_ok c.args.head.now.file c.args.vars.now c.requires.found).row

pub load_variable-requires-3-clause-kind : goal.load_variable-requires-3-clause-kind
load_variable-requires-3-clause-kind g c = has_kind Long c.args.head.now.file c.args.vars.now.n_s _ (map_vars_ok c.args.head.now.file c.args.vars.now c.requires.found).s

pub load_variable-requires-4-clause-kind : goal.load_variable-requires-4-clause-kind
load_variable-requires-4-clause-kind g c = has_kind Long c.args.head.now.file c.args.vars.now.n_a _ (map_vars_ok c.args.head.now.file c.args.vars.now c.requires.found).area_a

pub load_variable-requires-5-clause-kind : goal.load_variable-requires-5-clause-kind
load_variable-requires-5-clause-kind g c = has_kind Long c.args.head.now.file c.args.vars.now.n_b _ (map_vars_ok c.args.head.now.file c.args.vars.now c.requires.found).area_b

pub returns-in_err-col-clause-reads : goal.returns-in_err-col-clause-reads
returns-in_err-col-clause-reads g c =
    first_reads c.args.head.now.file c.args.vars.now (g.F.Files.seen c.args.files.now) (g.F.Files.seen c.load_variable.new.files) ((map_vars_ok c.args.head.now.file c.args.vars.now c.requires.found).five) c.load_variable.ensures.reads

pub returns-in_err-row-clause-reads : goal.returns-in_err-row-clause-reads
returns-in_err-row-clause-reads g c =
    second_reads c.args.head.now.file c.args.vars.now (g.F.Files.seen c.args.files.now) (g.F.Files.seen c.load_variable.new.files) (g.F.Files.seen c.load_variable-2.new.files) ((map_vars_ok c.args.head.now.file c.args.vars.now c.requires.found).five) c.load_variable.ensures.reads c.load_variable-2.ensures.reads

pub returns-in_err-s-clause-reads : goal.returns-in_err-s-clause-reads
returns-in_err-s-clause-reads g c =
    third_reads c.args.head.now.file c.args.vars.now (g.F.Files.seen c.args.files.now) (g.F.Files.seen c.load_variable.new.files) (g.F.Files.seen c.load_variable-2.new.files) (g.F.Files.seen c.load_variable-3.new.files) ((map_vars_ok c.args.head.now.file c.args.vars.now c.requires.found).five) c.load_variable.ensures.reads c.load_variable-2.ensures.reads c.load_variable-3.ensures.reads

pub returns-in_err-area_a-clause-reads : goal.returns-in_err-area_a-clause-reads
returns-in_err-area_a-clause-reads g c =
    fourth_reads c.args.head.now.file c.args.vars.now (g.F.Files.seen c.args.files.now) (g.F.Files.seen c.load_variable.new.files) (g.F.Files.seen c.load_variable-2.new.files) (g.F.Files.seen c.load_variable-3.new.files) (g.F.Files.seen c.load_variable-4.new.files) ((map_vars_ok c.args.head.now.file c.args.vars.now c.requires.found).five) c.load_variable.ensures.reads c.load_variable-2.ensures.reads c.load_variable-3.ensures.reads c.load_variable-4.ensures.reads

pub returns-in_err-area_b-clause-reads : goal.returns-in_err-area_b-clause-reads
returns-in_err-area_b-clause-reads g c =
    all_reads c.args.head.now.file c.args.vars.now (g.F.Files.seen c.args.files.now) (g.F.Files.seen c.load_variable.new.files) (g.F.Files.seen c.load_variable-2.new.files) (g.F.Files.seen c.load_variable-3.new.files) (g.F.Files.seen c.load_variable-4.new.files) (g.F.Files.seen c.load_variable-5.new.files) ((map_vars_ok c.args.head.now.file c.args.vars.now c.requires.found).five) c.load_variable.ensures.reads c.load_variable-2.ensures.reads c.load_variable-3.ensures.reads c.load_variable-4.ensures.reads c.load_variable-5.ensures.reads

pub returns-clause-reads : goal.returns-clause-reads
returns-clause-reads g c =
    all_reads c.args.head.now.file c.args.vars.now (g.F.Files.seen c.args.files.now) (g.F.Files.seen c.load_variable.new.files) (g.F.Files.seen c.load_variable-2.new.files) (g.F.Files.seen c.load_variable-3.new.files) (g.F.Files.seen c.load_variable-4.new.files) (g.F.Files.seen c.load_variable-5.new.files) ((map_vars_ok c.args.head.now.file c.args.vars.now c.requires.found).five) c.load_variable.ensures.reads c.load_variable-2.ensures.reads c.load_variable-3.ensures.reads c.load_variable-4.ensures.reads c.load_variable-5.ensures.reads

pub returns-clause-values : goal.returns-clause-values
returns-clause-values g c =
    let n : MapNumbers = record { col = c.in_ok-col.col; row = c.in_ok-row.row; s = c.in_ok-s.s; area_a = c.in_ok-area_a.area_a; area_b = c.in_ok-area_b.area_b } in
    values_are c.args.head.now.file c.args.vars.now c.args.name.now n (g.F.Files.seen c.args.files.now).folder (g.F.Files.seen c.load_variable.new.files).folder (g.F.Files.seen c.load_variable-2.new.files).folder (g.F.Files.seen c.load_variable-3.new.files).folder (g.F.Files.seen c.load_variable-4.new.files).folder c.load_variable.ensures.reads.reads.same_folder c.load_variable-2.ensures.reads.reads.same_folder c.load_variable-3.ensures.reads.reads.same_folder c.load_variable-4.ensures.reads.reads.same_folder c.in_ok-col.ensures.values c.in_ok-row.ensures.values c.in_ok-s.ensures.values c.in_ok-area_a.ensures.values c.in_ok-area_b.ensures.values

pub returns-clause-lens : goal.returns-clause-lens
returns-clause-lens g c =
    let head = c.args.head.now in
    let are = map_vars_ok head.file c.args.vars.now c.requires.found in
    record {
      col = c.in_ok-col.ensures.len ∙ count_of_head Int head c.args.vars.now.n_s _ c.requires.head are.col;
      row = c.in_ok-row.ensures.len ∙ count_of_head Int head c.args.vars.now.n_s _ c.requires.head are.row;
      s = c.in_ok-s.ensures.len ∙ count_of_head Long head c.args.vars.now.n_s _ c.requires.head are.s;
      area_a = c.in_ok-area_a.ensures.len ∙ count_of_head Long head c.args.vars.now.n_a _ c.requires.head are.area_a;
      area_b = c.in_ok-area_b.ensures.len ∙ count_of_head Long head c.args.vars.now.n_b _ c.requires.head are.area_b;
    }

pub load_variable-requires-clause-within : goal.load_variable-requires-clause-within
load_variable-requires-clause-within g c = omega (arith, (map_vars_ok c.args.head.now.file c.args.vars.now c.requires.found).five)

pub load_variable-requires-2-clause-within : goal.load_variable-requires-2-clause-within
load_variable-requires-2-clause-within g c = omega (arith, (map_vars_ok c.args.head.now.file c.args.vars.now c.requires.found).five)

pub load_variable-requires-3-clause-within : goal.load_variable-requires-3-clause-within
load_variable-requires-3-clause-within g c = omega (arith, (map_vars_ok c.args.head.now.file c.args.vars.now c.requires.found).five)

pub load_variable-requires-4-clause-within : goal.load_variable-requires-4-clause-within
load_variable-requires-4-clause-within g c = omega (arith, (map_vars_ok c.args.head.now.file c.args.vars.now c.requires.found).five)

pub load_variable-requires-5-clause-within : goal.load_variable-requires-5-clause-within
load_variable-requires-5-clause-within g c = omega (arith, (map_vars_ok c.args.head.now.file c.args.vars.now c.requires.found).five)
