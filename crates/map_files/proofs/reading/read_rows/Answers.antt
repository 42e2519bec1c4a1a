use Rattle.std.proofs.Common.{[], ◌∷◌, sym, subst, arith}
use Rattle.exodus_mesh.specs.declared.kinds.NumberKind.TheVariants.{Int, Long}
use Rattle.exodus_mesh.specs.VarLens.{IsNumberVar}
use Rattle.map_files.proofs.FoundMap.{map_vars_ok}
use Rattle.map_files.proofs.reading.read_rows.Goals as goal

pub place-requires : goal.place-requires
place-requires c = omega (arith, (map_vars_ok c.args.file.now c.args.vars.now c.requires.found).five)

pub read_ints-requires-clause-var : goal.read_ints-requires-clause-var
read_ints-requires-clause-var c =
    let v = c.args.vars.now in
    (v.n_s ∷ [], subst (IsNumberVar Int c.args.file.now (v.n_s ∷ [])) (sym c.place.ensures) (map_vars_ok c.args.file.now v c.requires.found).col)

pub place-requires-2 : goal.place-requires-2
place-requires-2 c = omega (arith, (map_vars_ok c.args.file.now c.args.vars.now c.requires.found).five)

pub read_ints-requires-2-clause-var : goal.read_ints-requires-2-clause-var
read_ints-requires-2-clause-var c =
    let v = c.args.vars.now in
    (v.n_s ∷ [], subst (IsNumberVar Int c.args.file.now (v.n_s ∷ [])) (sym c.place-2.ensures) (map_vars_ok c.args.file.now v c.requires.found).row)

pub place-requires-3 : goal.place-requires-3
place-requires-3 c = omega (arith, (map_vars_ok c.args.file.now c.args.vars.now c.requires.found).five)

pub read_longs-requires-clause-var : goal.read_longs-requires-clause-var
read_longs-requires-clause-var c =
    let v = c.args.vars.now in
    (v.n_s ∷ [], subst (IsNumberVar Long c.args.file.now (v.n_s ∷ [])) (sym c.place-3.ensures) (map_vars_ok c.args.file.now v c.requires.found).s)
