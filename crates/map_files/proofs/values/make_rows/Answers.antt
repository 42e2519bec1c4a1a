use Rattle.std.proofs.Common.{◌++◌, ◌∷◌, [], ◌∙◌, ap₂, sym, arith, List}
use Rattle.std.proofs.lemmas.List.FromFn.{map-range_with_len_more}
use Rattle.map_rows.specs.declared.rows.MapRow.{MapRow}
use Rattle.map_files.specs.MapValues.{map_row_at}
use Rattle.map_files.proofs.values.make_rows.Goals as goal

pub loop-number-preserved : goal.loop-number-preserved
loop-number-preserved c =
    let r = c.loop-number.number in
    c.in_ok-push.ensures.items
    ∙ ap₂ (λ (l : List MapRow) (q : MapRow). l ++ q ∷ []) c.loop-number.invariant c.row_at.ensures
    ∙ sym (map-range_with_len_more (map_row_at (record { col = c.args.col.now; row = c.args.row.now; s = c.args.s.now })) 0 r r (omega arith))
