use Rattle.std.proofs.Common.{◌≡◌, ◌∙◌, ap, length, slice_index_or}
use Rattle.exodus_mesh.specs.declared.vars.BlockVar.{BlockVar}
use Rattle.exodus_mesh.proofs.Rows.{row_len_at}
use Rattle.exodus_mesh.proofs.values.make_faces.Goals as goal

pub put_block-requires : goal.put_block-requires
put_block-requires c =
    let block : BlockVar = record { var = 0; faces = 0; width = 0 } in
    let numbers : c.deref.result.now ≡ slice_index_or c.args.rows.now c.loop-k.k c.index-rows-k.result = c.deref.ensures.value ∙ c.numbers.view_is ∙ c.index-rows-k.is in
    ap (λ l. length l) numbers ∙ row_len_at c.args.blocks.now c.args.rows.now c.loop-k.k block c.index-rows-k.result c.requires c.loop-k-test.true
