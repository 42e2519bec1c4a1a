use Rattle.std.proofs.Common.{◌≡◌, ◌∙◌, ◌++◌, ◌∷◌, [], ◌-◌, ◌+◌, ap, sym, map, length, arith, append_assoc}
use Rattle.exodus_mesh.specs.MeshValues.{face_of_row, rows_of}
use Rattle.exodus_mesh.proofs.Rows.{next_row, row_left}
use Rattle.exodus_mesh.proofs.values.put_block.Goals as goal

pub loop-number-preserved : goal.loop-number-preserved
loop-number-preserved c =
    let n = c.args.block.now.faces in
    let k = c.loop-number.number in
    let width = c.args.block.now.width in
    let rest = c.loop-number.rest.now in
    let face = face_of_row c.split_at.result.0.now in
    let later = map face_of_row (rows_of (n - (k + 1)) width c.split_at.result.1.now) in
    let one : map face_of_row (rows_of (n - k) width rest) ≡ face ∷ later = rw (c.split_at.ensures.front, c.split_at.ensures.back) (next_row n k width rest c.loop-number-test.true) in
    let put : c.push.new.self.items ≡ c.loop-number.out.items ++ face ∷ [] = c.in_ok-push.ensures.items ∙ ap (λ f. c.loop-number.out.items ++ f ∷ []) c.in_ok-make_face.ensures in
    record {
      faces = ap (λ l. l ++ later) put ∙ append_assoc c.loop-number.out.items (face ∷ []) later ∙ ap (λ l. c.loop-number.out.items ++ l) (sym one) ∙ c.loop-number.invariant.faces;
      left = omega (arith, row_left n k width (length rest) c.loop-number-test.true c.loop-number.invariant.left);
    }
