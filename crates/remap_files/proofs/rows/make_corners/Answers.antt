use Rattle.std.proofs.Common.{◌≡◌, ◌≤◌, ◌∙◌, ◌++◌, ◌∷◌, [], ◌-◌, ◌+◌, ap, sym, length, arith, append_assoc}
use Rattle.std.proofs.lemmas.Int.{to_z-of_z}
use Rattle.exodus_mesh.specs.MeshValues.{rows_of}
use Rattle.clip.specs.Columns.{triple_of}
use Rattle.remap_files.proofs.Triples.{next_triple}
use Rattle.remap_files.proofs.rows.make_corners.Goals as goal

pub loop-preserved : goal.loop-preserved
loop-preserved c =
    let n = c.args.count in
    let k = c.loop.counter in
    let rest = c.loop.rest.now in
    let front = c.split_at.result.0.now in
    let behind = c.split_at.result.1.now in
    let some : 3 ≤ length rest = omega (arith, c.loop-test.true, c.loop.invariant.left) in
    let three : length front ≡ 3 = omega (arith, c.split_at.ensures.front_len, some) in
    let put : c.push.new.self.items ≡ c.loop.items.items ++ triple_of front ∷ [] = grind (arith, to_z-of_z, c.in_ok-push.ensures.ok) in
    let next : rows_of (n - k) 3 rest ≡ triple_of front ∷ rows_of (n - (k + 1)) 3 behind = next_triple n k rest front behind c.loop-test.true c.split_at.ensures.front c.split_at.ensures.back three in
    record {
      corners = ap (λ l. l ++ rows_of (n - (k + 1)) 3 behind) put ∙ append_assoc c.loop.items.items (triple_of front ∷ []) (rows_of (n - (k + 1)) 3 behind) ∙ ap (λ l. c.loop.items.items ++ l) (sym next) ∙ c.loop.invariant.corners;
      left = omega (arith, c.split_at.ensures.back_len, c.loop.invariant.left, c.loop-test.true);
    }
