use Rattle.std.proofs.Common.{◌∙◌, ◌+◌, ◌++◌, ap, arith}
use Rattle.gen_rll.specs.LatitudeLongitude.{band_faces}
use Rattle.gen_rll.proofs.Ranges.{flat_more}
use Rattle.gen_rll.proofs.faces.all_faces.Goals as goal

pub loop-j-preserved : goal.loop-j-preserved
loop-j-preserved c =
    let band = band_faces c.args.lon c.args.lat in
    let j = c.loop-j.j in
    c.in_ok-put_band.ensures
    ∙ ap (λ l. l ++ band j) c.loop-j.invariant
    ∙ flat_more band 0 j (j + 1) j (omega arith) (omega arith)
