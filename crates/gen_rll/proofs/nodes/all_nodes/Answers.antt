use Rattle.std.proofs.Common.{◌∙◌, ◌-◌, ◌+◌, ◌∷◌, ◌++◌, ap, arith}
use Rattle.gen_rll.specs.LatitudeLongitude.{ring_nodes, south_pole}
use Rattle.gen_rll.proofs.Ranges.{flat_more}
use Rattle.gen_rll.proofs.nodes.all_nodes.Goals as goal

pub loop-j-preserved : goal.loop-j-preserved
loop-j-preserved c =
    let ring = ring_nodes c.args.lon c.args.lat in
    let j = c.loop-j.j in
    c.in_ok-put_ring.ensures
    ∙ ap (λ l. l ++ ring j) c.loop-j.invariant
    ∙ ap (λ l. south_pole ∷ l) (flat_more ring 1 (j - 1) (j + 1 - 1) j (omega (arith, c.loop-j.auto.j)) (omega (arith, c.loop-j.auto.j)))
