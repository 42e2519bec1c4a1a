use Rattle.std.proofs.Common.{◌-◌, length, refl}
use Rattle.exodus_mesh.proofs.FirstPlaces.{inserted, when_ok}
use Rattle.exodus_mesh.proofs.places.places.Goals as goal

pub loop-done-preserved : goal.loop-done-preserved
loop-done-preserved c = λ name.
    let vars = c.args.vars.now in
    let place = length vars - 1 - c.loop-done.done in
    inserted vars name c.name_at.result.now c.loop-done.done place c.loop-done.map c.insert.new.self c.loop-done-test.true refl c.name_at.ensures
    (when_ok _ c.insert.result c.in_ok-map_err.ensures.variant c.insert.ensures.updates) (c.loop-done.invariant name)
