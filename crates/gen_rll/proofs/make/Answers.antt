use Rattle.std.proofs.Common.{◌≡◌, subst, sym, rules}
use Rattle.mesh_check.specs.FirstFault.{IsFirstMeshFault}
use Rattle.gen_rll.specs.LatitudeLongitude.{latitude_longitude}
use Rattle.gen_rll.proofs.make.Goals as goal

pub returns-clause-refused : goal.returns-clause-refused
returns-clause-refused c = λ fault h.
    let raw = c.in_ok-raw.raw in
    let is : raw ≡ latitude_longitude c.args.lon c.args.lat = search rules in
    c.check_generated.ensures.refused fault (subst (λ m. IsFirstMeshFault m fault) (sym is) h)
