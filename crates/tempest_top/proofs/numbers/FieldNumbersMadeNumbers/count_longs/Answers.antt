use Rattle.std.proofs.Common.{◌≡◌, ◌∙◌, ◌*◌, ℕ, ap, sym}
use Rattle.map_rows.specs.Maps.{MapParts}
use Rattle.map_rows.specs.Application.{rest_of}
use Rattle.apply_map.proofs.Parts.{count_of}
use Rattle.tempest_top.proofs.numbers.FieldNumbersMadeNumbers.count_longs.Goals as goal

pub returns : goal.returns
returns c =
    let r = c.args.self.now in
    let n : c.map.inside.n_b ≡ r.targets.now.n_b = ap (λ (m : MapParts). m.n_b) (c.map.view_is ∙ c.map-map.ensures) in
    ap (λ (k : ℕ). r.slices * k) n ∙ sym (count_of rest_of r.targets.now r.slices r.values.now)
