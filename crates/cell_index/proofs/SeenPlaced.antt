-- To see a direction from a panel and to place its coordinates there undo each other: a component that is turned is turned twice.
use Rattle.std.proofs.Common.{◌≡◌, ℤ, neg_ℤ, refl, ap, ◌∙◌}
use Rattle.std.proofs.Math.IntN.{neg_ℤ-neg_ℤ}
use Rattle.vec_exact.specs.declared.Vec3.{Vec3}
use Rattle.vec_exact.specs.declared.panels.Panel.{Panel}
use Rattle.vec_exact.specs.declared.panels.Panel.TheVariants.{PlusX, PlusY, MinusX, MinusY, PlusZ, MinusZ}
use Rattle.vec_exact.specs.Panel.{triple}
use Rattle.cell_index.specs.declared.coordinates.Coordinates.{Coordinates}
use Rattle.cell_index.specs.Box.{seen_from}
use Rattle.cell_index.specs.Panels.{placed}

-- coordinates, in the order of a placed triple
abbrev coordinates : ℤ → ℤ → ℤ → Coordinates
coordinates w u v = record { w = w; u = u; v = v }

placed_seen : (panel : Panel) (d : Vec3) → placed panel (seen_from panel d) ≡ d
placed_seen PlusX d = refl
placed_seen PlusY d = ap (λ x. triple x d.y d.z) (neg_ℤ-neg_ℤ d.x)
placed_seen MinusX d = ap (λ x. triple x (neg_ℤ (neg_ℤ d.y)) d.z) (neg_ℤ-neg_ℤ d.x) ∙ ap (λ y. triple d.x y d.z) (neg_ℤ-neg_ℤ d.y)
placed_seen MinusY d = ap (λ y. triple d.x y d.z) (neg_ℤ-neg_ℤ d.y)
placed_seen PlusZ d = ap (λ x. triple x d.y d.z) (neg_ℤ-neg_ℤ d.x)
placed_seen MinusZ d = ap (λ z. triple d.x d.y z) (neg_ℤ-neg_ℤ d.z)

seen_placed : (panel : Panel) (c : Coordinates) → seen_from panel (placed panel c) ≡ c
seen_placed PlusX c = refl
seen_placed PlusY c = ap (λ u. coordinates c.w u c.v) (neg_ℤ-neg_ℤ c.u)
seen_placed MinusX c = ap (λ w. coordinates w (neg_ℤ (neg_ℤ c.u)) c.v) (neg_ℤ-neg_ℤ c.w) ∙ ap (λ u. coordinates c.w u c.v) (neg_ℤ-neg_ℤ c.u)
seen_placed MinusY c = ap (λ w. coordinates w c.u c.v) (neg_ℤ-neg_ℤ c.w)
seen_placed PlusZ c = ap (λ v. coordinates c.w c.u v) (neg_ℤ-neg_ℤ c.v)
seen_placed MinusZ c = ap (λ w. coordinates w c.u c.v) (neg_ℤ-neg_ℤ c.w)

pub undone : ((panel : Panel) (d : Vec3) → placed panel (seen_from panel d) ≡ d) × ((panel : Panel) (c : Coordinates) → seen_from panel (placed panel c) ≡ c)
undone = (placed_seen, seen_placed)
