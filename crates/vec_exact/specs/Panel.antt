-- The six panels of the cubed sphere, each with coordinates of its own: w points out of the panel, u and v run along it.
-- Source: the equidistant gnomonic projection; the order of the panels and their axes are our own.
use Rattle.std.specs.Prelude.{ℤ, neg_ℤ}
use Rattle.vec_exact.specs.declared.Vec3.{Vec3}
use Rattle.vec_exact.specs.declared.panels.Panel.{Panel}
use Rattle.vec_exact.specs.declared.panels.Panel.TheVariants.{PlusX, PlusY, MinusX, MinusY, PlusZ, MinusZ}

abbrev pub triple : ℤ → ℤ → ℤ → Vec3
triple x y z = record { x = x; y = y; z = z }

-- the triple that has these coordinates on a panel
abbrev pub on_panel : Panel → ℤ → ℤ → ℤ → Vec3
on_panel PlusX w u v = triple w u v
on_panel PlusY w u v = triple (neg_ℤ u) w v
on_panel MinusX w u v = triple (neg_ℤ w) (neg_ℤ u) v
on_panel MinusY w u v = triple u (neg_ℤ w) v
on_panel PlusZ w u v = triple (neg_ℤ v) u w
on_panel MinusZ w u v = triple v u (neg_ℤ w)
