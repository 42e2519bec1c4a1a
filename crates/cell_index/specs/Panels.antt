-- The panels of the index are those of the cubed sphere: what a panel sees of a direction are its coordinates there. Source: our own.
use Rattle.std.specs.Prelude.{◌≡◌}
use Rattle.vec_exact.specs.declared.Vec3.{Vec3}
use Rattle.vec_exact.specs.declared.panels.Panel.{Panel}
use Rattle.vec_exact.specs.Panel.{on_panel}
use Rattle.cell_index.specs.declared.coordinates.Coordinates.{Coordinates}
use Rattle.cell_index.specs.Box.{seen_from}

-- the triple that has these coordinates on a panel
abbrev pub placed : Panel → Coordinates → Vec3
placed panel c = on_panel panel c.w c.u c.v

-- to see a direction from a panel and to place its coordinates there undo each other
abbrev pub LawSeenIsPlaced : Type 0
LawSeenIsPlaced = ((panel : Panel) (d : Vec3) → placed panel (seen_from panel d) ≡ d) × ((panel : Panel) (c : Coordinates) → seen_from panel (placed panel c) ≡ c)
