use Rattle.std.proofs.Common.{◌≡◌, ◌/◌, ℕ, List, ◌++◌, true, length, map, ap, sym, subst, arith}
use Rattle.std.specs.Prelude.{All, Any}
use Rattle.vec_exact.specs.declared.Vec3.{Vec3}
use Rattle.cone_laws.specs.Inside.{IsInside}
use Rattle.mesh_check.specs.Mesh.{corners_of}
use Rattle.cover_cells.specs.declared.cells.CellPlane.{CellPlane}
use Rattle.cover_cells.specs.Cells.{IsOffEdges, is_in_cell, cells_with}
use Rattle.cover_check.specs.Parts.{view_of, with_faces, IsDivided}
use Rattle.cover_check.proofs.Divided.{cut_last}
use Rattle.cover_check.proofs.parts.divide.Goals as goal

pub returns-clause-divided : goal.returns-clause-divided
returns-clause-divided c = λ all others h.
    let sources = c.args.a.now in let target = corners_of c.args.b.now c.args.j in
    let one = c.in_ok-whole.ensures in
    let faces = c.args.part.faces.items in
    let middle : ℕ = c.len-middle.result / 2 in
    let i : ℕ = c.index.result.now in
    let pieces = c.in_ok-pieces.pieces in
    c.in_ok-spread.ensures.divided all others
    (subst (λ (l : List ℕ). IsDivided sources target all (map view_of c.args.parts.now.items ++ (others ++ with_faces l pieces)) c.args.left.now) (sym c.deref.ensures.value)
    (cut_last sources target all (map view_of c.args.parts.now.items) others (view_of c.args.part) c.args.left.now h pieces i
    (middle, omega (arith, c.len-middle.ensures, c.requires.some), sym c.index.ensures)
    c.in_ok-pieces.ensures.cells
    (subst (λ (l : List (List CellPlane)). All (λ cell. (d : Vec3) → is_in_cell sources target d cell ≡ true → Any (λ given. is_in_cell sources target d given ≡ true) l) pieces) one c.in_ok-pieces.ensures.given)
    (subst (λ (l : List (List CellPlane)). (d : Vec3) → IsOffEdges (corners_of sources i) d → ¬ IsInside (corners_of sources i) d → cells_with sources target d pieces ≡ cells_with sources target d l) one c.in_ok-pieces.ensures.outside)))

pub returns-clause-fewer : goal.returns-clause-fewer
returns-clause-fewer c = λ n few h.
    let same = ap length c.deref.ensures.value in
    c.in_ok-spread.ensures.fewer n (omega (arith, c.len-middle.ensures, c.requires.some, same)) (omega (arith, few, same)) h
