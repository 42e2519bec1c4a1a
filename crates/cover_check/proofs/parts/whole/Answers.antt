use Rattle.std.proofs.Common.{[], ◌++◌, List, map, sym, subst, append-nil}
use Rattle.mesh_check.specs.Mesh.{corners_of}
use Rattle.cover_check.specs.declared.parts.Part.{Part}
use Rattle.cover_check.specs.Parts.{PartView, view_of, with_faces, IsDivided}
use Rattle.cover_check.proofs.PutParts.{whole_divided}
use Rattle.cover_check.proofs.parts.whole.Goals as goal

pub returns-clause-divided : goal.returns-clause-divided
returns-clause-divided c =
    let sources = c.args.a.now in let target = corners_of c.args.b.now c.args.j in
    let w = whole_divided sources target c.args.faces.now c.in_ok-target.target c.args.left.now c.requires.none
    (c.in_ok-target.ensures.cells sources) (c.in_ok-target.ensures.inside sources) (c.in_ok-target.ensures.outside sources) in
    subst (λ (l : List PartView). IsDivided sources target c.args.faces.now l c.spread.new.left) (append-nil (map view_of c.spread.new.parts.items))
    (c.in_ok-spread.ensures.divided c.args.faces.now []
    (subst (λ (l : List Part). IsDivided sources target c.args.faces.now (map view_of l ++ with_faces c.args.faces.now c.in_ok-target.target) c.args.left.now) (sym c.new-parts.ensures.items) w))
