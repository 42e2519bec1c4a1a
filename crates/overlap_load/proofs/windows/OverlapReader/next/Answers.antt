use Rattle.std.proofs.Common.{◌∙◌, ◌++◌, ◌∷◌, [], ap, sym, subst, arith}
use Rattle.clip.specs.declared.pieces.Piece.{Piece}
use Rattle.clip.specs.Overlaps.{IsSoundPiece}
use Rattle.remap_files.specs.declared.vars.OverlapVars.{OverlapVars}
use Rattle.overlap_load.specs.Windows.{Reading, IsRead, next_row}
use Rattle.overlap_load.proofs.Windowed.{next_read, next_sound}
use Rattle.overlap_load.proofs.windows.OverlapReader.next.Goals as goal

pub returns-clause-read : goal.returns-clause-read
returns-clause-read g c = λ pieces h.
    let name = c.args.name.now in
    let folder = (g.F.Files.seen c.args.files.now).folder in
    let r = c.fill.new.self in
    let here : IsRead folder name r pieces = c.in_ok-fill.ensures.read pieces h in
    subst (λ (x : Reading). IsRead folder name x (pieces ++ c.in_ok-piece.piece ∷ [])) (sym c.in_ok-piece.ensures.next)
    (subst (λ (p : Piece). IsRead folder name (next_row r) (pieces ++ p ∷ [])) (sym c.in_ok-piece.ensures.piece) (next_read folder name r pieces here c.in_ok-fill.ensures.ready))

pub returns-clause-next : goal.returns-clause-next
returns-clause-next g c = λ pieces h.
    let name = c.args.name.now in
    let folder = (g.F.Files.seen c.args.files.now).folder in
    let r = c.fill.new.self in
    let here : IsRead folder name r pieces = c.in_ok-fill.ensures.read pieces h in
    let next = c.in_ok-piece.ensures.next in
    let vars = c.in_ok-fill.ensures.vars in (
      omega (arith, c.in_ok-fill.ensures.ready, c.in_ok-fill.ensures.at, (here.reader).end, ap (λ (v : OverlapVars). v.pieces) vars),
      omega (arith, ap (λ (x : Reading). x.at) next, c.in_ok-fill.ensures.at),
      ap (λ (x : Reading). x.vars) next ∙ vars,
      subst (λ (v : OverlapVars). IsSoundPiece v.faces_a v.faces_b c.in_ok-piece.piece) vars
          (subst (λ (p : Piece). IsSoundPiece r.vars.faces_a r.vars.faces_b p) (sym c.in_ok-piece.ensures.piece) (next_sound folder name r pieces here c.in_ok-fill.ensures.ready)),
    )
