use Rattle.std.proofs.Common.{◌≡◌, List, ℤ, ap, sym, subst, arith}
use Rattle.overlap_load.specs.Windows.{Reading, IsRead, AreNext, without_corners}
use Rattle.overlap_load.proofs.Windowed.{bare, bare_next, filled, filled_read}
use Rattle.overlap_load.proofs.windows.OverlapReader.fill.Goals as goal

pub returns-clause-read : goal.returns-clause-read
returns-clause-read g c = λ pieces h.
    let r = c.args.self.now in
    let name = c.args.name.now in
    let folder = (g.F.Files.seen c.args.files.now).folder in
    let corners = c.in_ok-corners.corners in
    let end = c.in_ok-corners.end in
    let all : r.at ≡ r.end = omega (arith, ap (λ (x : Reading). x.at) c.self.view_is, ap (λ (x : Reading). x.end) c.self.view_is, c.if-self.false, c.requires.reader.at) in
    let known : AreNext folder name (without_corners c.self.inside.head c.self.inside.vars c.self.inside.values.items c.self.inside.begin c.self.inside.end) corners end =
    subst (λ (l : List (List ℤ)). AreNext folder name (without_corners c.self.inside.head c.self.inside.vars l c.self.inside.begin c.self.inside.end) corners end) c.deref.ensures.value c.in_ok-corners.ensures.corners in
    let next : AreNext folder name r corners end = bare_next folder name r corners end (subst (λ (x : Reading). AreNext folder name (bare x) corners end) c.self.view_is known) in
    subst (λ (x : Reading). IsRead folder name (filled x corners end) pieces) (sym c.self.view_is) (filled_read folder name r corners end pieces h all c.requires.some next)
