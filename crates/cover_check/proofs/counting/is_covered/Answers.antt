use Rattle.std.proofs.Common.{◌≡◌, ℕ, length, ap, arith}
use Rattle.std.proofs.lemmas.List.{nil_from_length}
use Rattle.std.proofs.lemmas.Bool.{eq-eqb, eqb-true}
use Rattle.cover_check.proofs.counting.is_covered.Goals as goal

pub returns : goal.returns
returns c =
    let cells = c.in_ok-cells.cells in
    let n : ℕ = length c.cells.inside.items.items in
    let same : n ≡ length cells = ap length c.cells.view_is in
    let is = c.in_ok-cells.ensures.empty in (
      λ e. is.0 (nil_from_length cells (omega (arith, same, eqb-true n 0 (cc (c.is_empty.ensures, e))))),
      λ h. cc (c.is_empty.ensures, eq-eqb n 0 (omega (arith, same, ap length (is.1 h)))),
    )
