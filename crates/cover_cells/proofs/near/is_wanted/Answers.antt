use Rattle.std.proofs.Common.{◌≡◌, Bool, true, false, refl}
use Rattle.std.specs.Prelude.{not}
use Rattle.cover_cells.proofs.near.is_wanted.Goals as goal

true_from : (b : Bool) → not b ≡ false → b ≡ true
true_from true e = refl
true_from false e = cc

pub returns-clause-away : goal.returns-clause-away
returns-clause-away c = λ e _. c.is_kept_away.ensures (true_from c.is_kept_away.result e)
