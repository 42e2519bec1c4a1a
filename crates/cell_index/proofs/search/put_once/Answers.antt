use Rattle.std.proofs.Common.{◌≡◌, arith, sym, subst, ℕ, List}
use Rattle.std.specs.List.{Contains}
use Rattle.cell_index.specs.Kept.{Gathers}
use Rattle.cell_index.proofs.Searches.{gathers_skip, gathers_push, gathers_known}
use Rattle.cell_index.proofs.search.put_once.Goals as goal

pub returns-then-face-lt1 : goal.returns-then-face-lt1
returns-then-face-lt1 c = gathers_skip c.args.found.now.items c.args.face (λ l. omega arith)

pub returns-then-stands_at : goal.returns-then-stands_at
returns-then-stands_at c = gathers_known c.args.found.now.items c.args.face (subst (λ (z : List ℕ). Contains z c.args.face) c.deref.ensures.value (c.stands_at.ensures c.if-stands_at.true))

pub returns : goal.returns
returns c =
    subst (λ (z : List ℕ). Gathers c.args.found.now.items z (λ j. c.args.face ≡ j)) (sym c.in_ok-push.ensures.items) (gathers_push c.args.found.now.items c.args.face (omega arith))
