use Rattle.std.proofs.Common.{rules, ◌-◌, sym, subst, arith}
use Rattle.std.proofs.lemmas.Result.{IfOk-weaker}
use Rattle.block_claims.specs.Seen.{TicketValue, IsWhole}
use Rattle.block_workers.proofs.JoinedShares.{joined_shares}
use Rattle.block_workers.proofs.run.+fn-spread-join+arg3+spread.Goals as goal

pub returns-then-workers-eq1-clause-whole : goal.returns-then-workers-eq1-clause-whole
returns-then-workers-eq1-clause-whole g t c =
    IfOk-weaker c.alone.result _ _ (λ shares is. subst (λ (t : TicketValue). IsWhole t.view) (sym is) c.in_ok-share.ensures.whole) c.alone.ensures.ticket

pub returns-clause-shares : goal.returns-clause-shares
returns-clause-shares g t c =
    joined_shares (g.J.BlockJob.is_part c.args.job.now) (g.J.BlockJob.gives c.args.job.now) c.args.claims.now (c.args.workers - 1) c.args.workers c.in_ok-ours.ours c.in_ok-theirs.theirs c.joined.result (omega arith) (search rules) (search rules) c.joined.ensures.ours c.joined.ensures.joined
    c.joined.ensures.parts c.joined.ensures.finished
