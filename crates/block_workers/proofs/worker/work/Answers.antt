use Rattle.std.proofs.Common.{rules, refl, ap, sym, ◌∙◌}
use Rattle.block_claims.specs.declared.rule.View.{View}
use Rattle.block_workers.proofs.Placing.{one_more_number, one_more_put}
use Rattle.block_workers.proofs.worker.work.Goals as goal

pub loop-block-preserved : goal.loop-block-preserved
loop-block-preserved g c = record {
  ours = search rules;
  going = search rules;
  kind = search rules;
  made = search rules;
  back = search rules;
  mine = one_more_number c.loop-block.finished.items c.push.new.self.items _ c.loop-block.ticket.view.mine c.in_ok-push.ensures.items c.loop-block.invariant.mine ∙ sym (ap (λ (v : View). v.mine) c.in-Some.ensures.drawn);
  part = c.in_ok-output.ensures.part;
  right = one_more_put (g.J.BlockJob.gives c.args.job.now) c.args.claims.now.blocks c.args.number c.loop-block.part c.run.new.part c.loop-block.finished.items c.push.new.self.items
      _ c.in_ok-output.ensures.kept c.in_ok-push.ensures.items c.loop-block.invariant.right (c.in-Some.ensures.block, (refl, c.in_ok-output.ensures.output));
  few = search rules;
}
