use Rattle.std.proofs.Common.{◌≡◌, ◌≤◌, ◌-◌, length, All, None}
use Rattle.block_claims.specs.Seen.{IsTicketOf}
use Rattle.block_workers.specs.FinishedBlocks.{numbers, IsRight}
use Rattle.block_workers.specs.InParts.{IsPutIn}
use Rattle.block_workers.proofs.worker.work.Given as goal

abbrev pub invariant-loop-block : goal.invariant-loop-block
invariant-loop-block g l = record {
  ours : IsTicketOf l.claims l.ticket;
  going : l.ticket.view.last ≡ None;
  kind : l.ticket.view.kind ≡ l.fn.ticket.view.kind;
  made : l.ticket.view.made ≡ l.fn.ticket.view.made;
  back : l.ticket.view.back ≡ l.fn.ticket.view.back;
  mine : numbers l.finished.items ≡ l.ticket.view.mine;
  part : g.J.BlockJob.is_part l.job l.part;
  right : All (IsRight l.claims.blocks (IsPutIn (g.J.BlockJob.gives l.job) l.number l.part)) l.finished.items;
  few : length l.ticket.view.mine ≤ l.claims.blocks;
}

abbrev pub decreases-loop-block : goal.decreases-loop-block
decreases-loop-block g l = l.claims.blocks - length l.ticket.view.mine
