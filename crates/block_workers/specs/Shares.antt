-- What workers have done.
use Rattle.std.specs.Prelude.{◌≡◌, ℕ, [], None, length, All}
use Rattle.block_claims.specs.declared.rule.Kind.{Kind}
use Rattle.block_claims.specs.declared.rule.Kind.TheVariants.{First}
use Rattle.block_claims.specs.Seen.{ClaimWordValue, TicketValue, IsTicketOf}
use Rattle.block_workers.specs.declared.worker.Share.{Share}
use Rattle.block_workers.specs.declared.run.Shares.{Shares as SharesOfWorkers}
use Rattle.block_workers.specs.FinishedBlocks.{numbers, IsRight}
use Rattle.block_workers.specs.InParts.{IsPlacedBy, IsPutIn}

-- the ticket is one of these claims, and has drawn nothing
pub record IsFreshTicket (claims : ClaimWordValue) (kind : Kind) (ticket : TicketValue) : Type 0 where
  pub ours : IsTicketOf claims ticket
  pub kind_is : ticket.view.kind ≡ kind
  pub nothing_drawn : ticket.view.mine ≡ []
  pub going : ticket.view.last ≡ None

-- the ticket is one of these claims, and the list has the blocks that it drew, in order, which were all put in the part with this number
pub record IsShareOf {P X : Type 0} (is_part : P → Type 0) (gives : P → ℕ → X → Type 0) (claims : ClaimWordValue) (kind : Kind) (number : ℕ) (share : Share P X) : Type 0 where
  pub ours : IsTicketOf claims share.ticket
  pub kind_is : share.ticket.view.kind ≡ kind
  pub mine : numbers share.finished.items ≡ share.ticket.view.mine
  pub part : is_part share.part
  pub right : All (IsRight claims.blocks (IsPutIn gives number share.part)) share.finished.items

-- the ticket is the first of these claims, each worker has its part, and the list has the blocks that the ticket drew or took back, in order, each of which was put in one of the parts
pub record AreSharesOf {P X : Type 0} (is_part : P → Type 0) (gives : P → ℕ → X → Type 0) (claims : ClaimWordValue) (workers : ℕ) (shares : SharesOfWorkers P X) : Type 0 where
  pub ours : IsTicketOf claims shares.ticket
  pub kind_is : shares.ticket.view.kind ≡ First
  pub mine : numbers shares.finished.items ≡ shares.ticket.view.mine
  pub count : length shares.parts.items ≡ workers
  pub parts : All is_part shares.parts.items
  pub right : All (IsRight claims.blocks (IsPlacedBy gives shares.parts.items)) shares.finished.items
