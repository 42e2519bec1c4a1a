use Rattle.std.proofs.Common.{◌≡◌, None, arith, sym, ap, ◌∙◌}
use Rattle.block_claims.specs.Seen.{ClaimWordValue, TicketValue}
use Rattle.block_claims.proofs.Moves.{draws}
use Rattle.block_claims.proofs.tickets.draw.Goals as goal

pub fetch_add-found-requires : goal.fetch_add-found-requires
fetch_add-found-requires c =
    let own : c.ticket.inside.seat.table_id ≡ c.claims.inside.table.shared.table_id =
    ap (λ (t : TicketValue). t.table) c.ticket.view_is ∙ (c.requires.ours.0 ∙ sym (ap (λ (w : ClaimWordValue). w.table) c.claims.view_is)) in
    let going : c.ticket.inside.seat.me.0.last ≡ None = ap (λ (t : TicketValue). t.view.last) c.ticket.view_is ∙ c.requires.going in
    (own, omega (arith, c.claims.invariant), draws _ c.claims.inside.table.shared.key c.ticket.inside.seat.id c.ticket.inside.seat.me c.ticket.invariant.0 going c.ticket.invariant.2 (omega arith))
