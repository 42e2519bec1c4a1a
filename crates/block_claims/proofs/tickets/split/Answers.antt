use Rattle.std.proofs.Common.{◌≡◌, arith, sym, ap, ◌∙◌}
use Rattle.block_claims.specs.declared.rule.Kind.TheVariants.{First}
use Rattle.block_claims.specs.Seen.{ClaimWordValue, TicketValue}
use Rattle.block_claims.proofs.Moves.{splits}
use Rattle.block_claims.proofs.tickets.split.Goals as goal

pub split_seat-seat-requires : goal.split_seat-seat-requires
split_seat-seat-requires c =
    let own : c.ticket.inside.seat.table_id ≡ c.claims.inside.table.shared.table_id =
    ap (λ (t : TicketValue). t.table) c.ticket.view_is ∙ (c.requires.ours.0 ∙ sym (ap (λ (w : ClaimWordValue). w.table) c.claims.view_is)) in
    let first : c.ticket.inside.seat.me.0.kind ≡ First = ap (λ (t : TicketValue). t.view.kind) c.ticket.view_is ∙ c.requires.first in
    let made = ap (λ (t : TicketValue). t.view.made) c.ticket.view_is in
    (own, omega (arith, c.claims.invariant), splits c.claims.inside.table.shared.key c.ticket.inside.seat.id c.ticket.inside.seat.me.0 first (omega (arith, made)))
