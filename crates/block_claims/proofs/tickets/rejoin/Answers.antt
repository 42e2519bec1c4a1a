use Rattle.std.proofs.Common.{◌≡◌, arith, sym, ap, ◌∙◌}
use Rattle.atomic_table.specs.Table.{Me}
use Rattle.block_claims.specs.declared.rule.Kind.TheVariants.{First, Further}
use Rattle.block_claims.specs.declared.rule.View.{View}
use Rattle.block_claims.specs.Seen.{ClaimWordValue, TicketValue}
use Rattle.block_claims.proofs.Moves.{joins, looks}
use Rattle.block_claims.proofs.tickets.rejoin.Goals as goal

pub join_seat-requires : goal.join_seat-requires
join_seat-requires c =
    let here = sym (ap (λ (w : ClaimWordValue). w.table) c.claims.view_is) in
    let own : c.ticket.inside.seat.table_id ≡ c.claims.inside.table.shared.table_id = ap (λ (t : TicketValue). t.table) c.ticket.view_is ∙ (c.requires.ours.0 ∙ here) in
    let theirs : c.other.inside.seat.table_id ≡ c.claims.inside.table.shared.table_id = ap (λ (t : TicketValue). t.table) c.other.view_is ∙ (c.requires.theirs.0 ∙ here) in
    let first : c.ticket.inside.seat.me.0.kind ≡ First = ap (λ (t : TicketValue). t.view.kind) c.ticket.view_is ∙ c.requires.first in
    let further : c.other.inside.seat.me.0.kind ≡ Further = ap (λ (t : TicketValue). t.view.kind) c.other.view_is ∙ c.requires.further in
    (own, theirs, c.other.invariant.0, omega (arith, c.claims.invariant), joins c.claims.inside.table.shared.key c.ticket.inside.seat.id c.ticket.inside.seat.me.0 c.other.inside.seat.id c.other.inside.seat.me.0 first further)

pub load-word-requires : goal.load-word-requires
load-word-requires c =
    let here = sym (ap (λ (w : ClaimWordValue). w.table) c.claims.view_is) in
    let own : c.ticket.inside.seat.table_id ≡ c.claims.inside.table.shared.table_id = ap (λ (t : TicketValue). t.table) c.ticket.view_is ∙ (c.requires.ours.0 ∙ here) in
    (c.join_seat.ensures.0 ∙ own, omega (arith, c.claims.invariant), looks _ c.claims.inside.table.shared.key _ _ (ap (λ (m : Me (Unit {0}) View). m.1) c.join_seat.ensures.2 ∙ c.ticket.invariant.0))
