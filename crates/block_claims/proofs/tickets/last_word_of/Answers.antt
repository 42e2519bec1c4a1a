use Rattle.std.proofs.Common.{◌≡◌, ℕ, List, slice_index, ap, ◌∙◌, subst}
use Rattle.std.specs.List.{Contains}
use Rattle.std.proofs.lemmas.List.{get_or_default}
use mathlib.Core.Option.{some}
use lib.ListN.{get_elem?}
use Rattle.atomic_table.specs.Table.{State}
use Rattle.block_claims.specs.declared.rule.View.{View}
use Rattle.block_claims.specs.Claimed.{IsClaimed}
use Rattle.block_claims.specs.OneWord.{IsOneClaimedWord}
use Rattle.block_claims.specs.Seen.{ClaimWordValue, TicketValue}
use Rattle.block_claims.proofs.Sums.{index_at}
use Rattle.block_claims.proofs.tickets.last_word_of.Goals as goal

-- the rule on the last state of the table, with the one word that was read and the view of one seat
at_the_end : (n m w id : ℕ) (v u : View) (s : State (Unit {0}) View) (words : List ℕ) → IsOneClaimedWord n s → get_elem? s.views id ≡ some v → s.words ≡ words → get_elem? words 0 ≡ some w → n ≡ m → v ≡ u
    → (views : List View) × IsClaimed m w views × Contains views u
at_the_end n m w id v u s words held seen same read count view =
    let one = index_at words 0 w read in
    let word : slice_index s.words 0 ≡ w = ap (λ (l : List ℕ). slice_index l 0) same ∙ get_or_default words 0 0 w one.0 ∙ one.1 in
    let here = index_at s.views id v seen in (
      s.views,
      subst (λ (k : ℕ). IsClaimed k w s.views) count (subst (λ (k : ℕ). IsClaimed n k s.views) word held.1),
      subst (Contains s.views) view (id, here.0, here.1),
    )

pub returns : goal.returns
returns c =
    let last = c.close_with-closed.ensures.values.2 in
    at_the_end _ _ _ _ _ _ last.0 _ last.1.0 last.1.1 last.2 c.word-last.ensures
    (c.claims.invariant.2 ∙ ap (λ (w : ClaimWordValue). w.blocks) c.claims.view_is) (ap (λ (t : TicketValue). t.view) c.ticket.view_is)
