-- What contracts see of a claim word and of a ticket.
use Rattle.std.specs.Prelude.{◌≡◌, ◌+◌, ℕ, true}
use Rattle.atomic_table.specs.Seated.{TableId}
use Rattle.block_claims.specs.declared.rule.Kind.TheVariants.{First}
use Rattle.block_claims.specs.declared.rule.View.{View}
use Rattle.block_claims.specs.Views.{is_done, HoldsEachOnce}

-- the table that holds the word, and the number of blocks
pub record ClaimWordValue : Type 0 where
  pub table : TableId
  pub blocks : ℕ

-- the table that the ticket is of, and its view
pub record TicketValue : Type 0 where
  pub table : TableId
  pub view : View

-- a ticket of these claims
abbrev pub IsTicketOf : ClaimWordValue → TicketValue → Type 0
IsTicketOf c t = (t.table ≡ c.table) × (t.view.blocks ≡ c.blocks)

-- where the first ticket is done and has taken all others back, it has each block number exactly once
abbrev pub IsWhole : View → Type 0
IsWhole v = v.kind ≡ First → is_done v ≡ true → v.made ≡ v.back + 1 → HoldsEachOnce v.blocks v.mine
