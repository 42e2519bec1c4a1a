-- The rule on a word, a number of blocks, and the views of all tickets ever made (our own).
use Rattle.std.specs.Prelude.{◌≡◌, ℕ, ◌+◌, ◌<◌, ◌≤◌, List, length, Contains, count_by, Some}
use mathlib.Core.Option.{some}
use lib.ListN.{get_elem?}
use Rattle.block_claims.specs.declared.rule.Kind.{Kind}
use Rattle.block_claims.specs.declared.rule.Kind.TheVariants.{First, Further, Spent}
use Rattle.block_claims.specs.declared.rule.View.{View}
use Rattle.block_claims.specs.Views.{is_first, is_spent, is_done_or_spent, further_view, spent_view, times}

-- what a view holds by its kind, where there are n blocks: a first one the number of blocks, a list, perhaps a last word, and two counts of tickets;
-- a further one the number of blocks, a list and perhaps a last word; a spent one nothing
abbrev pub HoldsByKind : ℕ → Kind → View → Type 0
HoldsByKind n First v = v.blocks ≡ n
HoldsByKind n Further v = v ≡ record (further_view n) { mine = v.mine; last = v.last }
HoldsByKind n Spent v = v ≡ spent_view

-- v is the view of ticket i, counted from 0 in the order in which tickets were made
abbrev pub IsViewOf : List View → ℕ → View → Type 0
IsViewOf views i v = get_elem? views i ≡ some v

-- x stands in the list once, in the list of no ticket but i, and is below both the number of blocks and the word
pub record IsDrawnOnce (n w : ℕ) (views : List View) (i : ℕ) (mine : List ℕ) (x : ℕ) : Type 0 where
  pub block : x < n
  pub passed : x < w
  pub once : times x mine ≡ 1
  pub by_no_other : (j : ℕ) (u : View) → IsViewOf views j u → Contains u.mine x → j ≡ i

pub record IsClaimed (n w : ℕ) (views : List View) : Type 0 where
  pub kinds : (i : ℕ) (v : View) → IsViewOf views i v → HoldsByKind n v.kind v
  -- exactly one view is first; it knows how many views there are, at most 64, and how many of them are spent
  pub one_first : count_by (λ v. is_first v.kind) views ≡ 1
  pub first : (i : ℕ) (v : View) → IsViewOf views i v → v.kind ≡ First
      → (v.made ≡ length views) × (v.made ≤ 64) × (v.back ≡ count_by (λ u. is_spent u.kind) views)
  -- a number that stands in a list was drawn once
  pub drawn : (i : ℕ) (v : View) → IsViewOf views i v → (x : ℕ) → Contains v.mine x → IsDrawnOnce n w views i v.mine x
  -- each number below both the number of blocks and the word stands in a list
  pub none_left_out : (x : ℕ) → x < n → x < w → (i : ℕ) × (v : View) × IsViewOf views i v × Contains v.mine x
  -- a ticket that is done found a word from which on there was no block
  pub done : (i : ℕ) (v : View) → IsViewOf views i v → (last : ℕ) → v.last ≡ Some last → (n ≤ last) × (last < w)
  -- the word exceeds the number of blocks by no more than the number of tickets that are done or spent
  pub word : w ≤ n + count_by is_done_or_spent views
