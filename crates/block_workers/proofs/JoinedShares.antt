-- The shares of several workers, and that of one more.
use Rattle.std.proofs.Common.{◌≡◌, ℕ, ◌+◌, List, [], ◌∷◌, ◌++◌, length, Result, Ok, Err, IfOk, All, sym, ap, ap₂, ◌∙◌, subst, arith, length-append}
use Rattle.std.proofs.lemmas.List.{map-append}
use Rattle.std.proofs.lemmas.List.Elements.{All-push}
use Rattle.block_claims.specs.declared.rule.Kind.TheVariants.{Further}
use Rattle.block_claims.specs.declared.rule.View.{View}
use Rattle.block_claims.specs.Seen.{ClaimWordValue, IsTicketOf}
use Rattle.block_workers.specs.declared.job.Finished.{Finished}
use Rattle.block_workers.specs.declared.job.Placed.{Placed}
use Rattle.block_workers.specs.declared.run.Shares.{Shares as SharesOfWorkers}
use Rattle.block_workers.specs.declared.worker.Share.{Share}
use Rattle.block_workers.specs.FinishedBlocks.{numbers, IsRight}
use Rattle.block_workers.specs.InParts.{IsPlacedBy, IsPutIn}
use Rattle.block_workers.specs.Shares.{IsShareOf, AreSharesOf}
use Rattle.block_workers.proofs.Placing.{right_together}

module _ {P X E : Type 0} (is_part : P → Type 0) (gives : P → ℕ → X → Type 0) (claims : ClaimWordValue) where
  pub joined_shares : (others workers : ℕ) (ours : SharesOfWorkers P X) (theirs : Share P X) (r : Result (SharesOfWorkers P X) E) → others + 1 ≡ workers
      → AreSharesOf is_part gives claims others ours → IsShareOf is_part gives claims Further others theirs
      → IfOk r (λ shares. IsTicketOf claims shares.ticket)
      → IfOk r (λ shares. shares.ticket.view ≡ record ours.ticket.view { mine = ours.ticket.view.mine ++ theirs.ticket.view.mine; back = ours.ticket.view.back + 1 })
      → IfOk r (λ shares. shares.parts.items ≡ ours.parts.items ++ theirs.part ∷ [])
      → IfOk r (λ shares. shares.finished.items ≡ ours.finished.items ++ theirs.finished.items)
      → IfOk r (AreSharesOf is_part gives claims workers)
  joined_shares others workers ours theirs (Ok shares) one a b is view parts list =
      let Right : List P → List (Finished (Placed X)) → Type 0 = λ ps fs. All (IsRight claims.blocks (IsPlacedBy gives ps)) fs in
      let more = ours.parts.items ++ theirs.part ∷ [] in
      let last : All (IsRight claims.blocks (IsPutIn gives (length ours.parts.items) theirs.part)) theirs.finished.items =
      subst (λ (n : ℕ). All (IsRight claims.blocks (IsPutIn gives n theirs.part)) theirs.finished.items) (sym a.count) b.right in
      let all : Right more (ours.finished.items ++ theirs.finished.items) = right_together gives claims.blocks ours.parts.items theirs.part ours.finished.items theirs.finished.items a.right last in record {
        ours = is;
        kind_is = ap (λ (v : View). v.kind) view ∙ a.kind_is;
        mine = ap numbers list
            ∙ (map-append (λ (f : Finished (Placed X)). f.block) ours.finished.items theirs.finished.items ∙ (ap₂ (λ l m. l ++ m) a.mine b.mine ∙ sym (ap (λ (v : View). v.mine) view)));
        count = omega (arith, ap length parts, length-append ours.parts.items (theirs.part ∷ []), a.count);
        parts = subst (All is_part) (sym parts) (All-push is_part ours.parts.items theirs.part a.parts b.part);
        right = subst (λ (ps : List P). Right ps shares.finished.items) (sym parts) (subst (Right more) (sym list) all);
      }
  joined_shares others workers ours theirs (Err e) one a b is view parts list = tt
