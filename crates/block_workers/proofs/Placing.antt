-- Blocks that workers put in their parts.
use Rattle.std.proofs.Common.{◌≡◌, ℕ, List, [], ◌∷◌, ◌++◌, length, get_or, All, sym, ap, ◌∙◌, subst, arith, length-append}
use Rattle.std.proofs.Math.ListN.{get_or-append}
use Rattle.std.proofs.Math.Seq.{get_or-append_seam}
use Rattle.std.proofs.lemmas.List.{map-append}
use Rattle.std.proofs.lemmas.List.Elements.{All-append, All-push, All-weaker}
use Rattle.block_workers.specs.declared.job.Finished.{Finished}
use Rattle.block_workers.specs.declared.job.Placed.{Placed}
use Rattle.block_workers.specs.FinishedBlocks.{numbers, IsRight}
use Rattle.block_workers.specs.InParts.{IsPlacedBy, IsPutIn}

-- one more number behind the others
pub one_more_number : {X : Type 0} (before after : List (Finished X)) (f : Finished X) (mine : List ℕ) → after ≡ before ++ f ∷ [] → numbers before ≡ mine → numbers after ≡ mine ++ f.block ∷ []
one_more_number {X} before after f mine is all = ap numbers is ∙ (map-append (λ (g : Finished X). g.block) before (f ∷ []) ∙ ap (λ l. l ++ f.block ∷ []) all)

module _ {P X : Type 0} (gives : P → ℕ → X → Type 0) where
  -- a block stays in its part where one more part comes behind the others
  placed_before : (parts : List P) (p : P) (s : ℕ) (x : Placed X) → IsPlacedBy gives parts s x → IsPlacedBy gives (parts ++ p ∷ []) s x
  placed_before parts p s x h =
      (omega (arith, h.0, length-append parts (p ∷ [])), λ d. subst (λ (q : P). gives q s x.output) (sym (get_or-append parts (p ∷ []) d x.part h.0)) (h.1 d))

  -- the last of the parts, whose number is how many others there are
  placed_last : (parts : List P) (p : P) (s : ℕ) (x : Placed X) → IsPutIn gives (length parts) p s x → IsPlacedBy gives (parts ++ p ∷ []) s x
  placed_last parts p s x h =
      let at_last = λ (d : P). ap (λ (n : ℕ). get_or (parts ++ p ∷ []) n d) h.0 ∙ get_or-append_seam parts p [] d in
      (omega (arith, h.0, length-append parts (p ∷ [])), λ d. subst (λ (q : P). gives q s x.output) (sym (at_last d)) h.1)

  module _ (n : ℕ) where
    -- one more block in the same part
    pub one_more_put : (number : ℕ) (old new : P) (before after : List (Finished (Placed X))) (f : Finished (Placed X)) → ((s : ℕ) (x : X) → gives old s x → gives new s x) → after ≡ before ++ f ∷ []
        → All (IsRight n (IsPutIn gives number old)) before → IsRight n (IsPutIn gives number new) f → All (IsRight n (IsPutIn gives number new)) after
    one_more_put number old new before after f kept is all here =
        let Then = IsRight n (IsPutIn gives number new) in
        let stay : All Then before = All-weaker (IsRight n (IsPutIn gives number old)) Then (λ g h. (h.0, (h.1.0, kept g.block g.output.output h.1.1))) before all in
        subst (All Then) (sym is) (All-push Then before f stay here)

    -- the blocks of several workers, and those of one more
    pub right_together : (parts : List P) (p : P) (ours theirs : List (Finished (Placed X))) → All (IsRight n (IsPlacedBy gives parts)) ours → All (IsRight n (IsPutIn gives (length parts) p)) theirs
        → All (IsRight n (IsPlacedBy gives (parts ++ p ∷ []))) (ours ++ theirs)
    right_together parts p ours theirs a b =
        let Q = IsRight n (IsPlacedBy gives (parts ++ p ∷ [])) in
        let first : All Q ours = All-weaker (IsRight n (IsPlacedBy gives parts)) Q (λ f h. (h.0, placed_before parts p f.block f.output h.1)) ours a in
        let more : All Q theirs = All-weaker (IsRight n (IsPutIn gives (length parts) p)) Q (λ f h. (h.0, placed_last parts p f.block f.output h.1)) theirs b in
        All-append Q ours theirs first more
