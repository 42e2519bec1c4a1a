-- Sums over the variables of a document.
use Rattle.std.proofs.Common.{◌≡◌, ◌+◌, ℕ, [], ◌∷◌, arith, sum_by}
use Rattle.std.proofs.lemmas.List.Sums.{sum_by-cons}
use Rattle.nc_write.specs.declared.DocVar.{DocVar}

pub sum_of_five : (f : DocVar → ℕ) (a b c d e : DocVar) → sum_by f (a ∷ b ∷ c ∷ d ∷ e ∷ []) ≡ f a + f b + f c + f d + f e
sum_of_five f a b c d e =
    omega (arith, sum_by-cons f a (b ∷ c ∷ d ∷ e ∷ []), sum_by-cons f b (c ∷ d ∷ e ∷ []), sum_by-cons f c (d ∷ e ∷ []), sum_by-cons f d (e ∷ []), sum_by-cons f e [])
