-- What an answer of `Some` or `None` says.
use Rattle.std.proofs.Common.{◌↔◌, Option, Some, None, MatchOption, IsSome, IfSome, refl}

-- what None says may be said in other words
pub match_none : {X : Type 0} (o : Option X) (P R : Type 0) (Q : X → Type 0) → MatchOption o P Q → (P → R) → MatchOption o R Q
match_none {X} None P R Q m h = h m
match_none {X} (Some x) P R Q m h = m

none_is_none : (X : Type 0) → IsSome {T = X} None → ⊥
none_is_none X h = cc

-- where None denies P and the value at Some shows it, Some says P
pub some_iff : {X : Type 0} (o : Option X) (P : Type 0) (Q : X → Type 0) → MatchOption o (¬ P) Q → ((x : X) → Q x → P) → (IsSome o) ↔ P
some_iff {X} None P Q n q = (λ h. absurd (none_is_none X h), λ p. absurd (n p))
some_iff {X} (Some x) P Q n q = (λ _. q x n, λ _. refl)

pub if_some : {X : Type 0} (o : Option X) (P : Type 0) (Q R : X → Type 0) → MatchOption o P Q → ((x : X) → Q x → R x) → IfSome o R
if_some {X} None P Q R m h = tt
if_some {X} (Some x) P Q R m h = h x m
