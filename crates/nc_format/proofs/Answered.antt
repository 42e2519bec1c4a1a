-- What is known where a call answered what it should, or memory ran out.
use Rattle.std.proofs.Common.{◌≡◌, ◌⊎◌, Result, Ok, Err, sym, inl, inr}

-- a result that is a fault
abbrev pub failed : {X E : Type 0} → E → Result X E
failed fault = Err fault

-- a value that was answered is the one to be answered
pub value_is : {X Y E : Type 0} (value : X) (seen : Y) (memory : E) (answer : Result Y E) → (Ok value ≡ failed memory) ⊎ (Ok seen ≡ answer) → answer ≡ Ok seen
value_is value seen memory answer (inl h) = absurd cc
value_is value seen memory answer (inr h) = sym h
