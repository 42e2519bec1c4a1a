-- What a call answers that may want memory. Source: our own.
use Rattle.std.specs.Prelude.{◌≡◌, ◌⊎◌, Option, Some, Result, Ok, Err}

-- the result with its value seen by view
abbrev pub seen_by : {X Y E : Type 0} → (X → Y) → Result X E → Result Y E
seen_by view (Ok x) = Ok (view x)
seen_by view (Err fault) = Err fault

-- the result is the answer, where its value is seen by view; or memory ran out, which is the fault `memory`
abbrev pub Answers : {X Y E : Type 0} → E → (X → Y) → Result X E → Result Y E → Type 0
Answers memory view result answer = (result ≡ Err memory) ⊎ (seen_by view result ≡ answer)

-- this fault is the first one, or memory ran out, which is the fault `memory`
abbrev pub IsFirstFault : {E : Type 0} → E → Option E → E → Type 0
IsFirstFault memory first fault = (fault ≡ memory) ⊎ (first ≡ Some fault)
