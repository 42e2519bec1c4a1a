-- What a fault says that is answered where memory may run out.
use Rattle.std.specs.Prelude.{◌≡◌, ◌⊎◌, Result, Err}

-- this fault is what was to be answered, or memory ran out, which is the fault `memory`
abbrev pub IsFaultOf : {Y E : Type 0} → E → Result Y E → E → Type 0
IsFaultOf memory answer fault = (fault ≡ memory) ⊎ (answer ≡ Err fault)
