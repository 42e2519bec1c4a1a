-- Names of variables with their places.
use Rattle.std.specs.Prelude.{◌≡◌, ℕ, List}
use Rattle.std.specs.BTreeMap.{BTreeMap, get_by}
use Rattle.std.specs.Cmp.Lexicographic.{slice_cmp}
use Rattle.std.specs.Ordering.{nat_cmp}
use denote.Ref.{Bor}
use Rattle.nc_format.specs.declared.NcVar.{NcVar}
use Rattle.nc_format.specs.Numbers.{var_named}

-- each name finds the first variable that has it
abbrev pub ArePlaces : List NcVar → BTreeMap (Bor (List ℕ)) ℕ → Type 0
ArePlaces vars map = (name : List ℕ) → get_by (λ k. slice_cmp nat_cmp name k.now) map ≡ var_named vars name
