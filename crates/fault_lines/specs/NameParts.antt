-- The parts in which a name is put. No public contract cites them.
use Rattle.std.specs.Prelude.{ℕ, List, [], decimal}
use Rattle.exodus_mesh.specs.declared.ids.NameId.{NameId}
use Rattle.exodus_mesh.specs.declared.ids.NameId.TheVariants.{Connect}

-- the digits behind the name of a block's variable
abbrev pub number_behind : NameId → List ℕ
number_behind (Connect n) = decimal n
number_behind id = []
