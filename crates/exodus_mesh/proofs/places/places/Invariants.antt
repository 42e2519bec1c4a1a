use Rattle.std.proofs.Common.{◌≡◌, ◌-◌, ℕ, List, drop, length}
use Rattle.std.specs.BTreeMap.{get_by}
use Rattle.std.specs.Cmp.Lexicographic.{slice_cmp}
use Rattle.std.specs.Ordering.{nat_cmp}
use Rattle.std.specs.List.{position_from}
use Rattle.std.specs.Str.{bytes_eq}
use Rattle.exodus_mesh.proofs.places.places.Given as goal

abbrev pub invariant-loop-done : goal.invariant-loop-done
invariant-loop-done l = (name : List ℕ) → get_by (λ k. slice_cmp nat_cmp name k.now) l.map ≡ position_from (λ v. bytes_eq v.name name) (length l.vars - l.done) (drop (length l.vars - l.done) l.vars)
