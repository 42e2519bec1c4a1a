use Rattle.std.proofs.Common.{◌≡◌, ℕ, zero, suc, ◌<◌, arith, refl}
use Rattle.std.proofs.lemmas.Result.{IfOk-weaker}
use Rattle.vec_exact.specs.declared.Vec3.{Vec3}
use Rattle.mesh_check.specs.Mesh.{corners_of}
use Rattle.cover_cells.specs.Cells.{cells_with}
use Rattle.cover_cells.specs.Coverage.{IsUncoveredDirection}
use Rattle.cover_check.specs.Rest.{IsRest}
use Rattle.cover_check.proofs.rest.remainder.Goals as goal

none_where : (P : Type 0) (n : ℕ) → (0 < n → P) → ¬ P → n ≡ 0
none_where P zero h never = refl
none_where P (suc n) h never = absurd (never (h (omega arith)))

pub returns-clause-none : goal.returns-clause-none
returns-clause-none c =
    let sources = c.args.a.now in let target = corners_of c.args.b.now c.args.j in
    IfOk-weaker c.rest.result (IsRest sources target)
    (λ cells. (d : Vec3) → ¬ IsUncoveredDirection sources target d → cells_with sources target d cells ≡ 0)
    (λ cells r d. none_where (IsUncoveredDirection sources target d) (cells_with sources target d cells) (r.uncovered d))
    c.rest.ensures
