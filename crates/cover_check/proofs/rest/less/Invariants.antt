use Rattle.std.proofs.Common.{ℕ, ◌+◌, ◌≡◌, length, map}
use Rattle.std.specs.Prelude.{All}
use Rattle.mesh_check.specs.Mesh.{corners_of}
use Rattle.cover_check.specs.Parts.{view_of, IsSoundPart, IsDivided}
use Rattle.cover_check.proofs.rest.less.Given as goal

abbrev pub invariant-loop-time : goal.invariant-loop-time
invariant-loop-time l =
    let target = corners_of l.b l.j in
    record {
      divided : IsDivided l.a target l.faces (map view_of l.parts.items) l.left;
      fewer : (n : ℕ) → n + l._time ≡ length l.faces → All (IsSoundPart l.a target n) (map view_of l.parts.items);
    }
