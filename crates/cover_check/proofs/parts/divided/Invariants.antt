use Rattle.std.proofs.Common.{ℕ, ◌+◌, List, ◌++◌, map, vec_len}
use Rattle.std.specs.Prelude.{All}
use Rattle.mesh_check.specs.Mesh.{corners_of}
use Rattle.cover_check.specs.Parts.{view_of, IsSoundPart, IsDivided}
use Rattle.cover_check.proofs.parts.divided.Given as goal

abbrev pub invariant-loop-part : goal.invariant-loop-part
invariant-loop-part l =
    let target = corners_of l.b l.j in
    record {
      sound : (n : ℕ) × All (IsSoundPart l.a target n) (map view_of l.waiting.items);
      divided : (all : List ℕ) → IsDivided l.a target all (map view_of l.fn.parts.items) l.fn.left
          → IsDivided l.a target all (map view_of l.next.items ++ map view_of l.waiting.items) l.left;
      fewer : (n : ℕ) → All (IsSoundPart l.a target (n + 1)) (map view_of l.fn.parts.items)
          → All (IsSoundPart l.a target (n + 1)) (map view_of l.waiting.items) × All (IsSoundPart l.a target n) (map view_of l.next.items);
    }

abbrev pub decreases-loop-part : goal.decreases-loop-part
decreases-loop-part l = vec_len l.waiting
