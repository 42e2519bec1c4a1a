-- How many nodes and faces a mesh may have. Source: our own.
use Rattle.std.specs.Prelude.{ℕ, ◌≤◌}
use Rattle.vec_exact.specs.declared.limits.TheConstants.{MAX_NODES, MAX_FACES}

-- the counts of a mesh are within their limits
pub record AreAllowedCounts (nodes faces : ℕ) : Type 0 where
  pub node_limit : nodes ≤ MAX_NODES
  pub face_limit : faces ≤ MAX_FACES
