use Rattle.std.proofs.Common.{◌≡◌, ◌≤◌, length}
use Rattle.vec_exact.specs.Counts.{AreAllowedCounts}
use Rattle.gen_ico.specs.Dual.{dual_of}
use Rattle.gen_ico.proofs.MadeMesh.{base_small, base_triangles, dual_counts, dual_some, if_ok}
use Rattle.gen_ico.proofs.raw_mesh.Goals as goal

pub dual-requires-clause-triangles : goal.dual-requires-clause-triangles
dual-requires-clause-triangles c = base_triangles c.args.n c.in_ok-base.base c.in_ok-base.ensures.mesh

pub dual-requires-clause-small : goal.dual-requires-clause-small
dual-requires-clause-small c = base_small c.args.n c.in_ok-base.base c.requires.least c.in_ok-base.ensures.mesh

pub returns-then-dual-clause-some_face : goal.returns-then-dual-clause-some_face
returns-then-dual-clause-some_face c =
    let base = c.in_ok-base.base in
    if_ok (λ raw. raw ≡ dual_of base) (λ raw. 1 ≤ length raw.faces) c.dual.result (λ raw e. dual_some c.args.n base raw c.in_ok-base.ensures.mesh e) c.dual.ensures

pub returns-then-dual-clause-counts : goal.returns-then-dual-clause-counts
returns-then-dual-clause-counts c =
    let base = c.in_ok-base.base in
    if_ok (λ raw. raw ≡ dual_of base) (λ raw. AreAllowedCounts (length raw.nodes) (length raw.faces)) c.dual.result (λ raw e. dual_counts base raw e c.in_ok-base.ensures.nodes c.in_ok-base.ensures.faces) c.dual.ensures
