use Rattle.std.proofs.Common.{◌≡◌, ◌/◌, arith, ap, ◌∙◌, ℕ, min, max}
use Rattle.std.proofs.lemmas.Int.{ints}
use Rattle.vec_exact.specs.Root.{root_of}
use Rattle.vec_exact.proofs.Roots.{root_unique}
use Rattle.cell_index.proofs.face_boxes.fineness.Goals as goal

pub returns-clause-value : goal.returns-clause-value
returns-clause-value c =
    let e = root_unique (c.args.faces / 24) c.isqrt.result c.isqrt.ensures.square_le c.isqrt.ensures.next_square_gt in
    let f : c.clamp.result ≡ max 1 (min (root_of (c.args.faces / 24)) 256) = c.clamp.ensures ∙ ap (λ (r : ℕ). max 1 (min r 256)) e in
    omega (arith, ints, f)
