use Rattle.std.proofs.Common.{inl, ap, ◌∙◌, FitsSigned, rules}
use Rattle.std.proofs.lemmas.Int.{to_z-of_z}
use mir.Syntax.{w128}
use Rattle.vec_exact.specs.Side.{sign_of}
use Rattle.vec_exact.proofs.Bits.{sign_neg, sign_on, sign_pos}
use Rattle.vec_exact.proofs.vectors.side.Goals as goal

pub dot-along-requires : goal.dot-along-requires
dot-along-requires c = inl (inl (c.requires.n_size, c.requires.d_size))

pub returns-then-along-lt0 : goal.returns-then-along-lt0
returns-then-along-lt0 c =
    let f : FitsSigned w128 c.dot-along.result = search rules in
    sign_neg c.dot-along.result (simp to_z-of_z at c.if-along-lt0.true) ∙ ap sign_of c.dot-along.ensures.value

pub returns-then-along-eq0 : goal.returns-then-along-eq0
returns-then-along-eq0 c = sign_on c.dot-along.result c.if-along-eq0.true c.dot-along.ensures.size ∙ ap sign_of c.dot-along.ensures.value

pub returns-else-along-eq0 : goal.returns-else-along-eq0
returns-else-along-eq0 c =
    let f : FitsSigned w128 c.dot-along.result = search rules in
    sign_pos c.dot-along.result (simp to_z-of_z at c.if-along-lt0.false) c.if-along-eq0.false ∙ ap sign_of c.dot-along.ensures.value
