use Rattle.std.proofs.Common.{sym, subst, FitsSigned, rules}
use Rattle.std.proofs.lemmas.Int.{to_z-of_z}
use mir.Syntax.{w128}
use Rattle.vec_exact.specs.Size.{Is37, Is75}
use Rattle.vec_exact.proofs.Terms.{vec_eq}
use Rattle.vec_exact.proofs.Bounds.{both_37, cross_is37, cross_is75}
use Rattle.vec_exact.proofs.Bits.{read_37}
use Rattle.vec_exact.proofs.vectors.cross.Goals as goal

pub minor-requires : goal.minor-requires
minor-requires c =
    let p = both_37 c.args.a c.args.b c.requires in
    record { a_size = read_37 c.args.a.y p.0.y; b_size = read_37 c.args.a.z p.0.z; c_size = read_37 c.args.b.y p.1.y; d_size = read_37 c.args.b.z p.1.z }

pub minor-requires-2 : goal.minor-requires-2
minor-requires-2 c =
    let p = both_37 c.args.a c.args.b c.requires in
    record { a_size = read_37 c.args.a.z p.0.z; b_size = read_37 c.args.a.x p.0.x; c_size = read_37 c.args.b.z p.1.z; d_size = read_37 c.args.b.x p.1.x }

pub minor-requires-3 : goal.minor-requires-3
minor-requires-3 c =
    let p = both_37 c.args.a c.args.b c.requires in
    record { a_size = read_37 c.args.a.x p.0.x; b_size = read_37 c.args.a.y p.0.y; c_size = read_37 c.args.b.x p.1.x; d_size = read_37 c.args.b.y p.1.y }

pub returns-clause-value : goal.returns-clause-value
returns-clause-value c =
    let ax : FitsSigned w128 c.args.a.x = search rules in let bx : FitsSigned w128 c.args.b.x = search rules in
    let ay : FitsSigned w128 c.args.a.y = search rules in let by : FitsSigned w128 c.args.b.y = search rules in
    let az : FitsSigned w128 c.args.a.z = search rules in let bz : FitsSigned w128 c.args.b.z = search rules in
    let x : FitsSigned w128 c.minor.result = search rules in
    let y : FitsSigned w128 c.minor-2.result = search rules in
    let z : FitsSigned w128 c.minor-3.result = search rules in
    simp to_z-of_z (vec_eq _ _ (simp to_z-of_z at c.minor.ensures) (simp to_z-of_z at c.minor-2.ensures) (simp to_z-of_z at c.minor-3.ensures))

pub returns-clause-size : goal.returns-clause-size
returns-clause-size c =
    let p = both_37 c.args.a c.args.b c.requires in
    subst Is75 (sym (returns-clause-value c)) (cross_is75 c.args.a c.args.b p.0 p.1)

pub returns-clause-small : goal.returns-clause-small
returns-clause-small c = λ p q. subst Is37 (sym (returns-clause-value c)) (cross_is37 c.args.a c.args.b p q)
