use Rattle.std.proofs.Common.{true, ◌≡◌, ◌∙◌, ap, sym, subst, arith, ℤ, pos, ◌-ℤ◌, ◌*ℤ◌, ◌<ℤ◌}
use Rattle.std.proofs.lemmas.Int.{ints, to_z-of_z}
use lib.Signed.{le_z, lt_z}
use mir.Syntax.{w32, w64}
use mir.Val.{to_z, of_z}
use Rattle.map_rows.proofs.Floors.{near_rest, guess_is, kept64}
use Rattle.map_rows.proofs.shares.near_share.Goals as goal

pub returns-then-rest-area-clause-whole : goal.returns-then-rest-area-clause-whole
returns-then-rest-area-clause-whole c =
    let n = c.args.sum in
    let a = c.args.area in
    let g = c.args.guess in
    let same = to_z-of_z w32 g c.ranges.guess in
    let rest = near_rest n a g c.from.result c.requires.area c.requires.narrow c.requires.least c.requires.greatest c.ranges.guess (c.from.ensures ∙ same) in
    let area = kept64 a (omega (arith, ints, c.requires.area)) (omega (arith, ints, c.requires.narrow)) in
    let low = subst (λ (x : ℤ). le_z (pos 0) x ≡ true) rest c.if-rest-ge0.true in
    let high = subst (λ (x : ℤ). lt_z (n -ℤ (a *ℤ g)) x ≡ true) area (subst (λ (x : ℤ). lt_z x (to_z w64 (of_z w64 a)) ≡ true) rest c.if-rest-area.true) in
    same ∙ guess_is n a g c.requires.area (omega (arith, ints, low)) (omega (arith, ints, high))

pub returns-then-rest-area-clause-rest : goal.returns-then-rest-area-clause-rest
returns-then-rest-area-clause-rest c =
    let n = c.args.sum in
    let a = c.args.area in
    let g = c.args.guess in
    let same = to_z-of_z w32 g c.ranges.guess in
    let rest = near_rest n a g c.from.result c.requires.area c.requires.narrow c.requires.least c.requires.greatest c.ranges.guess (c.from.ensures ∙ same) in
    let area = kept64 a (omega (arith, ints, c.requires.area)) (omega (arith, ints, c.requires.narrow)) in
    let low = subst (λ (x : ℤ). le_z (pos 0) x ≡ true) rest c.if-rest-ge0.true in
    let high = subst (λ (x : ℤ). lt_z (n -ℤ (a *ℤ g)) x ≡ true) area (subst (λ (x : ℤ). lt_z x (to_z w64 (of_z w64 a)) ≡ true) rest c.if-rest-area.true) in
    rest ∙ ap (λ (q : ℤ). n -ℤ (a *ℤ q)) (guess_is n a g c.requires.area (omega (arith, ints, low)) (omega (arith, ints, high)))

pub narrow_share-requires-clause-narrow : goal.narrow_share-requires-clause-narrow
narrow_share-requires-clause-narrow c =
    let area = kept64 c.args.area (omega (arith, ints, c.requires.area)) (omega (arith, ints, c.requires.narrow)) in
    subst (λ (x : ℤ). x <ℤ pos 4294967296) (sym area) (omega (arith, ints, c.requires.narrow))
