use Rattle.std.proofs.Common.{ℕ, Bool, ◌∙◌, sym, arith}
use Rattle.map_files.specs.MapValues.{is_good_map_row}
use Rattle.exodus_mesh.proofs.FirstNot.{first_is, none_is, one_more_good}
use Rattle.map_files.proofs.values.first_bad_row.Goals as goal

pub loop-number-init : goal.loop-number-init
loop-number-init c k below = absurd (omega (arith, below))

pub returns-then-not-is_good_row-clause-first : goal.returns-then-not-is_good_row-clause-first
returns-then-not-is_good_row-clause-first c =
    let v = c.args.vars.now in
    let good : ℕ → Bool = is_good_map_row v.n_a v.n_b (record { col = c.args.col.now; row = c.args.row.now; s = c.args.s.now }) in
    sym (first_is good v.n_s c.loop-number.number c.loop-number-test.true c.loop-number.invariant (sym c.is_good_row.ensures ∙ c.if-not-is_good_row.true))

pub loop-number-preserved : goal.loop-number-preserved
loop-number-preserved c =
    let v = c.args.vars.now in
    let good : ℕ → Bool = is_good_map_row v.n_a v.n_b (record { col = c.args.col.now; row = c.args.row.now; s = c.args.s.now }) in
    one_more_good good c.loop-number.number c.loop-number.invariant (sym c.is_good_row.ensures ∙ c.if-not-is_good_row.false)

pub returns-clause-first : goal.returns-clause-first
returns-clause-first c =
    let v = c.args.vars.now in
    let good : ℕ → Bool = is_good_map_row v.n_a v.n_b (record { col = c.args.col.now; row = c.args.row.now; s = c.args.s.now }) in
    sym (none_is good v.n_s (λ k below. c.loop-number.invariant k (omega (arith, below, c.loop-number-test.false))))
