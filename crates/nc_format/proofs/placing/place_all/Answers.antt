use Rattle.std.proofs.Common.{◌≡◌, ◌∙◌, sym, subst, ap, not, map}
use Rattle.std.proofs.lemmas.List.Edits.{map_over_more}
use Rattle.nc_format.specs.declared.NcVar.{NcVar}
use Rattle.nc_format.specs.Placing.{placed, step_from, is_outside}
use Rattle.std.specs.List.{position_from}
use Rattle.std.proofs.lemmas.Iterator.Adapters.{position_from-zero}
use Rattle.nc_format.proofs.Outside.{not_moved, not_false, not_true, outside_goes_on, outside_found, outside_none}
use Rattle.nc_format.proofs.placing.place_all.Goals as goal

pub returns-then-not-place-clause-outside : goal.returns-then-not-place-clause-outside
returns-then-not-place-clause-outside c =
    let s = step_from c.args.dims.now c.args.vars.now in
    let f : NcVar → NcVar = placed c.args.records c.args.dims.now s in
    let x = c.index-vars-number.result in
    let is = not_moved f c.args.vars.now c.loop-number.vars c.loop-number.number x c.loop-number-test.true c.loop-number.invariant.vars c.index-vars-number.is in
    let out = not_false c.place.result (is_outside c.args.len (f x)) (subst (λ (v : NcVar). c.place.result ≡ not (is_outside c.args.len (f v))) (sym c.index-vars-number.is) (c.place.ensures.inside s c.step-step.ensures)) c.if-not-place.true in
    outside_found f c.args.len c.args.vars.now c.loop-number.number x (position_from (is_outside c.args.len) 0 (map f c.args.vars.now)) c.loop-number-test.true is out c.loop-number.invariant.so_far ∙ sym (position_from-zero (is_outside c.args.len) (map f c.args.vars.now))

pub loop-number-preserved : goal.loop-number-preserved
loop-number-preserved c =
    let s = step_from c.args.dims.now c.args.vars.now in
    let f : NcVar → NcVar = placed c.args.records c.args.dims.now s in
    let x = c.index-vars-number.result in
    let is = not_moved f c.args.vars.now c.loop-number.vars c.loop-number.number x c.loop-number-test.true c.loop-number.invariant.vars c.index-vars-number.is in
    let out = not_true c.place.result (is_outside c.args.len (f x)) (subst (λ (v : NcVar). c.place.result ≡ not (is_outside c.args.len (f v))) (sym c.index-vars-number.is) (c.place.ensures.inside s c.step-step.ensures)) c.if-not-place.false in
    let put : c.place.new.var ≡ f x = c.place.ensures.placed s c.step-step.ensures c.if-not-place.false ∙ ap f (sym c.index-vars-number.is) in
    record {
      vars = rw put (map_over_more f c.args.vars.now c.loop-number.vars c.loop-number.number x c.loop-number-test.true c.loop-number.invariant.vars c.index-vars-number.is);
      so_far = outside_goes_on f c.args.len c.args.vars.now c.loop-number.number x (position_from (is_outside c.args.len) 0 (map f c.args.vars.now)) c.loop-number-test.true is out c.loop-number.invariant.so_far;
    }

pub returns-clause-outside : goal.returns-clause-outside
returns-clause-outside c =
    let s = step_from c.args.dims.now c.args.vars.now in
    let f : NcVar → NcVar = placed c.args.records c.args.dims.now s in
    outside_none f c.args.len c.args.vars.now c.loop-number.number (position_from (is_outside c.args.len) 0 (map f c.args.vars.now)) c.loop-number-test.false c.loop-number.invariant.so_far ∙ sym (position_from-zero (is_outside c.args.len) (map f c.args.vars.now))
