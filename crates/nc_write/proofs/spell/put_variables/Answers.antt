use Rattle.std.proofs.Common.{◌≡◌, ◌≤◌, ◌<◌, ◌++◌, ◌+◌, length, get_or, Bool, if◌then◌else◌, sym, ap, ◌∙◌, arith}
use Rattle.nc_write.specs.declared.NcDoc.{NcDoc}
use Rattle.nc_write.specs.Widths.{variable_tag}
use Rattle.nc_write.specs.File.{tagged, variables, begin_of, fixed_len, first_len, fixed_total}
use Rattle.nc_write.proofs.Behind.{variables_next, variables_end, no_variables, behind}
use Rattle.nc_write.proofs.spell.put_variables.Goals as goal
use Rattle.nc_write.proofs.spell.put_variables.Goals.{then-is_record_var, else-is_record_var}

pub loop-var-preserved : goal.loop-var-preserved
loop-var-preserved c =
    let doc = c.args.doc.now in
    let same : c.deref-var-items.result.now ≡ doc.vars = c.deref-var-items.ensures.value ∙ ap (λ (d : NcDoc). d.vars) c.doc.view_is in
    let v = c.var-item.result in
    let i = c.loop-var.var-index in
    let inside : i < length doc.vars = omega (arith, ap length same, c.loop-var-test.true) in
    let is : v ≡ get_or doc.vars i v = c.var-item.is ∙ ap (λ l. get_or l i v) same in
    let fixed = c.loop-var.fixed in
    let place = c.loop-var.record_place in
    let at : c.if-is_record_var.at ≡ begin_of doc fixed place v = elim c.if-is_record_var.branch [
      | then-is_record_var w ↦ w.at-is ∙ sym (ap (λ (b : Bool). if b then place else fixed) (sym c.is_record_var.ensures ∙ w.if-is_record_var.true))
      | else-is_record_var w ↦ w.at-is ∙ sym (ap (λ (b : Bool). if b then place else fixed) (sym c.is_record_var.ensures ∙ w.if-is_record_var.false))
    ] in
    let f = behind (fixed_len doc) doc.vars i v c.args.begin fixed c.fixed_len-fixed.result inside is (omega (arith, c.requires.room)) c.loop-var.invariant.fixed c.fixed_len-fixed.ensures in
    let p = behind (first_len doc) doc.vars i v (c.args.begin + fixed_total doc) place c.first_len-record_place.result inside is c.requires.room c.loop-var.invariant.record_place c.first_len-record_place.ensures in
    record {
      spelt = variables_next doc doc.vars i v c.if-is_record_var.at fixed place (fixed + c.fixed_len-fixed.result) (place + c.first_len-record_place.result) c.loop-var.out.items c.put_variable.new.out.items _ inside is at f.len_is p.len_is c.in_ok-put_variable.ensures c.loop-var.invariant.spelt;
      fixed = f.place_is;
      record_place = p.place_is;
    }

pub returns : goal.returns
returns c =
    let doc = c.args.doc.now in
    let same : c.deref-var-items.result.now ≡ doc.vars = c.deref-var-items.ensures.value ∙ ap (λ (d : NcDoc). d.vars) c.doc.view_is in
    let all = variables doc c.args.begin (c.args.begin + fixed_total doc) doc.vars in
    let count : c.len.result ≡ length doc.vars = omega (arith, c.len.ensures, c.deref-var-items.ensures.len, ap length same) in
    let past : length doc.vars ≤ c.loop-var.var-index = omega (arith, ap length same, c.loop-var-test.false) in
    variables_end doc c.loop-var.fixed c.loop-var.record_place c.loop-var.var-index doc.vars c.loop-var.out.items _ past c.loop-var.invariant.spelt
    ∙ c.in_ok-put_tag.ensures all (λ e. no_variables doc c.args.begin (c.args.begin + fixed_total doc) doc.vars (sym count ∙ e))
    ∙ ap (λ n. c.args.out.now.items ++ tagged c.args.version variable_tag n all) count
