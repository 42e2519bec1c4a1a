use Rattle.std.proofs.Common.{◌≡◌, ◌++◌, ◌∷◌, [], Ok, Err, inr, sym}
use Rattle.std.proofs.lemmas.Result.{err_from_is_err_and}
use Rattle.nc_format.specs.declared.fault.NcFault.TheVariants.{NoMemory}
use Rattle.vec_exact.specs.Answers.{Answers}
use Rattle.nc_format.specs.Grammar.{att}
use Rattle.nc_format.proofs.Answered.{value_is}
use Rattle.nc_format.proofs.Loop.{goes_on, ends, is_done}
use Rattle.nc_format.proofs.cursor.Cursor.some_atts.Goals as goal

pub returns-in_err-att-clause-read : goal.returns-in_err-att-clause-read
returns-in_err-att-clause-read c =
    let p = err_from_is_err_and c.from_residual.result c.from_residual.ensures.1 in
    let h : Answers NoMemory (λ x. (x, c.att.new.self.at)) (Err c.in_err-att.field-0.0) ((att c.args.self.now.version).read c.args.self.now.bytes.now c.loop.self.at) = rw (← c.loop.invariant.version, ← c.loop.invariant.bytes) c.in_err-att.ensures.read in
    rw (p.1, p.2) (ends _ (λ _. att c.args.self.now.version) _ _ _ _ _ _ c.loop-test.true h c.loop.invariant.so_far)

pub loop-preserved : goal.loop-preserved
loop-preserved c =
    let x = c.in_ok-att.att in
    let e : c.push.new.self.items ≡ c.loop.items.items ++ x ∷ [] = c.in_ok-push.ensures.items in
    let h : (att c.args.self.now.version).read c.args.self.now.bytes.now c.loop.self.at ≡ Ok (x, c.att.new.self.at) = value_is x (x, c.att.new.self.at) NoMemory _ (rw (← c.loop.invariant.version, ← c.loop.invariant.bytes) c.in_ok-att.ensures.read) in
    record {
      bytes = cc;
      version = cc;
      so_far = rw e (goes_on (λ _. att c.args.self.now.version) _ _ _ _ _ _ _ _ c.loop-test.true h c.loop.invariant.so_far);
    }

pub returns-clause-read : goal.returns-clause-read
returns-clause-read c = inr (sym (is_done (λ _. att c.args.self.now.version) _ _ _ _ _ _ c.loop-test.false c.loop.invariant.so_far))
