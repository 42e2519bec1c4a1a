use Rattle.std.proofs.Common.{◌≡◌, ◌++◌, ◌∷◌, [], Ok, Err, inr, sym, length-append, arith}
use Rattle.std.proofs.lemmas.Result.{err_from_is_err_and}
use Rattle.nc_format.specs.declared.fault.NcFault.TheVariants.{NoMemory}
use Rattle.vec_exact.specs.Answers.{Answers}
use Rattle.nc_format.specs.Grammar.{var}
use Rattle.nc_format.proofs.Answered.{value_is}
use Rattle.nc_format.proofs.Loop.{goes_on, ends, is_done}
use Rattle.nc_format.proofs.cursor.Cursor.some_vars.Goals as goal

pub returns-in_err-var-clause-read : goal.returns-in_err-var-clause-read
returns-in_err-var-clause-read c =
    let p = err_from_is_err_and c.from_residual.result c.from_residual.ensures.1 in
    let h : Answers NoMemory (λ x. (x, c.var.new.self.at)) (Err c.in_err-var.field-0.0) ((var c.args.self.now.version c.args.dims.now).read c.args.self.now.bytes.now c.loop.self.at) = rw (← c.loop.invariant.version, ← c.loop.invariant.bytes) c.in_err-var.ensures.read in
    rw (p.1, p.2) (ends _ (λ _. var c.args.self.now.version c.args.dims.now) _ _ _ _ _ _ c.loop-test.true h c.loop.invariant.so_far)

pub loop-preserved : goal.loop-preserved
loop-preserved c =
    let x = c.in_ok-var.var in
    let e : c.push.new.self.items ≡ c.loop.items.items ++ x ∷ [] = c.in_ok-push.ensures.items in
    let h : (var c.args.self.now.version c.args.dims.now).read c.args.self.now.bytes.now c.loop.self.at ≡ Ok (x, c.var.new.self.at) = value_is x (x, c.var.new.self.at) NoMemory _ (rw (← c.loop.invariant.version, ← c.loop.invariant.bytes) c.in_ok-var.ensures.read) in
    record {
      bytes = cc;
      version = cc;
      few = rw e (omega (arith, length-append c.loop.items.items (x ∷ []), c.loop.invariant.few));
      so_far = rw e (goes_on (λ _. var c.args.self.now.version c.args.dims.now) _ _ _ _ _ _ _ _ c.loop-test.true h c.loop.invariant.so_far);
    }

pub returns-clause-read : goal.returns-clause-read
returns-clause-read c = inr (sym (is_done (λ _. var c.args.self.now.version c.args.dims.now) _ _ _ _ _ _ c.loop-test.false c.loop.invariant.so_far))
