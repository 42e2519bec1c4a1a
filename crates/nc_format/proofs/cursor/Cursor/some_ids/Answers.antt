use Rattle.std.proofs.Common.{◌≡◌, ◌++◌, ◌∷◌, [], Ok, Err, inr, sym, length-append, arith}
use Rattle.std.proofs.lemmas.Result.{err_from_is_err_and}
use Rattle.nc_format.specs.declared.fault.NcFault.TheVariants.{NoMemory}
use Rattle.vec_exact.specs.Answers.{Answers}
use Rattle.nc_format.specs.Grammar.{next_id}
use Rattle.nc_format.proofs.Answered.{value_is}
use Rattle.nc_format.proofs.Loop.{goes_on, ends, is_done}
use Rattle.nc_format.proofs.cursor.Cursor.some_ids.Goals as goal

pub returns-in_err-id-clause-read : goal.returns-in_err-id-clause-read
returns-in_err-id-clause-read c =
    let p = err_from_is_err_and c.from_residual.result c.from_residual.ensures.1 in
    let h : Answers NoMemory (λ x. (x, c.id.new.self.at)) (Err c.in_err-id.field-0.0) ((next_id c.args.self.now.version c.args.dims.now c.loop-place.items.items).read c.args.self.now.bytes.now c.loop-place.self.at) = rw (← c.loop-place.invariant.version, ← c.loop-place.invariant.bytes, c.loop-place.invariant.few) c.in_err-id.ensures.read in
    rw (p.1, p.2) (ends _ (next_id c.args.self.now.version c.args.dims.now) _ _ _ _ _ _ c.loop-place-test.true h c.loop-place.invariant.so_far)

pub loop-place-preserved : goal.loop-place-preserved
loop-place-preserved c =
    let x = c.in_ok-id.id in
    let e : c.push.new.self.items ≡ c.loop-place.items.items ++ x ∷ [] = c.in_ok-push.ensures.items in
    let h : (next_id c.args.self.now.version c.args.dims.now c.loop-place.items.items).read c.args.self.now.bytes.now c.loop-place.self.at ≡ Ok (x, c.id.new.self.at) = value_is x (x, c.id.new.self.at) NoMemory _ (rw (← c.loop-place.invariant.version, ← c.loop-place.invariant.bytes, c.loop-place.invariant.few) c.in_ok-id.ensures.read) in
    record {
      bytes = cc;
      version = cc;
      few = rw e (omega (arith, length-append c.loop-place.items.items (x ∷ []), c.loop-place.invariant.few));
      so_far = rw e (goes_on (next_id c.args.self.now.version c.args.dims.now) _ _ _ _ _ _ _ _ c.loop-place-test.true h c.loop-place.invariant.so_far);
    }

pub returns-clause-read : goal.returns-clause-read
returns-clause-read c = inr (sym (is_done (next_id c.args.self.now.version c.args.dims.now) _ _ _ _ _ _ c.loop-place-test.false c.loop-place.invariant.so_far))
