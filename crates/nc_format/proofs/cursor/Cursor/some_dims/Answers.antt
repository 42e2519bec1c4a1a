use Rattle.std.proofs.Common.{◌≡◌, ◌++◌, ◌∷◌, [], Ok, Err, inr, sym, length-append, arith, ◌∙◌, ◌||◌, nat_eq, ap}
use Rattle.std.proofs.lemmas.Result.{err_from_is_err_and}
use Rattle.nc_format.specs.declared.fault.NcFault.TheVariants.{NoMemory}
use Rattle.vec_exact.specs.Answers.{Answers}
use Rattle.nc_format.specs.Grammar.{next_dim, is_record_dim}
use Rattle.nc_format.proofs.Answered.{value_is}
use Rattle.nc_format.proofs.Loop.{goes_on, ends, is_done, any_pushed}
use Rattle.nc_format.proofs.cursor.Cursor.some_dims.Goals as goal
use Rattle.nc_format.proofs.cursor.Cursor.some_dims.Goals.{then-seen, else-seen}

pub returns-in_err-dim-clause-read : goal.returns-in_err-dim-clause-read
returns-in_err-dim-clause-read c =
    let p = err_from_is_err_and c.from_residual.result c.from_residual.ensures.1 in
    let h : Answers NoMemory (λ x. (x, c.dim.new.self.at)) (Err c.in_err-dim.field-0.0) ((next_dim c.args.self.now.version c.loop.items.items).read c.args.self.now.bytes.now c.loop.self.at) = rw (← c.loop.invariant.version, ← c.loop.invariant.bytes, ← c.loop.invariant.seen) c.in_err-dim.ensures.read in
    rw (p.1, p.2) (ends _ (next_dim c.args.self.now.version) _ _ _ _ _ _ c.loop-test.true h c.loop.invariant.so_far)

pub loop-preserved : goal.loop-preserved
loop-preserved c =
    let x = c.in_ok-dim.dim in
    let e : c.push.new.self.items ≡ c.loop.items.items ++ x ∷ [] = c.in_ok-push.ensures.items in
    let h : (next_dim c.args.self.now.version c.loop.items.items).read c.args.self.now.bytes.now c.loop.self.at ≡ Ok (x, c.dim.new.self.at) = value_is x (x, c.dim.new.self.at) NoMemory _ (rw (← c.loop.invariant.version, ← c.loop.invariant.bytes, ← c.loop.invariant.seen) c.in_ok-dim.ensures.read) in
    let s : c.if-seen.seen ≡ (c.loop.seen || nat_eq x.len 0) = elim c.if-seen.branch [ then-seen w ↦ cc | else-seen w ↦ cc ] in
    record {
      bytes = cc;
      version = cc;
      few = rw e (omega (arith, length-append c.loop.items.items (x ∷ []), c.loop.invariant.few));
      seen = rw e (s ∙ ap (λ v. v || nat_eq x.len 0) c.loop.invariant.seen ∙ sym (any_pushed is_record_dim c.loop.items.items x));
      so_far = rw e (goes_on (next_dim c.args.self.now.version) _ _ _ _ _ _ _ _ c.loop-test.true h c.loop.invariant.so_far);
    }

pub returns-clause-read : goal.returns-clause-read
returns-clause-read c = inr (sym (is_done (next_dim c.args.self.now.version) _ _ _ _ _ _ c.loop-test.false c.loop.invariant.so_far))
