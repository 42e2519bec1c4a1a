use Rattle.std.proofs.Common.{◌≡◌, ℕ, List, [], ◌++◌, take, drop, suc, get_or, codes, sym, subst, arith, Bor}
use Rattle.std.specs.Prelude.{⊤}
use Rattle.std.proofs.lemmas.Grind.{common_steps}
use Rattle.std.specs.List.{flat_map}
use Rattle.remap_io.specs.Held.{GainsPart}
use Rattle.remap_io.proofs.Counts.{no_put_falls}
use Rattle.fault_lines.specs.Lines.{line_of, GainsLine, IsPutRefused}
use Rattle.fault_lines.proofs.Gaining.{refused_in, gains_cut, gains_cut_first, gains_last, line_split, cause_in}
use Rattle.fault_lines.proofs.lines.put_line.Goals as goal

pub returns-then-not-put_part : goal.returns-then-not-put_part
returns-then-not-put_part g c =
    let cut = c.if-not-put_part.ensures in
    record { line = gains_cut_first _ _ (codes "tempest: ") _ _ cut.gained cut.cause }

pub returns-then-not-put_part-2 : goal.returns-then-not-put_part-2
returns-then-not-put_part-2 g c =
    let cut = c.if-not-put_part-2.ensures in
    let so_far = c.loop-part.invariant in
    let now = λ (part : Bor (List ℕ)). part.now in
    let parts = c.args.parts.now in
    let i = c.loop-part.part-index in
    let nothing : Bor (List ℕ) = record { ref_ptr = (0, 0); now = [] } in
    let old = g.E.Sink.seen c.args.err.now in
    let mid = g.E.Sink.seen c.loop-part.err in
    let new = g.E.Sink.seen c.put_part-in-loop-part.new.err in
    let cause : IsPutRefused old new = refused_in old mid new new so_far.counts cut.cause (no_put_falls new) in
    let part : GainsPart mid.contents new.contents (get_or parts i nothing).now = subst (GainsPart mid.contents new.contents) c.as_bytes.ensures.value cut.gained in
    record {
      line = subst (λ l. GainsLine old.contents new.contents l (IsPutRefused old new)) (sym (line_split now parts i nothing c.loop-part-test.true))
          (gains_cut _ _ _ (codes "tempest: " ++ flat_map now (take i parts)) _ (flat_map now (drop (suc i) parts) ++ codes "\n") (IsPutRefused old new) so_far.gained part cause);
    }

pub returns : goal.returns
returns g c =
    let last = c.put_part-2.ensures in
    let so_far = c.loop-part.invariant in
    let now = λ (part : Bor (List ℕ)). part.now in
    let parts = c.args.parts.now in
    let old = g.E.Sink.seen c.args.err.now in
    let mid = g.E.Sink.seen c.loop-part.err in
    let new = g.E.Sink.seen c.put_part-2.new.err in
    let all : take c.loop-part.part-index parts ≡ parts = grind (arith, common_steps) in
    let cause = cause_in ⊤ (IsPutRefused mid new) (IsPutRefused old new) c.put_part-2.result (λ (h : IsPutRefused mid new). refused_in old mid new new so_far.counts h (no_put_falls new)) last.cause in
    record {
      line = subst (λ ps. GainsLine old.contents new.contents (line_of (flat_map now ps)) (IsPutRefused old new)) all
          (gains_last _ _ _ (codes "tempest: " ++ flat_map now (take c.loop-part.part-index parts)) (codes "\n") (IsPutRefused old new) _ c.put_part-2.result so_far.gained last.gained cause);
    }
