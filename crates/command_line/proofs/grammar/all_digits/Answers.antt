use Rattle.std.proofs.Common.{◌≡◌, ◌∙◌, ◌+◌, ◌&&◌, Bool, ap, sym, drop, slice_index_or}
use Rattle.std.proofs.lemmas.List.{at_drop_more}
use Rattle.std.specs.Char.{is_ascii_digit}
use Rattle.std.specs.Str.{all_ascii_digits}
use Rattle.command_line.proofs.grammar.all_digits.Goals as goal

pub loop-b-preserved : goal.loop-b-preserved
loop-b-preserved c =
    let bytes = c.args.bytes.now in
    let i = c.loop-b.b-index in
    let rest = all_ascii_digits (drop (i + 1) bytes) in
    let here : is_ascii_digit (slice_index_or bytes i 0) ≡ c.is_ascii_digit.result = sym c.is_ascii_digit.ensures.value in
    sym (at_drop_more all_ascii_digits bytes i 0 c.loop-b-test.true ∙ ap (λ (b : Bool). b && rest) (here ∙ c.if-not-is_ascii_digit.false)) ∙ c.loop-b.invariant

pub returns-then-not-is_ascii_digit : goal.returns-then-not-is_ascii_digit
returns-then-not-is_ascii_digit c =
    let bytes = c.args.bytes.now in
    let i = c.loop-b.b-index in
    let rest = all_ascii_digits (drop (i + 1) bytes) in
    let here : is_ascii_digit (slice_index_or bytes i 0) ≡ c.is_ascii_digit.result = sym c.is_ascii_digit.ensures.value in
    sym (at_drop_more all_ascii_digits bytes i 0 c.loop-b-test.true ∙ ap (λ (b : Bool). b && rest) (here ∙ c.if-not-is_ascii_digit.true)) ∙ c.loop-b.invariant
