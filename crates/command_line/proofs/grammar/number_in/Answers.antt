use Rattle.std.proofs.Common.{◌≡◌, ◌∙◌, ◌<◌, ap, true, length, arith, rules}
use Rattle.std.specs.Str.{all_ascii_digits}
use Rattle.std.specs.Str.Parse.{digits_value}
use Rattle.std.specs.Result.{result_ok}
use Rattle.std.proofs.lemmas.Bool.Decides.{nat_tests}
use Rattle.std.proofs.lemmas.Str.Parse.{IsNumeralModel, numerals_by_value, tells_all_ascii_digits, digits_value_short, parse_gives}
use Rattle.command_line.specs.Words.{is_numeral}
use Rattle.command_line.proofs.grammar.number_in.Goals as goal

own : IsNumeralModel (λ ds. all_ascii_digits ds ≡ true) (digits_value 10)
own = numerals_by_value _ tells_all_ascii_digits

pub returns : goal.returns
returns c =
    let text = c.args.text.now in
    let digits : all_ascii_digits text ≡ true = search rules in
    let filled : 0 < length text = search rules in
    let small = digits_value_short own text 6 digits (omega arith) in
    let read = parse_gives own 32 text c.parse.result c.parse.ensures.value.0 digits filled (omega arith) in
    let numeral : is_numeral text ≡ true = grind (arith, nat_tests) in
    rw numeral (c.ok.ensures.value ∙ ap result_ok read)
