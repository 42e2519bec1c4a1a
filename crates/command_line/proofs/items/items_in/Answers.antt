use Rattle.std.proofs.Common.{rules, ◌≡◌, ◌∙◌, ◌++◌, ap, arith, List, [], ◌∷◌, map, option_map}
use Rattle.std.proofs.lemmas.List.{map-append}
use Rattle.command_line.specs.Items.{Item, items_of}
use Rattle.command_line.specs.Views.{item_of}
use Rattle.command_line.specs.Words.{texts}
use Rattle.command_line.proofs.FirstItems.{walks_on}
use Rattle.command_line.proofs.items.items_in.Goals as goal

pub loop-rest-preserved : goal.loop-rest-preserved
loop-rest-preserved c =
    let done = map item_of c.loop-rest.items.items in
    let pushed : c.push.new.self.items ≡ c.loop-rest.items.items ++ c.in-Some.item ∷ [] = search rules in
    let grown : map item_of c.push.new.self.items ≡ done ++ item_of c.in-Some.item ∷ [] = ap (map item_of) pushed ∙ map-append item_of c.loop-rest.items.items (c.in-Some.item ∷ []) in
    let on = walks_on done c.loop-rest.rest.now c.in-Some.behind.now c.word-item.result (item_of c.in-Some.item) (omega arith) c.word-item.is (search rules) in
    ap (λ (found : List Item). option_map (λ after. found ++ after) (items_of (texts c.in-Some.behind.now))) grown ∙ on ∙ c.loop-rest.invariant
