use Rattle.std.proofs.Common.{◌≡◌, ◌∙◌, ◌-◌, ◌+◌, ℕ, ℤ, List, [], ◌∷◌, ◌++◌, map, FitsSigned, sym, ap, ap₂, arith, rules}
use Rattle.std.specs.List.{range_with_len}
use Rattle.std.proofs.lemmas.Int.{to_z-of_z}
use Rattle.std.proofs.lemmas.List.FromFn.{map-range_with_len_more}
use mir.Syntax.{w32}
use Rattle.tempest_top.specs.SelfRuns.{value_of_face}
use Rattle.tempest_top.proofs.self_run.values_of.Goals as goal

pub loop-face-preserved : goal.loop-face-preserved
loop-face-preserved c =
    let face = c.loop-face.face in
    let fits : FitsSigned w32 c.value_of.result = search rules in
    let grown : c.push.new.self.items ≡ c.loop-face.values.items ++ c.value_of.result ∷ [] = simp to_z-of_z at c.in_ok-push.ensures.items in
    let here : 1 + (face - 1) ≡ face = omega arith in
    let next : face - 1 + 1 ≡ face + 1 - 1 = omega arith in
    grown
    ∙ ap₂ (λ (xs : List ℤ) (x : ℤ). xs ++ x ∷ []) c.loop-face.invariant c.value_of.ensures
    ∙ sym (map-range_with_len_more value_of_face 1 (face - 1) face here)
    ∙ ap (λ (n : ℕ). map value_of_face (range_with_len 1 n)) next

pub returns : goal.returns
returns c =
    let last : c.loop-face.face - 1 ≡ c.args.count = omega arith in
    c.loop-face.invariant ∙ ap (λ (n : ℕ). map value_of_face (range_with_len 1 n)) last
