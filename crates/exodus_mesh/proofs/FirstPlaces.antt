-- Places of names, from the last variable to the first.
use Rattle.std.proofs.Common.{◌≡◌, ◌<◌, ◌≤◌, ◌+◌, ◌-◌, ℕ, zero, suc, Bool, true, cond, List, [], ◌∷◌, length, drop, Some, None, get_or, refl, ap, sym, ◌∙◌, arith}
use Rattle.std.specs.Prelude.{Result, Ok, Err, OnOk, is_ok}
use denote.Ref.{Bor}
use Rattle.std.specs.BTreeMap.{BTreeMap, UpdatesBy, get_by}
use Rattle.std.specs.Cmp.Lexicographic.{slice_cmp}
use Rattle.std.specs.Ordering.{nat_cmp}
use Rattle.std.proofs.lemmas.Map.Text.{btree_map_updates_str}
use Rattle.nc_write.specs.declared.NcKind.TheVariants.{Byte}
use Rattle.std.specs.List.{position_from}
use Rattle.std.specs.Str.{bytes_eq}
use Rattle.std.proofs.Math.Seq.{drop-cons}
use Rattle.std.proofs.lemmas.Iterator.Adapters.{position_from-zero}
use Rattle.nc_format.specs.declared.NcVar.{NcVar}
use Rattle.nc_format.specs.Numbers.{var_named}

past_end : (vars : List NcVar) (k : ℕ) → length vars ≤ k → drop k vars ≡ []
past_end [] zero past = refl
past_end [] (suc k) past = refl
past_end (v ∷ vs) zero past = absurd (omega (arith, past))
past_end (v ∷ vs) (suc k) past = past_end vs k (omega (arith, past))

-- no variable yet
pub no_place : (vars : List NcVar) (name : List ℕ) (k : ℕ) → length vars ≤ k → position_from (λ v. bytes_eq v.name name) k (drop k vars) ≡ None
no_place vars name k past = ap (λ (l : List NcVar). position_from (λ v. bytes_eq v.name name) k l) (past_end vars k past)

-- one more variable at the front
pub more_places : (vars : List NcVar) (name : List ℕ) (done place : ℕ) (v : NcVar) → done < length vars → place ≡ length vars - 1 - done
    → position_from (λ v. bytes_eq v.name name) (length vars - (done + 1)) (drop (length vars - (done + 1)) vars) ≡ cond (bytes_eq (get_or vars place v).name name) (Some place) (position_from (λ v. bytes_eq v.name name) (length vars - done) (drop (length vars - done) vars))
more_places vars name done place v below is =
    let here : length vars - (done + 1) ≡ place = omega arith in
    let inside : place < length vars = omega arith in
    let next : suc place ≡ length vars - done = omega arith in
    let counted : place + 1 ≡ length vars - done = omega arith in
    let test : NcVar → Bool = λ w. bytes_eq w.name name in
    ap (λ k. position_from test k (drop k vars)) here
    ∙ ap (λ l. position_from test place l) (drop-cons vars place v inside)
    ∙ ap (λ k. cond (test (get_or vars place v)) (Some place) (position_from test (place + 1) (drop k vars))) next
    ∙ ap (λ k. cond (test (get_or vars place v)) (Some place) (position_from test k (drop (length vars - done) vars))) counted

pub all_places : (vars : List NcVar) (name : List ℕ) (done : ℕ) → length vars ≤ done → position_from (λ v. bytes_eq v.name name) (length vars - done) (drop (length vars - done) vars) ≡ var_named vars name
all_places vars name done past =
    let none : length vars - done ≡ 0 = omega arith in
    ap (λ k. position_from (λ (w : NcVar). bytes_eq w.name name) k (drop k vars)) none ∙ sym (position_from-zero (λ (w : NcVar). bytes_eq w.name name) vars)

abbrev any_var : NcVar
any_var = record { name = []; dims = []; atts = []; kind = Byte; begin = 0; parts = 0; part = 0; step = 0 }

pub inserted : (vars : List NcVar) (name text : List ℕ) (done place : ℕ) (old new : BTreeMap (Bor (List ℕ)) ℕ) → done < length vars → place ≡ length vars - 1 - done → ((v : NcVar) → text ≡ (get_or vars place v).name)
    → UpdatesBy (λ x y. slice_cmp nat_cmp x.now y.now) (λ k. slice_cmp nat_cmp text k.now) old new (Some place)
    → get_by (λ k. slice_cmp nat_cmp name k.now) old ≡ position_from (λ v. bytes_eq v.name name) (length vars - done) (drop (length vars - done) vars)
    → get_by (λ k. slice_cmp nat_cmp name k.now) new ≡ position_from (λ v. bytes_eq v.name name) (length vars - (done + 1)) (drop (length vars - (done + 1)) vars)
inserted vars name text done place old new below is named updates so_far =
    let later = position_from (λ v. bytes_eq v.name name) (length vars - done) (drop (length vars - done) vars) in
    btree_map_updates_str text old new (Some place) updates name
    ∙ ap (λ o. cond (bytes_eq text name) (Some place) o) so_far
    ∙ ap (λ t. cond (bytes_eq t name) (Some place) later) (named any_var)
    ∙ sym (more_places vars name done place any_var below is)

pub when_ok : {A B : Type 0} (P : Type 0) (r : Result A B) → true ≡ is_ok r → OnOk r P → P
when_ok P (Ok x) h p = p
when_ok P (Err e) h p = absurd cc
