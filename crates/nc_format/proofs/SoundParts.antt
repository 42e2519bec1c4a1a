-- Every header is sound.
use Rattle.std.proofs.Common.{◌≡◌, ℕ, zero, suc, ◌+◌, ◌<◌, ◌≤◌, ◌^◌, Bool, true, false, if◌then◌else◌, eqb, not, ◌&&◌, ◌||◌, List, [], ◌∷◌, ◌++◌, length, All, refl, sym, ap, subst, ◌∙◌, arith}
use Rattle.std.specs.List.{list_any, count_by, fold}
use Rattle.std.proofs.lemmas.Bool.{ltb-true, leb-true}
use Rattle.std.proofs.lemmas.List.{length-take, length-append, length-map}
use Rattle.std.proofs.lemmas.List.Elements.{All-nil, All-push, All-map, All-weaker}
use Rattle.std.proofs.lemmas.List.Sums.{sum_by_push}
use Rattle.nc_write.specs.Extents.{rounded}
use Rattle.nc_write.specs.declared.DocDim.{DocDim as NcDim}
use Rattle.nc_format.specs.declared.NcAtt.{NcAtt}
use Rattle.nc_format.specs.declared.NcVar.{NcVar}
use Rattle.nc_format.specs.declared.NcFile.{NcFile}
use Rattle.nc_format.specs.Parts.{Part, field, items, padded}
use Rattle.nc_format.specs.Grammar.{bounded, count, listed, is_record_dim, dim, next_dim, dim_list, att, att_list, dim_id, next_id, dim_ids, var, var_list, body}
use Rattle.nc_format.specs.Placing.{placed, with_places, step_from}
use Rattle.nc_format.specs.Header.{IsHeader}
use Rattle.nc_format.specs.Sound.{IsSoundAtt, IsSoundVar, IsSound}

-- what each item keeps, the list has
items_keep : {A : Type 0} (item : List A → Part A) (K : List A → Type 0) → ((front : List A) (s : List ℕ) (x : A) → K front → (item front).Spells s x → K (front ++ x ∷ [])) → (n : ℕ) (front : List A) (s : List ℕ) (xs : List A) → K front → (items item n front).Spells s xs → K xs
unfolding items
items_keep item K step zero front s xs k h = subst K h.1 k
items_keep item K step (suc n) front s xs k h = items_keep item K step n (front ++ h.first ∷ []) h.back xs (step front h.front h.first k h.is_first) h.is_rest

items_count : {A : Type 0} (item : List A → Part A) (n : ℕ) (front : List A) (s : List ℕ) (xs : List A) → (items item n front).Spells s xs → length xs ≡ length front + n
unfolding items
items_count item zero front s xs h = omega (arith, ap length h.1)
items_count {A = A} item (suc n) front s xs h = omega (arith, items_count item n (front ++ h.first ∷ []) h.back xs h.is_rest, length-append front (h.first ∷ []))

bounded_small : (version : ℕ) (s : List ℕ) (n : ℕ) → (bounded version).Spells s n → n < 2 ^ 32
unfolding bounded
bounded_small version s n h = omega (arith, leb-true n 4294967295 h.1)

-- a list keeps what its items keep, and has fewer than 2^32
listed_keeps : {A : Type 0} (version own : ℕ) (item : List A → Part A) (K : List A → Type 0) → K [] → ((front : List A) (s : List ℕ) (x : A) → K front → (item front).Spells s x → K (front ++ x ∷ [])) → (s : List ℕ) (xs : List A) → (listed version own item).Spells s xs → K xs
unfolding listed
listed_keeps version own item K k step s xs h = items_keep item K step h.is_rest.first [] h.is_rest.back xs k h.is_rest.is_rest

listed_few : {A : Type 0} (version own : ℕ) (item : List A → Part A) (s : List ℕ) (xs : List A) → (listed version own item).Spells s xs → length xs < 2 ^ 32
unfolding listed count
listed_few version own item s xs h = omega (arith, items_count item h.is_rest.first [] h.is_rest.back xs h.is_rest.is_rest, bounded_small version h.is_rest.front h.is_rest.first h.is_rest.is_first.0)

padded_len : (n : ℕ) (s x : List ℕ) → (padded n).Spells s x → length x ≡ n
unfolding padded field
padded_len n s x h =
    let len : length h.first ≡ rounded n = ap length (sym h.is_first.1) ∙ h.is_first.0 in
    ap length (sym h.is_rest.1) ∙ omega (arith, len, length-take n h.first)

att_sound : (version : ℕ) (s : List ℕ) (a : NcAtt) → (att version).Spells s a → IsSoundAtt a
unfolding att
att_sound version s a h =
    let b = h.is_rest.is_rest.is_rest in
    subst IsSoundAtt b.is_rest.1 (padded_len _ b.front b.first b.is_first)

atts_sound : (version : ℕ) (s : List ℕ) (atts : List NcAtt) → (att_list version).Spells s atts → All IsSoundAtt atts
unfolding att_list
atts_sound version = listed_keeps version 12 (λ front. att version) (All IsSoundAtt) (All-nil IsSoundAtt) (λ front t a k p. All-push IsSoundAtt front a k (att_sound version t a p))

id_sound : (version : ℕ) (dims : List NcDim) (is_first : Bool) (s : List ℕ) (i : ℕ) → (dim_id version dims is_first).Spells s i → i < length dims
unfolding dim_id
id_sound version dims is_first s i h = ltb-true i (length dims) h.0.1

ids_sound : (version : ℕ) (dims : List NcDim) (s ids : List ℕ) → (dim_ids version dims).Spells s ids → All (λ id. id < length dims) ids
unfolding dim_ids
ids_sound version dims s ids h =
    items_keep (next_id version dims) (All (λ id. id < length dims)) (λ front t i k p. All-push (λ (id : ℕ). id < length dims) front i k (id_sound version dims (eqb (length front) 0) t i p)) h.first [] h.back ids (All-nil (λ (id : ℕ). id < length dims)) h.is_rest

var_sound : (version : ℕ) (dims : List NcDim) (s : List ℕ) (x : NcVar) → (var version dims).Spells s x → IsSoundVar (length dims) x
unfolding var
var_sound version dims s x h =
    let i = h.is_rest in
    let a = i.is_rest in
    subst (IsSoundVar (length dims)) a.is_rest.is_rest.is_rest.is_rest.1 (record { ids = ids_sound version dims i.front i.first i.is_first; atts = atts_sound version a.front a.first a.is_first })

either_false : (a b : Bool) → (a || b) ≡ false → (a ≡ false) × (b ≡ false)
either_false true b e = absurd cc
either_false false b e = (refl, e)

none_counted : (a : ℕ) (xs : List NcDim) → list_any is_record_dim xs ≡ false → fold (λ (n : ℕ) (x : NcDim). n + (if is_record_dim x then 1 else 0)) a xs ≡ a
none_counted a [] e = refl
none_counted a (y ∷ ys) e =
    let k = either_false (is_record_dim y) (list_any is_record_dim ys) e in
    let z : a + (if is_record_dim y then 1 else 0) ≡ a = rw k.0 (omega arith) in
    none_counted (a + (if is_record_dim y then 1 else 0)) ys k.1 ∙ z

not_both : (a b : Bool) → not (a && b) ≡ true → b ≡ true → a ≡ false
not_both true true e h = absurd cc
not_both true false e h = absurd cc
not_both false b e h = refl

at_most : (front : List NcDim) (b : Bool) → count_by is_record_dim front ≤ 1 → not (list_any is_record_dim front && b) ≡ true → count_by is_record_dim front + (if b then 1 else 0) ≤ 1
at_most front false k e = omega arith
at_most front true k e = omega (arith, none_counted 0 front (not_both (list_any is_record_dim front) true e refl))

dim_keeps : (version : ℕ) (front : List NcDim) (s : List ℕ) (d : NcDim) → count_by is_record_dim front ≤ 1 → (next_dim version front).Spells s d → count_by is_record_dim (front ++ d ∷ []) ≤ 1
unfolding dim
dim_keeps version front s d k h =
    let last = h.is_rest in
    let made : NcDim = record { name = h.first; len = last.first } in
    let one = at_most front (is_record_dim made) k last.is_first.1 in
    let all : count_by is_record_dim (front ++ made ∷ []) ≤ 1 = omega (arith, one, sum_by_push (λ (x : NcDim). if is_record_dim x then 1 else 0) front made) in
    subst (λ (x : NcDim). count_by is_record_dim (front ++ x ∷ []) ≤ 1) last.is_rest.1 all

dims_sound : (version : ℕ) (s : List ℕ) (dims : List NcDim) → (dim_list version).Spells s dims → count_by is_record_dim dims ≤ 1
unfolding dim_list
dims_sound version = listed_keeps version 10 (next_dim version) (λ l. count_by is_record_dim l ≤ 1) (omega arith) (dim_keeps version)

vars_sound : (version : ℕ) (dims : List NcDim) (s : List ℕ) (vars : List NcVar) → (var_list version dims).Spells s vars → All (IsSoundVar (length dims)) vars
unfolding var_list
vars_sound version dims = listed_keeps version 11 (λ front. var version dims) (All (IsSoundVar (length dims))) (All-nil (IsSoundVar (length dims))) (λ front t x k p. All-push (IsSoundVar (length dims)) front x k (var_sound version dims t x p))

body_sound : (version : ℕ) (s : List ℕ) (f : NcFile) → (body version).Spells s f → IsSound f
unfolding body dim_list var_list
body_sound version s f h =
    let d = h.is_rest in
    let a = d.is_rest in
    let x = a.is_rest in
    subst IsSound x.is_rest.1 (record {
      few_dims = listed_few version 10 (next_dim version) d.front d.first d.is_first;
      few_vars = listed_few version 11 (λ front. var version d.first) x.front x.first x.is_first;
      one_record_dim = dims_sound version d.front d.first d.is_first;
      atts = atts_sound version a.front a.first a.is_first;
      vars = vars_sound version d.first x.front x.first x.is_first;
    })

placed_sound : (n records : ℕ) (dims : List NcDim) (step : ℕ) (v : NcVar) → IsSoundVar n v → IsSoundVar n (placed records dims step v)
unfolding placed
placed_sound n records dims step v h = record { ids = h.ids; atts = h.atts }

with_places_sound : (g : NcFile) → IsSound g → IsSound (with_places g)
with_places_sound g h =
    let step = step_from g.dims g.vars in
    record {
      few_dims = h.few_dims;
      few_vars = omega (arith, h.few_vars, length-map g.vars (placed g.records g.dims step));
      one_record_dim = h.one_record_dim;
      atts = h.atts;
      vars = All-map (IsSoundVar (length g.dims)) (placed g.records g.dims step) g.vars (All-weaker (IsSoundVar (length g.dims)) (λ v. IsSoundVar (length g.dims) (placed g.records g.dims step v)) (placed_sound (length g.dims) g.records g.dims step) g.vars h.vars);
    }

pub header_is_sound : (b : List ℕ) (len : ℕ) (f : NcFile) → IsHeader b len f → IsSound f
header_is_sound b len f h = subst IsSound (sym h.placed) (with_places_sound h.fields (body_sound h.spelled.version h.spelled.rest h.fields h.spelled.is_body))
