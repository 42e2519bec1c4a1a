-- A header keeps few items: each takes four bytes or more.
use Rattle.std.proofs.Common.{◌≡◌, ℕ, zero, suc, ◌+◌, ◌*◌, ◌≤◌, Bool, true, false, ◌==◌, if◌then◌else◌, List, [], ◌∷◌, ◌++◌, length, map, refl, ap, subst, arith}
use Rattle.std.specs.List.{sum_by, list_any}
use Rattle.std.proofs.lemmas.List.{length-append, length-map}
use Rattle.std.proofs.lemmas.List.Sums.{sum_by-cons, sum_by_push}
use Rattle.nc_write.specs.Widths.{width}
use Rattle.nc_write.specs.declared.DocDim.{DocDim as NcDim}
use Rattle.nc_format.specs.declared.NcAtt.{NcAtt}
use Rattle.nc_format.specs.declared.NcVar.{NcVar}
use Rattle.nc_format.specs.declared.NcFile.{NcFile}
use Rattle.nc_format.specs.Parts.{Part, field, items, number}
use Rattle.nc_format.specs.Grammar.{bounded, name, listed, dim, next_dim, dim_list, att, att_list, var, var_list, body, is_record_dim}
use Rattle.nc_format.specs.Placing.{placed, step_from, with_places}
use Rattle.nc_format.specs.Header.{IsHeader}
use Rattle.nc_format.specs.Sound.{item_count}

-- a name takes four bytes or more
name_long : (version : ℕ) (s text : List ℕ) → (name version).Spells s text → 4 ≤ length s
unfolding name bounded number field width
name_long version s text h =
    let n = h.is_first.0 in
    let wide : length n.front ≡ (if version == 5 then 8 else 4) = n.is_first.0 in
    let four : 4 ≤ (if version == 5 then 8 else 4) = elim (version == 5) as (λ b. 4 ≤ (if b then 8 else 4)) [ true ↦ omega arith | false ↦ omega arith ] in
    omega (arith, wide, four, ap length h.split, length-append h.front h.back, ap length n.split, length-append n.front n.back)

items_long : {A : Type 0} (item : List A → Part A) (w : A → ℕ) → ((front : List A) (s : List ℕ) (x : A) → (item front).Spells s x → 4 * w x ≤ length s) → (n : ℕ) (front : List A) (s : List ℕ) (xs : List A) → (items item n front).Spells s xs → 4 * sum_by w xs ≤ 4 * sum_by w front + length s
unfolding items
items_long item w h zero front s xs k = omega (arith, ap (sum_by w) k.1)
items_long item w h (suc n) front s xs k =
    let one = h front k.front k.first k.is_first in
    let rest = items_long item w h n (front ++ k.first ∷ []) k.back xs k.is_rest in
    omega (arith, one, rest, sum_by_push w front k.first, ap length k.split, length-append k.front k.back)

listed_long : {A : Type 0} (version own : ℕ) (item : List A → Part A) (w : A → ℕ) → ((front : List A) (s : List ℕ) (x : A) → (item front).Spells s x → 4 * w x ≤ length s) → (s : List ℕ) (xs : List A) → (listed version own item).Spells s xs → 4 * sum_by w xs ≤ length s
unfolding listed
listed_long version own item w h s xs k =
    let c = k.is_rest in
    let all = items_long item w h c.first [] c.back xs c.is_rest in
    omega (arith, all, ap length k.split, length-append k.front k.back, ap length c.split, length-append c.front c.back)

ones : {A : Type 0} (xs : List A) → sum_by (λ _. 1) xs ≡ length xs
ones [] = refl
ones {A = A} (x ∷ xs) = omega (arith, sum_by-cons (λ (y : A). 1) x xs, ones xs)

dim_long : (version : ℕ) (seen : Bool) (s : List ℕ) (d : NcDim) → (dim version seen).Spells s d → 4 ≤ length s
unfolding dim
dim_long version seen s d h = omega (arith, name_long version h.front h.first h.is_first, ap length h.split, length-append h.front h.back)

dims_long : (version : ℕ) (s : List ℕ) (dims : List NcDim) → (dim_list version).Spells s dims → 4 * length dims ≤ length s
unfolding dim_list
dims_long version s dims h =
    let all = listed_long version 10 (next_dim version) (λ _. 1) (λ front t d k. let long = dim_long version (list_any is_record_dim front) t d k in omega arith) s dims h in
    omega (arith, all, ones dims)

att_long : (version : ℕ) (s : List ℕ) (a : NcAtt) → (att version).Spells s a → 4 ≤ length s
unfolding att
att_long version s a h = omega (arith, name_long version h.front h.first h.is_first, ap length h.split, length-append h.front h.back)

atts_long : (version : ℕ) (s : List ℕ) (atts : List NcAtt) → (att_list version).Spells s atts → 4 * length atts ≤ length s
unfolding att_list
atts_long version s atts h =
    let all = listed_long version 12 (λ front. att version) (λ _. 1) (λ front t a k. let long = att_long version t a k in omega arith) s atts h in
    omega (arith, all, ones atts)

-- a variable and its attributes
abbrev with_atts : NcVar → ℕ
with_atts v = 1 + length v.atts

var_long : (version : ℕ) (dims : List NcDim) (s : List ℕ) (v : NcVar) → (var version dims).Spells s v → 4 * with_atts v ≤ length s
unfolding var
var_long version dims s v h =
    let i = h.is_rest in
    let a = i.is_rest in
    let same : a.first ≡ v.atts = ap (λ (x : NcVar). x.atts) a.is_rest.is_rest.is_rest.is_rest.1 in
    omega (
      arith,
      name_long version h.front h.first h.is_first,
      atts_long version a.front a.first a.is_first,
      ap length same,
      ap length h.split,
      length-append h.front h.back,
      ap length i.split,
      length-append i.front i.back,
      ap length a.split,
      length-append a.front a.back,
    )

vars_long : (version : ℕ) (dims : List NcDim) (s : List ℕ) (vars : List NcVar) → (var_list version dims).Spells s vars → 4 * sum_by with_atts vars ≤ length s
unfolding var_list
vars_long version dims = listed_long version 11 (λ front. var version dims) with_atts (λ front t v k. var_long version dims t v k)

sum_with_atts : (vars : List NcVar) → sum_by with_atts vars ≡ length vars + sum_by (λ v. length v.atts) vars
sum_with_atts [] = refl
sum_with_atts (v ∷ vs) = omega (arith, sum_by-cons with_atts v vs, sum_by-cons (λ (x : NcVar). length x.atts) v vs, sum_with_atts vs)

body_long : (version : ℕ) (s : List ℕ) (f : NcFile) → (body version).Spells s f → 4 * item_count f ≤ length s
unfolding body
body_long version s f h =
    let d = h.is_rest in
    let a = d.is_rest in
    let v = a.is_rest in
    let all : 4 * (length d.first + length a.first + length v.first + sum_by (λ x. length x.atts) v.first) ≤ length s =
    omega (
      arith,
      dims_long version d.front d.first d.is_first,
      atts_long version a.front a.first a.is_first,
      vars_long version d.first v.front v.first v.is_first,
      sum_with_atts v.first,
      ap length h.split,
      length-append h.front h.back,
      ap length d.split,
      length-append d.front d.back,
      ap length a.split,
      length-append a.front a.back,
      ap length v.split,
      length-append v.front v.back,
    ) in
    subst (λ (g : NcFile). 4 * item_count g ≤ length s) v.is_rest.1 all

placed_atts : (records : ℕ) (dims : List NcDim) (step : ℕ) (vs : List NcVar) → sum_by (λ v. length v.atts) (map (placed records dims step) vs) ≡ sum_by (λ v. length v.atts) vs
unfolding placed
placed_atts records dims step [] = refl
placed_atts records dims step (v ∷ vs) =
    omega (arith, sum_by-cons (λ (x : NcVar). length x.atts) (placed records dims step v) (map (placed records dims step) vs), sum_by-cons (λ (x : NcVar). length x.atts) v vs, placed_atts records dims step vs)

with_places_count : (f : NcFile) → item_count (with_places f) ≡ item_count f
with_places_count f =
    let step = step_from f.dims f.vars in
    omega (arith, length-map f.vars (placed f.records f.dims step), placed_atts f.records f.dims step f.vars)

pub header_is_few : (b : List ℕ) (len : ℕ) (f : NcFile) → IsHeader b len f → 4 * item_count f ≤ length b
header_is_few b len f h =
    let s = h.spelled in
    let all = body_long s.version s.rest h.fields s.is_body in
    omega (arith, all, with_places_count h.fields, ap item_count h.placed, ap length h.parts, length-append h.header h.rest, ap length s.parts)
