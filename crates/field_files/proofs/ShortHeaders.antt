-- What the length of a header bounds, and where its variables have the record dimension.
use Rattle.std.proofs.Common.{◌≡◌, ◌≢◌, ℕ, zero, suc, ◌+◌, ◌≤◌, Bool, true, false, not, ◌==◌, ◌||◌, if◌then◌else◌, List, [], ◌∷◌, ◌++◌, length, drop, All, ap, sym, subst, ◌∙◌, arith, slice_index}
use Rattle.std.specs.List.{list_any}
use Rattle.std.proofs.lemmas.Bool.{leb-true}
use Rattle.std.proofs.lemmas.Bool.Decides.{nat_tests}
use Rattle.std.proofs.lemmas.List.{length-append, length-take}
use Rattle.std.proofs.lemmas.List.Elements.{All-nil, All-push, All-map, All-weaker}
use Rattle.nc_write.specs.Widths.{width, dimension_tag, variable_tag}
use Rattle.nc_write.specs.Extents.{rounded, lens_of}
use Rattle.nc_write.specs.declared.DocDim.{DocDim as NcDim}
use Rattle.nc_format.specs.declared.NcVar.{NcVar}
use Rattle.nc_format.specs.declared.NcFile.{NcFile}
use Rattle.nc_format.specs.Parts.{Part, field, items, number, padded}
use Rattle.nc_format.specs.Grammar.{bounded, name, listed, dim, next_dim, dim_list, dim_id, next_id, dim_ids, var, var_list, body, numrecs, is_record_dim}
use Rattle.nc_format.specs.Placing.{placed, with_places, step_from}
use Rattle.nc_format.specs.Header.{IsHeader}

-- what each item keeps, the list has
items_keep : {A : Type 0} (item : List A → Part A) (K : List A → Type 0) → ((front : List A) (s : List ℕ) (x : A) → K front → (item front).Spells s x → K (front ++ x ∷ [])) → (n : ℕ) (front : List A) (s : List ℕ) (xs : List A) → K front → (items item n front).Spells s xs → K xs
unfolding items
items_keep item K step zero front s xs k h = subst K h.1 k
items_keep item K step (suc n) front s xs k h = items_keep item K step n (front ++ h.first ∷ []) h.back xs (step front h.front h.first k h.is_first) h.is_rest

-- what each item has that is no longer than a bound, all have
items_all : {A : Type 0} (item : List A → Part A) (P : A → Type 0) (bound : ℕ) → ((front : List A) (s : List ℕ) (x : A) → length s ≤ bound → (item front).Spells s x → P x) → (n : ℕ) (front : List A) (s : List ℕ) (xs : List A) → length s ≤ bound → All P front → (items item n front).Spells s xs → All P xs
unfolding items
items_all item P bound step zero front s xs short all h = subst (All P) h.1 all
items_all item P bound step (suc n) front s xs short all h =
    let one : length h.front ≤ bound = omega (arith, short, ap length h.split, length-append h.front h.back) in
    let rest : length h.back ≤ bound = omega (arith, short, ap length h.split, length-append h.front h.back) in
    items_all item P bound step n (front ++ h.first ∷ []) h.back xs rest (All-push P front h.first all (step front h.front h.first one h.is_first)) h.is_rest

listed_all : {A : Type 0} (version own : ℕ) (item : List A → Part A) (P : A → Type 0) (bound : ℕ) → ((front : List A) (s : List ℕ) (x : A) → length s ≤ bound → (item front).Spells s x → P x) → (s : List ℕ) (xs : List A) → length s ≤ bound → (listed version own item).Spells s xs → All P xs
unfolding listed
listed_all version own item P bound step s xs short h =
    let c = h.is_rest in
    let rest : length c.back ≤ bound = omega (arith, short, ap length h.split, length-append h.front h.back, ap length c.split, length-append c.front c.back) in
    items_all item P bound step c.first [] c.back xs rest (All-nil P) c.is_rest

-- so many items take as many bytes or more
items_short : {A : Type 0} (item : List A → Part A) → ((front : List A) (s : List ℕ) (x : A) → (item front).Spells s x → 1 ≤ length s) → (n : ℕ) (front : List A) (s : List ℕ) (xs : List A) → (items item n front).Spells s xs → length xs ≤ length front + length s
unfolding items
items_short item some zero front s xs h = omega (arith, ap length h.1)
items_short item some (suc n) front s xs h =
    omega (
      arith,
      some front h.front h.first h.is_first,
      items_short item some n (front ++ h.first ∷ []) h.back xs h.is_rest,
      length-append front (h.first ∷ []),
      ap length h.split,
      length-append h.front h.back,
    )

four_or_more : (version : ℕ) → 4 ≤ width version
unfolding width
four_or_more version = elim (version == 5) as (λ b. 4 ≤ (if b then 8 else 4)) [ true ↦ omega arith | false ↦ omega arith ]

-- Names.

name_short : (version : ℕ) (s text : List ℕ) → (name version).Spells s text → length text + 4 ≤ length s
unfolding name bounded number padded field
name_short version s text h =
    let n = h.is_first.0 in
    let p = h.is_rest in
    let wide : length n.front ≡ width version = n.is_first.0 in
    let long : length p.front ≡ rounded h.first = p.is_first.0 in
    let same : length p.first ≡ length p.front = ap length (sym p.is_first.1) in
    let cut : length text ≤ h.first = omega (arith, ap length (sym p.is_rest.1), length-take h.first p.first) in
    omega (
      arith,
      wide,
      four_or_more version,
      long,
      cut,
      ap length h.split,
      length-append h.front h.back,
      ap length n.split,
      length-append n.front n.back,
      ap length p.split,
      length-append p.front p.back,
    )

-- a dimension whose name is no longer than the header, and whose length has 32 bits
pub record IsShortDim (bound : ℕ) (d : NcDim) : Type 0 where
  pub name : length d.name + 4 ≤ bound
  pub len : d.len ≤ 4294967295

dim_short : (version bound : ℕ) (seen : Bool) (s : List ℕ) (d : NcDim) → length s ≤ bound → (dim version seen).Spells s d → IsShortDim bound d
unfolding dim bounded
dim_short version bound seen s d short h =
    let l = h.is_rest in
    let name : h.first ≡ d.name = ap (λ (x : NcDim). x.name) l.is_rest.1 in
    let len : l.first ≡ d.len = ap (λ (x : NcDim). x.len) l.is_rest.1 in
    record {
      name = omega (arith, short, name_short version h.front h.first h.is_first, ap length name, ap length h.split, length-append h.front h.back);
      len = omega (arith, len, leb-true l.first 4294967295 l.is_first.0.1);
    }

-- The dimensions of variables.

-- a variable whose name and dimensions are no longer than the header, and whose record dimension stands nowhere but first
pub record IsShortVar (lens : List ℕ) (bound : ℕ) (v : NcVar) : Type 0 where
  pub name : length v.name + 4 ≤ bound
  pub ids : length v.dims ≤ bound
  pub record_first : All (λ id. slice_index lens id ≢ 0) (drop 1 v.dims)

not_first : (b : Bool) → (false || b) ≡ true → b ≡ true
not_first b h = h

not_record : (n : ℕ) → not (n == 0) ≡ true → n ≢ 0
not_record n h e = absurd (grind (arith, nat_tests))

next_first : (version : ℕ) (dims : List NcDim) (front s : List ℕ) (id : ℕ) → All (λ i. slice_index (lens_of dims) i ≢ 0) (drop 1 front) → (next_id version dims front).Spells s id → All (λ i. slice_index (lens_of dims) i ≢ 0) (drop 1 (front ++ id ∷ []))
unfolding dim_id
next_first version dims [] s id all h = All-nil (λ (i : ℕ). slice_index (lens_of dims) i ≢ 0)
next_first version dims (first ∷ more) s id all h =
    let longer : (length (first ∷ more) == 0) ≡ false = grind (arith, nat_tests) in
    let apart : not (slice_index (lens_of dims) id == 0) ≡ true = ap (λ (b : Bool). b || not (slice_index (lens_of dims) id == 0)) (sym longer) ∙ h.1 in
    All-push (λ (i : ℕ). slice_index (lens_of dims) i ≢ 0) more id all (not_record (slice_index (lens_of dims) id) apart)

id_some : (version : ℕ) (dims : List NcDim) (front s : List ℕ) (id : ℕ) → (next_id version dims front).Spells s id → 1 ≤ length s
unfolding dim_id number field
id_some version dims front s id h =
    let n = h.0.0 in
    let wide : length n.front ≡ width version = n.is_first.0 in
    omega (arith, wide, four_or_more version, ap length n.split, length-append n.front n.back)

ids_first : (version : ℕ) (dims : List NcDim) (s ids : List ℕ) → (dim_ids version dims).Spells s ids → All (λ i. slice_index (lens_of dims) i ≢ 0) (drop 1 ids)
unfolding dim_ids
ids_first version dims s ids h =
    items_keep (next_id version dims) (λ front. All (λ i. slice_index (lens_of dims) i ≢ 0) (drop 1 front)) (λ front t i all p. next_first version dims front t i all p) h.first [] h.back ids (All-nil (λ (i : ℕ). slice_index (lens_of dims) i ≢ 0)) h.is_rest

ids_short : (version : ℕ) (dims : List NcDim) (s ids : List ℕ) → (dim_ids version dims).Spells s ids → length ids ≤ length s
unfolding dim_ids
ids_short version dims s ids h =
    omega (arith, items_short (next_id version dims) (λ front t i p. id_some version dims front t i p) h.first [] h.back ids h.is_rest, ap length h.split, length-append h.front h.back)

var_short : (version bound : ℕ) (dims : List NcDim) (s : List ℕ) (v : NcVar) → length s ≤ bound → (var version dims).Spells s v → IsShortVar (lens_of dims) bound v
unfolding var
var_short version bound dims s v short h =
    let i = h.is_rest in
    let last = i.is_rest.is_rest.is_rest.is_rest.is_rest.1 in
    let name : h.first ≡ v.name = ap (λ (x : NcVar). x.name) last in
    let ids : i.first ≡ v.dims = ap (λ (x : NcVar). x.dims) last in
    record {
      name = omega (arith, short, name_short version h.front h.first h.is_first, ap length name, ap length h.split, length-append h.front h.back);
      ids = omega (arith, short, ids_short version dims i.front i.first i.is_first, ap length ids, ap length h.split, length-append h.front h.back, ap length i.split, length-append i.front i.back);
      record_first = subst (λ (l : List ℕ). All (λ id. slice_index (lens_of dims) id ≢ 0) (drop 1 l)) ids (ids_first version dims i.front i.first i.is_first);
    }

-- Whole headers.

pub record IsShortFile (bound : ℕ) (f : NcFile) : Type 0 where
  pub dims : All (IsShortDim bound) f.dims
  pub vars : All (IsShortVar (lens_of f.dims) bound) f.vars

body_short : (version bound : ℕ) (s : List ℕ) (f : NcFile) → length s ≤ bound + 4 → (body version).Spells s f → IsShortFile bound f
unfolding body numrecs number field dim_list var_list
body_short version bound s f short h =
    let r = h.is_first.0.0 in
    let d = h.is_rest in
    let a = d.is_rest in
    let x = a.is_rest in
    let wide : length r.front ≡ width version = r.is_first.0 in
    let records : 4 ≤ length h.front = omega (arith, wide, four_or_more version, ap length r.split, length-append r.front r.back) in
    let dims : length d.front ≤ bound = omega (arith, short, records, ap length h.split, length-append h.front h.back, ap length d.split, length-append d.front d.back) in
    let vars : length x.front ≤ bound =
    omega (
      arith,
      short,
      records,
      ap length h.split,
      length-append h.front h.back,
      ap length d.split,
      length-append d.front d.back,
      ap length a.split,
      length-append a.front a.back,
      ap length x.split,
      length-append x.front x.back,
    ) in
    subst (IsShortFile bound) x.is_rest.1 (record {
      dims = listed_all version dimension_tag (next_dim version) (IsShortDim bound) bound (λ front t y len p. dim_short version bound (list_any is_record_dim front) t y len p) d.front d.first dims d.is_first;
      vars = listed_all version variable_tag (λ front. var version d.first) (IsShortVar (lens_of d.first) bound) bound (λ front t y len p. var_short version bound d.first t y len p) x.front x.first vars x.is_first;
    })

placed_short : (lens : List ℕ) (bound records : ℕ) (dims : List NcDim) (step : ℕ) (v : NcVar) → IsShortVar lens bound v → IsShortVar lens bound (placed records dims step v)
unfolding placed
placed_short lens bound records dims step v h = record { name = h.name; ids = h.ids; record_first = h.record_first }

with_places_short : (bound : ℕ) (g : NcFile) → IsShortFile bound g → IsShortFile bound (with_places g)
with_places_short bound g h =
    let step = step_from g.dims g.vars in
    let P : NcVar → Type 0 = IsShortVar (lens_of g.dims) bound in
    record {
      dims = h.dims;
      vars = All-map P (placed g.records g.dims step) g.vars (All-weaker P (λ v. P (placed g.records g.dims step v)) (placed_short (lens_of g.dims) bound g.records g.dims step) g.vars h.vars);
    }

-- of the header that so many bytes and eight more begin with
pub header_is_short : (b : List ℕ) (len bound : ℕ) (f : NcFile) → length b ≤ bound + 8 → IsHeader b len f → IsShortFile bound f
header_is_short b len bound f short h =
    let s = h.spelled in
    let rest : length s.rest ≤ bound + 4 = omega (arith, short, ap length h.parts, length-append h.header h.rest, ap length s.parts) in
    subst (IsShortFile bound) (sym h.placed) (with_places_short bound h.fields (body_short s.version bound s.rest h.fields rest s.is_body))
