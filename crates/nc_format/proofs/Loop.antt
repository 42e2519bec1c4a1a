-- Reading items one after the other, as a loop does.
use Rattle.std.proofs.Common.{◌≡◌, ◌⊎◌, Bool, true, false, ◌||◌, ℕ, suc, ◌-◌, ◌+◌, ◌≤◌, ◌<◌, List, [], ◌∷◌, ◌++◌, Result, Ok, Err, refl, sym, ap, ◌∙◌, arith, inl, inr}
use Rattle.nc_format.specs.declared.fault.NcFault.{NcFault}
use Rattle.nc_format.specs.declared.fault.NcFault.TheVariants as faults
use Rattle.nc_format.specs.Parts.{Part, items}
use Rattle.nc_format.specs.Grammar.{tag, count, listed}
use Rattle.nc_format.proofs.Answered.{failed}
use Rattle.std.specs.List.{list_any}
use Rattle.std.proofs.lemmas.List.Folds.{list_any-append}

pub goes_on : {A : Type 0} (item : List A → Part A) (count i : ℕ) (front : List A) (b : List ℕ) (o : ℕ) (x : A) (after : ℕ) (total : Result (List A × ℕ) NcFault)
    → i < count → (item front).read b o ≡ Ok (x, after) → (items item (count - i) front).read b o ≡ total → (items item (count - (i + 1)) (front ++ x ∷ [])).read b after ≡ total
unfolding items
goes_on item count i front b o x after total lt h so_far =
    let k : count - i ≡ suc (count - (i + 1)) = omega arith in
    let one : (items item (count - i) front).read b o ≡ (items item (count - (i + 1)) (front ++ x ∷ [])).read b after = rw (k, h) refl in
    sym one ∙ so_far

stops : {A : Type 0} (item : List A → Part A) (count i : ℕ) (front : List A) (b : List ℕ) (o : ℕ) (total : Result (List A × ℕ) NcFault) (f : NcFault)
    → i < count → (item front).read b o ≡ Err f → (items item (count - i) front).read b o ≡ total → total ≡ Err f
unfolding items
stops item count i front b o total f lt h so_far =
    let k : count - i ≡ suc (count - (i + 1)) = omega arith in
    let one : (items item (count - i) front).read b o ≡ Err f = rw (k, h) refl in
    sym so_far ∙ one

pub ends : {A X Z : Type 0} (e : NcFault) (item : List A → Part A) (count i : ℕ) (front : List A) (b : List ℕ) (o : ℕ) (total : Result (List A × ℕ) NcFault)
    → i < count → (failed {X = X} e ≡ failed faults.NoMemory) ⊎ (Err e ≡ (item front).read b o) → (items item (count - i) front).read b o ≡ total → (failed {X = Z} e ≡ failed faults.NoMemory) ⊎ (Err e ≡ total)
ends e item count i front b o total lt (inl h) so_far = inl cc
ends e item count i front b o total lt (inr h) so_far = inr (sym (stops item count i front b o total e lt (sym h) so_far))

pub is_done : {A : Type 0} (item : List A → Part A) (count i : ℕ) (front : List A) (b : List ℕ) (o : ℕ) (total : Result (List A × ℕ) NcFault)
    → count ≤ i → (items item (count - i) front).read b o ≡ total → total ≡ Ok (front, o)
unfolding items
is_done item count i front b o total le so_far =
    let k : count - i ≡ 0 = omega arith in
    let one : (items item (count - i) front).read b o ≡ Ok (front, o) = rw k refl in
    sym so_far ∙ one

or_false : (v : Bool) → (v || false) ≡ v
or_false true = refl
or_false false = refl

pub any_pushed : {A : Type 0} (p : A → Bool) (xs : List A) (x : A) → list_any p (xs ++ x ∷ []) ≡ (list_any p xs || p x)
any_pushed p xs x = list_any-append p xs (x ∷ []) ∙ ap (λ v. list_any p xs || v) (or_false (p x))

-- a list whose tag and count are read
pub listed_from : {A : Type 0} (version own : ℕ) (item : List A → Part A) (b : List ℕ) (o t from_count n from_items : ℕ)
    → (tag own).read b o ≡ Ok (t, from_count) → (count version own t).read b from_count ≡ Ok (n, from_items) → (listed version own item).read b o ≡ (items item n []).read b from_items
unfolding listed
listed_from version own item b o t from_count n from_items h k = rw (h, k) refl
