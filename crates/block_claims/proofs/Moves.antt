-- Each step on the word keeps the rule.
use Rattle.std.proofs.Common.{◌≡◌, ◌≢◌, ℕ, ◌+◌, ◌%◌, ◌^◌, ◌<◌, ◌≤◌, List, [], ◌∷◌, ◌++◌, length, set, Option, Some, None, is_some, Bool, true, false, ◌||◌, nat_lt, nat_eq, if◌then◌else◌, Contains, sum_by, count_by, slice_index, true≢false, refl, sym, ap, ◌∙◌, subst, ⊎_elim, arith, length-append, length-set, mod-eq_of_lt}
use mathlib.Core.Option.{none, some}
use lib.ListN.{get_elem?}
use Rattle.std.proofs.lemmas.Bool.Decides.{nat_tests}
use Rattle.std.proofs.lemmas.List.Sums.{sum_by-append, count_by-le-length}
use Rattle.atomic_table.specs.Table.{Me, Allows, Splits, Joins, keeps, step}
use Rattle.atomic_table.proofs.Lists.{at_set, at_snoc, set_here, set_again}
use Rattle.block_claims.specs.declared.rule.Kind.{Kind}
use Rattle.block_claims.specs.declared.rule.Kind.TheVariants.{First, Further, Spent}
use Rattle.block_claims.specs.declared.rule.View.{View}
use Rattle.block_claims.specs.Views.{is_first, is_spent, is_done_or_spent, further_view, spent_view, times}
use Rattle.block_claims.specs.Claimed.{HoldsByKind, IsViewOf, IsClaimed}
use Rattle.block_claims.specs.Seen.{IsWhole}
use Rattle.block_claims.specs.OneWord.{IsOneClaimedWord, drawn_view, split_view, new_view, joined_view, Drew, Looked}
use Rattle.block_claims.proofs.Sums.{one_if, zero_if, index_at, sum_set, part_le, both_counts, two_parts, sum_only, stands, few_below}
use Rattle.block_claims.proofs.Counted.{IsCounted, counted, claimed, once_below}

-- one more number is below the word, if it is below n
grows : (x n w : ℕ) → w < n → once_below x n (w + 1) ≡ once_below x n w + one_if (nat_eq w x)
grows x n w h = grind (arith, nat_tests)

stays : (x n w : ℕ) → n ≤ w → once_below x n (w + 1) ≡ once_below x n w
stays x n w h = grind (arith, nat_tests)

not_itself : (n w : ℕ) → once_below w n w ≡ 0
not_itself n w = grind (arith, nat_tests)

all_below : (x n w : ℕ) → n ≤ w → once_below x n w ≡ one_if (nat_lt x n)
all_below x n w h = grind (arith, nat_tests)

below_one : (x n w : ℕ) → once_below x n w ≤ one_if (nat_lt x n)
below_one x n w = grind (arith, nat_tests)

count_le_one : (b : Bool) → one_if b ≤ 1
count_le_one true = omega arith
count_le_one false = omega arith

is_one : (b : Bool) → zero_if b ≤ 0 → b ≡ true
is_one true h = refl
is_one false h = absurd (omega arith)

-- what views hold by their kinds

first_lives : (k : Kind) → is_first k ≡ true → is_spent k ≡ false
first_lives First e = refl
first_lives Further e = absurd (true≢false (sym e))
first_lives Spent e = absurd (true≢false (sym e))

first_kind : (k : Kind) → k ≡ First → is_first k ≡ true
first_kind k e = ap is_first e

blocks_of : (n : ℕ) (k : Kind) (v : View) → is_spent k ≡ false → HoldsByKind n k v → v.blocks ≡ n
blocks_of n First v live h = h
blocks_of n Further v live h = ap (λ (u : View). u.blocks) h
blocks_of n Spent v live h = absurd (true≢false live)

spent_is : (n : ℕ) (k : Kind) (v : View) → is_spent k ≡ true → HoldsByKind n k v → v ≡ spent_view
spent_is n First v gone h = absurd (true≢false (sym gone))
spent_is n Further v gone h = absurd (true≢false (sym gone))
spent_is n Spent v gone h = h

changed_by_kind : (n : ℕ) (k : Kind) (v : View) (mine : List ℕ) (last : Option ℕ) → is_spent k ≡ false → HoldsByKind n k v → HoldsByKind n k (record v { mine = mine; last = last })
changed_by_kind n First v mine last live h = h
changed_by_kind n Further v mine last live h = ap (λ (u : View). record u { mine = mine; last = last }) h
changed_by_kind n Spent v mine last live h = absurd (true≢false live)

counts_by_kind : (n : ℕ) (k : Kind) (v : View) (mine : List ℕ) (made back : ℕ) → is_first k ≡ true → HoldsByKind n k v → HoldsByKind n k (record v { mine = mine; made = made; back = back })
counts_by_kind n First v mine made back f h = h
counts_by_kind n Further v mine made back f h = absurd (true≢false (sym f))
counts_by_kind n Spent v mine made back f h = absurd (true≢false (sym f))

over_live : (a b : Bool) → a ≡ false → one_if (a || b) ≡ one_if b
over_live true b e = absurd (true≢false e)
over_live false b e = refl

the_last : (o : Option ℕ) → is_some o ≡ true → (l : ℕ) × (o ≡ Some l)
the_last None e = absurd (true≢false (sym e))
the_last (Some l) e = (l, refl)

-- what holds of the new view and of the old others holds of all
each : (views : List View) (id : ℕ) (u : View) (P : ℕ → View → Type 0) → P id u → ((j : ℕ) (x : View) → j ≢ id → IsViewOf views j x → P j x)
    → (j : ℕ) (x : View) → IsViewOf (set views id u) j x → P j x
each views id u P mine old j x e =
    ⊎_elim
    (λ (t : (j ≡ id) × (u ≡ x)). subst (λ (y : ℕ × View). P y.0 y.1) (λ i. (sym t.0 i, t.1 i)) mine)
    (λ (t : (j ≢ id) × (get_elem? views j ≡ some x)). old j x t.0 t.1)
    (at_set views id j u x e)

-- what holds of all views and of one more
one_more : (views : List View) (u : View) (P : ℕ → View → Type 0) → ((j : ℕ) → P j u) → ((j : ℕ) (x : View) → IsViewOf views j x → P j x)
    → (j : ℕ) (x : View) → IsViewOf (views ++ u ∷ []) j x → P j x
one_more views u P new old j x e = ⊎_elim (λ was. old j x was) (λ (same : u ≡ x). subst (P j) same (new j)) (at_snoc views u x j e)

-- a first view knows how many views there are, and how many of them are spent
abbrev Knows : List View → View → Type 0
Knows all v = is_first v.kind ≡ true → (v.made ≡ length all) × (v.back ≡ count_by (λ u. is_spent u.kind) all)

abbrev LastOf : ℕ → ℕ → View → Type 0
LastOf n w v = (last : ℕ) → v.last ≡ Some last → (n ≤ last) × (last < w)

module _ (n w : ℕ) (views : List View) (id : ℕ) (v : View) (kept : IsCounted n w views) (at : get_elem? views id ≡ some v) where
  -- a change of what this ticket has drawn or found, where the word goes on to the next
  changed : (mine : List ℕ) (last : Option ℕ)
      → is_spent v.kind ≡ false
      → ((x : ℕ) → times x mine + once_below x n w ≡ times x v.mine + once_below x n (w + 1))
      → ((l : ℕ) → last ≡ Some l → (n ≤ l) × (l < w + 1))
      → w + 1 + one_if (is_some v.last) ≤ n + count_by is_done_or_spent views + one_if (is_some last)
      → IsCounted n (w + 1) (set views id (record v { mine = mine; last = last }))
  changed mine last live once found room =
      let u : View = record v { mine = mine; last = last } in
      let all = set views id u in
      let spent = sum_set (λ x. one_if (is_spent x.kind)) views id v u at in
      let long = length-set views id u in record {
        kinds = each views id u (λ j x. HoldsByKind n x.kind x) (changed_by_kind n v.kind v mine last live (kept.kinds id v at)) (λ j x apart e. kept.kinds j x e);
        one_first = (let h = sum_set (λ x. one_if (is_first x.kind)) views id v u at in let k = kept.one_first in omega arith);
        few = (let k = kept.few in omega arith);
        first = each views id u (λ j x. Knows all x)
            (λ f. let k = kept.first id v at f in (omega arith, omega arith))
            (λ j x apart e f. let k = kept.first j x e f in (omega arith, omega arith));
        each_once = λ x. (let h = sum_set (λ y. times x y.mine) views id v u at in let k = kept.each_once x in let o = once x in omega arith);
        done = each views id u (λ j x. LastOf n (w + 1) x) found (λ j x apart e l f. let k = kept.done j x e l f in (k.0, omega arith));
        word = (let h = sum_set (λ y. one_if (is_done_or_spent y)) views id v u at in
            let a : one_if (is_done_or_spent v) ≡ one_if (is_some v.last) = over_live (is_spent v.kind) (is_some v.last) live in
            let b : one_if (is_done_or_spent u) ≡ one_if (is_some last) = over_live (is_spent v.kind) (is_some last) live in omega arith);
      }

  -- the number that the word has was drawn by nobody
  fresh : times w v.mine ≡ 0
  fresh = let h = part_le (λ (y : View). times w y.mine) views id v at in let k = kept.each_once w in let z = not_itself n w in omega arith

  -- what a draw makes of the view keeps the rule
  drawn_keeps : v.last ≡ None → is_spent v.kind ≡ false → (b : Bool) → nat_lt w n ≡ b
      → IsCounted n (w + 1) (set views id (if b then record v { mine = v.mine ++ w ∷ [] } else record v { last = Some w }))
  drawn_keeps going live true is =
      let lt : w < n = grind (arith, nat_tests) in
      changed (v.mine ++ w ∷ []) v.last live
      (λ x. let a = sum_by-append (λ y. one_if (nat_eq y x)) v.mine (w ∷ []) in let g = grows x n w lt in omega arith)
      (λ l e. absurd (cc))
      (omega arith)
  drawn_keeps going live false is =
      let le : n ≤ w = grind (arith, nat_tests) in
      changed v.mine (Some w) live
      (λ x. let g = stays x n w le in omega arith)
      (λ l e. let same : w ≡ l = cc in (omega arith, omega arith))
      (let none : one_if (is_some v.last) ≡ 0 = ap (λ o. one_if (is_some o)) going in let k = kept.word in omega arith)

  -- the others, where all but this one are spent
  others_are_spent : is_spent v.kind ≡ false → length views ≡ count_by (λ u. is_spent u.kind) views + 1 → (j : ℕ) (u : View) → IsViewOf views j u → j ≢ id → is_spent u.kind ≡ true
  others_are_spent live all j u e apart =
      let f : View → ℕ = λ x. zero_if (is_spent x.kind) in
      let h = two_parts f refl views id j v u at e apart in
      let k = both_counts (λ (x : View). is_spent x.kind) views in
      let mine : f v ≡ 1 = ap (λ b. zero_if b) live in
      is_one (is_spent u.kind) (omega arith)

  -- the first ticket, done, with all others back, has each number below n exactly once
  whole : IsWhole v
  whole first over back =
      let live : is_spent v.kind ≡ false = first_lives v.kind (first_kind v.kind first) in
      let l = the_last v.last over in
      let last = kept.done id v at l.0 l.1 in
      let counts = kept.first id v at (first_kind v.kind first) in
      let blocks = blocks_of n v.kind v live (kept.kinds id v at) in
      let gone = others_are_spent live (omega arith) in
      λ x.
      let only : sum_by (λ y. times x y.mine) views ≡ times x v.mine =
      sum_only (λ y. times x y.mine) refl views id v at (λ j u e apart. ap (λ (t : View). times x t.mine) (spent_is n u.kind u (gone j u e apart) (kept.kinds j u e))) in
      let all = kept.each_once x in
      let under = all_below x n w (omega arith) in
      let same : one_if (nat_lt x v.blocks) ≡ one_if (nat_lt x n) = ap (λ b. one_if (nat_lt x b)) blocks in omega arith

  -- no ticket has more numbers than there are blocks
  short : is_spent v.kind ≡ false → length v.mine ≤ v.blocks
  short live =
      let b = blocks_of n v.kind v live (kept.kinds id v at) in
      let h = few_below n v.mine (λ x. let a = part_le (λ (y : View). times x y.mine) views id v at in let k = kept.each_once x in let c = below_one x n w in omega arith) in omega arith

-- the tickets are few, so the word stays small
small_word : (n w : ℕ) (views : List View) → IsCounted n w views → w ≤ n + 64
small_word n w views kept = let h = count_by-le-length is_done_or_spent views in let a = kept.word in let b = kept.few in omega arith

no_wrap : (n m : ℕ) → n < 2 ^ 32 → m ≤ n + 64 → (m + 1) % 18446744073709551616 ≡ m + 1
no_wrap n m small h = mod-eq_of_lt (omega arith)

-- a draw leaves the kind as it is
drawn_live : (v : View) (m : ℕ) (b : Bool) → is_spent v.kind ≡ false → is_spent (if b then record v { mine = v.mine ++ m ∷ [] } else record v { last = Some m }).kind ≡ false
drawn_live v m true live = live
drawn_live v m false live = live

-- the words x and y are the same, and the rule holds of y
one_word : (n x y : ℕ) (words : List ℕ) (views : List View) → words ≡ x ∷ [] → x ≡ y → IsCounted n y views → (words ≡ slice_index words 0 ∷ []) × IsClaimed n (slice_index words 0) views
one_word n x y words views one same kept =
    let first : slice_index words 0 ≡ x = ap (λ l. slice_index l 0) one in
    (one ∙ ap (λ k. k ∷ []) (sym first), subst (λ k. IsClaimed n k views) (sym (first ∙ same)) (claimed n y views kept))

none_of : (x : ℕ) (xs : List ℕ) → times x xs ≡ 0 → ¬ Contains xs x
none_of x xs never there = let s = stands x xs there in absurd (omega arith)

pub draws : (slots n id : ℕ) (me : Me (Unit {0}) View) → me.1 ≡ [] → me.0.last ≡ None → is_spent me.0.kind ≡ false → n < 2 ^ 32
    → Allows (IsOneClaimedWord n) slots id me 0 (λ m. (m + 1) % 18446744073709551616) (Drew (step slots 0 1 0 none) me)
draws slots n id me bare going live small s rule homes at range =
    let m = slice_index s.words 0 in
    let v = me.0 in
    let u = drawn_view v m in
    let all = set s.views id u in
    let kept = counted n m s.views rule.1 in
    let blocks : v.blocks ≡ n = blocks_of n v.kind v live (kept.kinds id v at) in
    let on = no_wrap n m small (small_word n m s.views kept) in
    let there = set_here s.views id u (index_at s.views id v at).0 in
    let after : IsCounted n (m + 1) all =
    subst (λ k. IsCounted n (m + 1) (set s.views id (if nat_lt m k then record v { mine = v.mine ++ m ∷ [] } else record v { last = Some m }))) (sym blocks)
    (drawn_keeps n m s.views id v kept at going live (nat_lt m n) refl) in (
      u,
      keeps,
      tt,
      one_word n ((m + 1) % 18446744073709551616) (m + 1) (set s.words 0 ((m + 1) % 18446744073709551616)) all (ap (λ l. set l 0 ((m + 1) % 18446744073709551616)) rule.0) on after,
      (refl, bare, none_of m v.mine (fresh n m s.views id v kept at), whole n (m + 1) all id u after there, short n (m + 1) all id u after there (drawn_live v m (nat_lt m v.blocks) live)),
    )

-- there is one first view only
only_first : (views : List View) (i j : ℕ) (a b : View) → count_by (λ v. is_first v.kind) views ≡ 1 → IsViewOf views i a → IsViewOf views j b → j ≢ i → is_first a.kind ≡ true → is_first b.kind ≡ true → ⊥
only_first views i j a b one at there apart fa fb =
    let f : View → ℕ = λ v. one_if (is_first v.kind) in
    let h = two_parts f refl views i j a b at there apart in
    let x : f a ≡ 1 = ap (λ b. one_if b) fa in
    let y : f b ≡ 1 = ap (λ b. one_if b) fb in omega arith

splits_kept : (n w : ℕ) (views : List View) (id : ℕ) (v : View) → IsCounted n w views → get_elem? views id ≡ some v → is_first v.kind ≡ true → v.made < 64
    → IsCounted n w (set views id (split_view v) ++ new_view v ∷ [])
splits_kept n w views id v kept at first room =
    let u = split_view v in
    let r = new_view v in
    let mid = set views id u in
    let all = mid ++ r ∷ [] in
    let live = first_lives v.kind first in
    let mine = kept.kinds id v at in
    let blocks : v.blocks ≡ n = blocks_of n v.kind v live mine in
    let counts = kept.first id v at first in
    let long = length-set views id u in
    let longer = length-append mid (r ∷ []) in
    let sums = λ (f : View → ℕ). sum_by-append f mid (r ∷ []) in
    let was = λ (f : View → ℕ). sum_set f views id v u at in
    record {
      kinds = one_more mid r (λ j x. HoldsByKind n x.kind x) (λ j. ap further_view blocks)
          (each views id u (λ j x. HoldsByKind n x.kind x) (counts_by_kind n v.kind v v.mine (v.made + 1) v.back first mine) (λ j x apart e. kept.kinds j x e));
      one_first = (let f : View → ℕ = λ x. one_if (is_first x.kind) in let a = sums f in let b = was f in let k = kept.one_first in omega arith);
      few = omega arith;
      first = one_more mid r (λ j x. Knows all x)
          (λ j f. absurd (true≢false (sym f)))
          (each views id u (λ j x. Knows all x)
          (λ f. let g : View → ℕ = λ y. one_if (is_spent y.kind) in let a = sums g in let b = was g in (omega arith, omega arith))
          (λ j x apart e f. absurd (only_first views id j v x kept.one_first at e apart first f)));
      each_once = λ x. (let f : View → ℕ = λ y. times x y.mine in let a = sums f in let b = was f in let k = kept.each_once x in omega arith);
      done = one_more mid r (λ j x. LastOf n w x) (λ j l f. absurd (cc))
          (each views id u (λ j x. LastOf n w x) (kept.done id v at) (λ j x apart e. kept.done j x e));
      word = (let f : View → ℕ = λ y. one_if (is_done_or_spent y) in let a = sums f in let b = was f in let k = kept.word in omega arith);
    }

pub splits : (n id : ℕ) (v : View) → v.kind ≡ First → v.made < 64 → Splits (IsOneClaimedWord n) id v (split_view v) (new_view v)
splits n id v first room s rule at =
    let m = slice_index s.words 0 in
    (rule.0, claimed n m (set s.views id (split_view v) ++ new_view v ∷ []) (splits_kept n m s.views id v (counted n m s.views rule.1) at (first_kind v.kind first) room))

joins_kept : (n w : ℕ) (views : List View) (id : ℕ) (v : View) (other : ℕ) (t : View) → IsCounted n w views → get_elem? views id ≡ some v → other ≢ id → get_elem? (set views id (joined_view v t)) other ≡ some t
    → is_first v.kind ≡ true → is_first t.kind ≡ false → is_spent t.kind ≡ false → IsCounted n w (set (set views id (joined_view v t)) other spent_view)
joins_kept n w views id v other t kept at apart there first further alive =
    let u = joined_view v t in
    let mid = set views id u in
    let all = set mid other spent_view in
    let live = first_lives v.kind first in
    let counts = kept.first id v at first in
    let long = length-set views id u in
    let longer = length-set mid other spent_view in
    let was = λ (f : View → ℕ). sum_set f views id v u at in
    let sums = λ (f : View → ℕ). sum_set f mid other t spent_view there in
    record {
      kinds = each mid other spent_view (λ j x. HoldsByKind n x.kind x) refl
          (λ j x away e. each views id u (λ j x. HoldsByKind n x.kind x) (counts_by_kind n v.kind v (v.mine ++ t.mine) v.made (v.back + 1) first (kept.kinds id v at)) (λ j x apart e. kept.kinds j x e) j x e);
      one_first = (let f : View → ℕ = λ x. one_if (is_first x.kind) in let a = sums f in let b = was f in let k = kept.one_first in let z : f t ≡ 0 = ap (λ b. one_if b) further in omega arith);
      few = (let k = kept.few in omega arith);
      first = each mid other spent_view (λ j x. Knows all x)
          (λ f. absurd (true≢false (sym f)))
          (λ j x away e. each views id u (λ j x. Knows all x)
          (λ f. let g : View → ℕ = λ y. one_if (is_spent y.kind) in let a = sums g in let b = was g in let z : g t ≡ 0 = ap (λ b. one_if b) alive in (omega arith, omega arith))
          (λ j x apart e f. absurd (only_first views id j v x kept.one_first at e apart first f)) j x e);
      each_once = λ x. (let f : View → ℕ = λ y. times x y.mine in let a = sums f in let b = was f in let k = kept.each_once x in let c = sum_by-append (λ y. one_if (nat_eq y x)) v.mine t.mine in omega arith);
      done = each mid other spent_view (λ j x. LastOf n w x) (λ l f. absurd (cc))
          (λ j x away e. each views id u (λ j x. LastOf n w x) (kept.done id v at) (λ j x apart e. kept.done j x e) j x e);
      word = (let f : View → ℕ = λ y. one_if (is_done_or_spent y) in let a = sums f in let b = was f in let k = kept.word in let z = count_le_one (is_done_or_spent t) in omega arith);
    }

pub joins : (n id : ℕ) (v : View) (other : ℕ) (t : View) → v.kind ≡ First → t.kind ≡ Further → Joins (IsOneClaimedWord n) id v other t (joined_view v t) spent_view
joins n id v other t first further s rule at apart there =
    let m = slice_index s.words 0 in (
      rule.0,
      claimed n m (set (set s.views id (joined_view v t)) other spent_view)
          (joins_kept n m s.views id v other t (counted n m s.views rule.1) at apart there (first_kind v.kind first) (ap is_first further) (ap is_spent further)),
    )

pub looks : (slots n id : ℕ) (me : Me (Unit {0}) View) → me.1 ≡ [] → Allows (IsOneClaimedWord n) slots id me 0 (λ m. m) (Looked (step slots 0 0 0 none) me)
looks slots n id me bare s rule homes at range =
    let m = slice_index s.words 0 in
    let kept = counted n m s.views rule.1 in
    let same : set s.views id me.0 ≡ s.views = set_again s.views id me.0 at in (
      me.0,
      keeps,
      tt,
      one_word n m m (set s.words 0 m) (set s.views id me.0) (ap (λ l. set l 0 m) rule.0) refl (subst (IsCounted n m) (sym same) kept),
      (refl, bare, whole n m s.views id me.0 kept at),
    )
