-- What a sink gains, part by part.
use Rattle.std.proofs.Common.{◌≡◌, ◌<◌, ℕ, zero, suc, List, [], ◌∷◌, ◌++◌, length, take, Option, Some, None, refl, sym, ap, subst, ◌∙◌, inl, inr, arith, append_assoc, append-nil, codes, Bool, true, false, MatchBool, get_or, drop}
use Rattle.std.specs.List.{flat_map}
use Rattle.remap_io.specs.Outside.{SinkSeen, NoPutCountFalls}
use Rattle.remap_io.specs.Held.{Gains, GainsPart}
use Rattle.fault_lines.specs.Lines.{line_of, GainsLine, IsPutRefused}
use Rattle.remap_io.proofs.Counts.{rose_in}

pub refused_in : (a b c d : SinkSeen) → NoPutCountFalls a b → IsPutRefused b c → NoPutCountFalls c d → IsPutRefused a d
refused_in a b c d first (inl h) later = inl (rose_in _ _ _ _ first.faults.0 h later.faults.0)
refused_in a b c d first (inr h) later = inr (rose_in _ _ _ _ first.refusals.0 h later.refusals.0)

-- one part behind another
pub gains_more : (old mid new : Option (List ℕ)) (front part : List ℕ) → Gains old mid front → Gains mid new part → Gains old new (front ++ part)
gains_more None mid new front part first next = subst (λ m. Gains m new part) first next
gains_more (Some held) mid new front part first next =
    let there : new ≡ Some ((held ++ front) ++ part) = subst (λ m. Gains m new part) first next in
    there ∙ ap Some (append_assoc held front part)

take_front : (k : ℕ) (xs ys : List ℕ) → (n : ℕ) × (xs ++ take k ys ≡ take n (xs ++ ys))
take_front k [] ys = (k, refl)
take_front k (x ∷ xs) ys = let r = take_front k xs ys in (suc r.0, ap (λ l. x ∷ l) r.1)

take_part : (k : ℕ) (part rest : List ℕ) → (n : ℕ) × (take k part ≡ take n (part ++ rest))
take_part zero part rest = (0, refl)
take_part (suc k) [] rest = (0, refl)
take_part (suc k) (x ∷ part) rest = let r = take_part k part rest in (suc r.0, ap (λ l. x ∷ l) r.1)

-- a part that was cut short ends the line
pub gains_cut : (old mid new : Option (List ℕ)) (front part rest : List ℕ) (C : Type 0) → Gains old mid front → GainsPart mid new part → C → GainsLine old new (front ++ (part ++ rest)) C
gains_cut None mid new front part rest C first cut cause = subst (λ m. GainsPart m new part) first cut
gains_cut (Some held) mid new front part rest C first cut cause =
    let there : (n : ℕ) × (new ≡ Some ((held ++ front) ++ take n part)) = subst (λ m. GainsPart m new part) first cut in
    let in_part = take_part there.0 part rest in
    let in_line = take_front in_part.0 front (part ++ rest) in
    inr ((in_line.0, there.1 ∙ ap Some (append_assoc held front (take there.0 part)) ∙ ap (λ l. Some (held ++ (front ++ l))) in_part.1 ∙ ap (λ l. Some (held ++ l)) in_line.1), cause)

pub gains_whole : (old new : Option (List ℕ)) (line : List ℕ) (C : Type 0) → Gains old new line → GainsLine old new line C
gains_whole None new line C all = all
gains_whole (Some held) new line C all = inl all

-- a first part that was cut short
pub gains_cut_first : (old new : Option (List ℕ)) (part rest : List ℕ) (C : Type 0) → GainsPart old new part → C → GainsLine old new (part ++ rest) C
gains_cut_first None new part rest C cut cause = cut
gains_cut_first (Some held) new part rest C cut cause =
    let in_part = take_part cut.0 part rest in
    inr ((in_part.0, cut.1 ∙ ap (λ l. Some (held ++ l)) in_part.1), cause)

-- a last part
pub gains_last : (old mid new : Option (List ℕ)) (front part : List ℕ) (C D : Type 0) (b : Bool) → Gains old mid front → MatchBool b (Gains mid new part) (GainsPart mid new part) → MatchBool b D C → GainsLine old new (front ++ part) C
gains_last old mid new front part C D true first next cause = gains_whole old new (front ++ part) C (gains_more old mid new front part first next)
gains_last old mid new front part C D false first next cause =
    subst (λ l. GainsLine old new (front ++ l) C) (append-nil part) (gains_cut old mid new front part [] C first next cause)

-- the pieces before an item, of the item and behind it
pub flat_split : {X : Type 0} (f : X → List ℕ) (xs : List X) (i : ℕ) (d : X) → i < length xs → flat_map f xs ≡ flat_map f (take i xs) ++ (f (get_or xs i d) ++ flat_map f (drop (suc i) xs))
flat_split f [] i d lt = absurd (omega arith)
flat_split f (x ∷ xs) zero d lt = refl
flat_split f (x ∷ xs) (suc i) d lt = ap (λ l. f x ++ l) (flat_split f xs i d (omega arith)) ∙ sym (append_assoc (f x) (flat_map f (take i xs)) _)

-- the line round a part
pub line_split : {X : Type 0} (f : X → List ℕ) (xs : List X) (i : ℕ) (d : X) → i < length xs → line_of (flat_map f xs) ≡ (codes "tempest: " ++ flat_map f (take i xs)) ++ (f (get_or xs i d) ++ (flat_map f (drop (suc i) xs) ++ codes "\n"))
line_split f xs i d lt =
    let a = flat_map f (take i xs) in
    let b = f (get_or xs i d) in
    let r = flat_map f (drop (suc i) xs) in
    ap (λ l. codes "tempest: " ++ (l ++ codes "\n")) (flat_split f xs i d lt)
    ∙ ap (λ l. codes "tempest: " ++ l) (append_assoc a (b ++ r) (codes "\n") ∙ ap (λ l. a ++ l) (append_assoc b r (codes "\n")))

pub cause_in : (D C C' : Type 0) (b : Bool) → (C → C') → MatchBool b D C → MatchBool b D C'
cause_in D C C' true f h = h
cause_in D C C' false f h = f h
