-- Parts of lists, and of columns of pieces.
use Rattle.std.proofs.Common.{◌≡◌, refl, ℕ, ◌-◌, ◌≤◌, List, ◌++◌, length, slice_range, take, map, sym, ◌∙◌, ap, arith, length-append}
use Rattle.std.proofs.lemmas.List.{drop_at, take_at, map-append, length-map}
use Rattle.clip.specs.declared.pieces.Piece.{Piece}

-- the part between two lists
part_between : {A : Type 0} (before between after : List A) → slice_range (before ++ (between ++ after)) (length before) (length (before ++ between)) ≡ between
part_between {A} before between after =
    ap (take (length (before ++ between) - length before)) (drop_at before (between ++ after) (length before) refl)
    ∙ take_at between after (length (before ++ between) - length before) (omega (arith, length-append before between))

part_at_places : {A : Type 0} (before between after all part : List A) (from to : ℕ) → all ≡ before ++ (between ++ after) → from ≡ length before → to ≡ length (before ++ between)
    → (from ≤ to → to ≤ length all → part ≡ slice_range all from to) → part ≡ between
part_at_places {A} before between after all part from to a f t p =
    p (omega (arith, f, t, length-append before between)) (omega (arith, t, ap (length {A = A}) a, length-append before between, length-append before (between ++ after), length-append between after))
    ∙ ap (λ (l : List A). slice_range l from to) a ∙ ap (λ (n : ℕ). slice_range (before ++ (between ++ after)) n to) f ∙ ap (slice_range (before ++ (between ++ after)) (length before)) t
    ∙ part_between before between after

-- a column of pieces where the part of another column between two places was put at the end
pub column_more : {A : Type 0} (column : List Piece → List A) → ((ps qs : List Piece) → column (ps ++ qs) ≡ column ps ++ column qs) → (pieces before between after : List Piece)
    {old new all part : List A} {from to : ℕ} → old ≡ column pieces → all ≡ column (before ++ (between ++ after)) → from ≡ length (column before) → to ≡ length (column (before ++ between))
    → (from ≤ to → to ≤ length all → part ≡ slice_range all from to) → new ≡ old ++ part → new ≡ column (pieces ++ between)
column_more {A} column appended pieces before between after {old} {new} {all} {part} {from} {to} o a f t p n =
    let is : part ≡ column between =
    part_at_places (column before) (column between) (column after) all part from to
    (a ∙ appended before (between ++ after) ∙ ap (λ (l : List A). column before ++ l) (appended between after)) f (t ∙ ap (length {A = A}) (appended before between)) p in
    n ∙ ap (λ (l : List A). l ++ part) o ∙ ap (λ (l : List A). column pieces ++ l) is ∙ sym (appended pieces between)

-- the same of a column with one value for each piece
pub values_more : {A : Type 0} (value : Piece → A) → (pieces before between after : List Piece)
    {old new all part : List A} {from to : ℕ} → old ≡ map value pieces → all ≡ map value (before ++ (between ++ after)) → from ≡ length before → to ≡ length (before ++ between)
    → (from ≤ to → to ≤ length all → part ≡ slice_range all from to) → new ≡ old ++ part → new ≡ map value (pieces ++ between)
values_more value pieces before between after o a f t p n =
    column_more (map value) (map-append value) pieces before between after o a (f ∙ sym (length-map before value)) (t ∙ sym (length-map (before ++ between) value)) p n
