-- What a part of a file is: which bytes spell which value, and which fault comes first in bytes that spell none.
use Rattle.std.specs.Prelude.{◌≡◌, ◌⊎◌, ◌<◌, ℕ, zero, suc, ◌+◌, List, [], ◌∷◌, ◌++◌, length, take, drop, Result, Ok, Err, Bool, true, false, nat_lt, if◌then◌else◌}
use Rattle.byteorder.specs.Endian.{big_number}
use Rattle.nc_write.specs.Extents.{rounded}
use Rattle.nc_format.specs.declared.fault.NcFault.{NcFault}
use Rattle.nc_format.specs.declared.fault.NcFault.TheVariants.{Truncated}

-- go on where there is a value
abbrev pub on_value : {A B : Type 0} → Result A NcFault → (A → Result B NcFault) → Result B NcFault
on_value (Ok x) f = f x
on_value (Err e) f = Err e

-- A part of a file that stands for a value.
pub record Part (A : Type 0) : Type 1 where
  -- these bytes spell this value
  pub Spells : List ℕ → A → Type 0
  -- these bytes, which stand at this offset and go on to the end, have this fault first
  pub Fails : ℕ → List ℕ → NcFault → Type 0
  -- the same from left to right: the value that stands in a list of bytes at an offset, and the offset behind it
  pub read : List ℕ → ℕ → Result (A × ℕ) NcFault

-- no bytes, and this value
abbrev pub gives : {A : Type 0} → A → Part A
gives v = record {
  Spells = λ s x. (s ≡ []) × (v ≡ x);
  Fails = λ o s e. ⊥;
  read = λ b o. Ok (v, o);
}

-- a field of n bytes, which is at fault where fewer are left
unfoldable pub field : ℕ → Part (List ℕ)
field n = record {
  Spells = λ s x. (length s ≡ n) × (s ≡ x);
  Fails = λ o s e. (length s < n) × (e ≡ Truncated o);
  read = λ b o. if nat_lt (length b) (o + n) then Err (Truncated o) else Ok (take n (drop o b), o + n);
}

-- one part behind another
pub record BothSpell {A B : Type 0} (P : Part A) (Q : A → Part B) (s : List ℕ) (y : B) : Type 0 where
  pub front : List ℕ
  pub back : List ℕ
  pub first : A
  pub split : s ≡ front ++ back
  pub is_first : P.Spells front first
  pub is_rest : (Q first).Spells back y

-- the first part is there, and the other is at fault
pub record SecondFails {A B : Type 0} (P : Part A) (Q : A → Part B) (o : ℕ) (s : List ℕ) (e : NcFault) : Type 0 where
  pub front : List ℕ
  pub back : List ℕ
  pub first : A
  pub split : s ≡ front ++ back
  pub is_first : P.Spells front first
  pub fault : (Q first).Fails (o + length front) back e

-- one part, and then another that may depend on the value of the first
infixl 10 ◌>>=◌
abbrev pub ◌>>=◌ : {A B : Type 0} → Part A → (A → Part B) → Part B
P >>= Q = record {
  Spells = BothSpell P Q;
  Fails = λ o s e. P.Fails o s e ⊎ SecondFails P Q o s e;
  read = λ b o. on_value (P.read b o) (λ x. (Q x.0).read b x.1);
}

-- the part is there, and its value breaks a rule
pub record BreaksRule {A : Type 0} (P : Part A) (good : A → Bool) (s : List ℕ) : Type 0 where
  pub front : List ℕ
  pub back : List ℕ
  pub value : A
  pub split : s ≡ front ++ back
  pub is_there : P.Spells front value
  pub breaks : good value ≡ false

-- a part whose value keeps a rule, and the fault where it does not, by the offset of the part
abbrev pub such_that : {A : Type 0} → Part A → (A → Bool) → (ℕ → NcFault) → Part A
such_that P good fault = record {
  Spells = λ s x. P.Spells s x × (good x ≡ true);
  Fails = λ o s e. P.Fails o s e ⊎ (BreaksRule P good s × (e ≡ fault o));
  read = λ b o. on_value (P.read b o) (λ x. if good x.0 then Ok x else Err (fault o));
}

-- so many items behind those in front, each with those before it in view
unfoldable pub items : {A : Type 0} → (List A → Part A) → ℕ → List A → Part (List A)
items item zero front = gives front
items item (suc n) front = do
  x ← item front
  items item n (front ++ x ∷ [])

-- a number of n bytes, the highest first
unfoldable pub number : ℕ → Part ℕ
number n = do
  f ← field n
  gives (big_number n f)

-- n bytes with padding to a multiple of 4, which holds anything
unfoldable pub padded : ℕ → Part (List ℕ)
padded n = do
  f ← field (rounded n)
  gives (take n f)
