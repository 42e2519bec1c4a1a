-- Lengths of the parts of a document of version 2, and of its dimensions.
use Rattle.std.proofs.Common.{◌≡◌, ◌≢◌, ◌+◌, ◌*◌, ◌%◌, ◌≤◌, ◌==◌, ℕ, ℤ, zero, suc, false, cond, List, length, refl, ap, ap₂, sym, ◌∙◌, if◌then◌else◌, arith}
use Rattle.std.proofs.lemmas.Bool.Decides.{nat_tests}
use Rattle.std.proofs.Math.Nat.{mul-mod_right}
use Rattle.nc_write.specs.declared.DocVar.{DocVar}
use Rattle.nc_write.specs.declared.NcDoc.{NcDoc}
use Rattle.nc_write.specs.declared.Values.TheVariants.{Int}
use Rattle.nc_write.specs.Kinds.{size_of}
use Rattle.nc_write.specs.Extents.{rounded}
use Rattle.nc_write.specs.Widths.{width}
use Rattle.nc_write.specs.File.{version_of, kind_of, numbers_of, is_record, fixed_data, name_bytes, variable}
use Rattle.nc_write.proofs.PartLengths.{length_variable}
use Rattle.nc_write.proofs.Places.{length_fixed_data}

pub width_is : width 2 ≡ 4
unfolding width
width_is = refl

-- the part of a header that a variable takes
pub var_length : (doc : NcDoc) (v : DocVar) (text count : ℕ) → version_of doc ≡ 2 → length (name_bytes 2 v.name) ≡ text → length v.dims ≡ count → length (variable doc 0 v) ≡ text + 4 * count + 28
var_length doc v text count version text_is count_is =
    length_variable 2 v doc 0 (sym version) ∙ ap₂ (λ (a w : ℕ). a + w * (length v.dims + 3) + 16) text_is width_is ∙ ap (λ (n : ℕ). text + 4 * (n + 3) + 16) count_is ∙ omega arith

mod_four : (k : ℕ) → (4 * k) % 4 ≡ 0
mod_four k = mul-mod_right 4 k

-- no padding behind values of four bytes
rounded_four : (k : ℕ) → rounded (4 * k) ≡ 4 * k
rounded_four k = omega (arith, mod_four k)

pub ints_length : (doc : NcDoc) (v : DocVar) (zs : List ℤ) (n : ℕ) → is_record doc v ≡ false → v.values ≡ Int zs → length zs ≡ n → length (fixed_data doc v) ≡ 4 * n
ints_length doc v zs n fixed values count =
    length_fixed_data doc v
    ∙ ap (λ b. cond b 0 (rounded (size_of (kind_of v.values) * length (numbers_of v.values)))) fixed
    ∙ ap (λ vs. rounded (size_of (kind_of vs) * length (numbers_of vs))) values
    ∙ rounded_four (length zs)
    ∙ ap (λ (k : ℕ). 4 * k) count

pub not_zero : (n : ℕ) → 1 ≤ n → (n == 0) ≡ false
not_zero n h = grind (arith, nat_tests)

pub not_none : (n : ℕ) → 1 ≤ n → n ≢ 0
not_none n h e = absurd (omega (arith, h, e))

-- with no records the length of a dimension counts as it stands
pub full_len : (n : ℕ) → (if n == 0 then 0 else n) ≡ n
full_len zero = refl
full_len (suc n) = ap (λ b. if b then 0 else suc n) (not_zero (suc n) (omega arith))
