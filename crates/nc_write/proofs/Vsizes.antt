-- The versions that are written, and what a vsize holds.
use Rattle.std.proofs.Common.{◌≡◌, ◌⊎◌, inl, inr, ℕ, ◌^◌, ◌<◌, true, false, min, replicate, if◌then◌else◌, ◌==◌, refl, arith}
use Rattle.std.proofs.lemmas.Bool.{cases_lt}
use Rattle.std.proofs.lemmas.Bool.Decides.{nat_tests}
use Rattle.std.specs.List.{list_any}
use Rattle.byteorder.specs.Endian.{big_bytes}
use Rattle.nc_write.specs.declared.NcDoc.{NcDoc}
use Rattle.nc_write.specs.Widths.{width, number_bytes}
use Rattle.nc_write.specs.File.{vsize, vsize_limit, version_of, has_longs}

abbrev IsWritten : ℕ → Type 0
IsWritten version = (version ≡ 2) ⊎ (version ≡ 5)

pub version_written : (doc : NcDoc) → (version_of doc ≡ 2) ⊎ (version_of doc ≡ 5)
unfolding version_of
version_written doc =
    elim (list_any has_longs doc.vars) as (λ b. IsWritten (if b then 5 else 2)) [ true ↦ inr refl | false ↦ inl refl ]

-- the greatest number of 64 bits has the byte ff throughout
pub all_ones : (version : ℕ) → number_bytes version 18446744073709551615 ≡ replicate (width version) 0xff
unfolding number_bytes width
all_ones version =
    elim (version == 5) as (λ b. big_bytes (if b then 8 else 4) 18446744073709551615 ≡ replicate (if b then 8 else 4) 0xff) [ true ↦ refl | false ↦ refl ]

limit_small : (version : ℕ) → vsize_limit version < 2 ^ 63
limit_small version = elim (version == 5) as (λ b. (if b then 9223372036854775804 else 4294967292) < 2 ^ 63) [ true ↦ omega arith | false ↦ omega arith ]

-- a number past the stop is past the limit
pub vsize_stops : (version n : ℕ) → vsize version (min n (2 ^ 63)) ≡ vsize version n
unfolding vsize
vsize_stops version n =
    let small = limit_small version in
    elim (cases_lt n (2 ^ 63)) [
      | inl lt ↦ let e : min n (2 ^ 63) ≡ n = omega arith in rw e refl
      | inr le ↦ let e : min n (2 ^ 63) ≡ 2 ^ 63 = omega arith in grind (arith, nat_tests)
    ]
