-- Blocks, one behind another: how many there are, and that the first fault stays.
use Rattle.std.proofs.Common.{◌≡◌, ◌⊎◌, ◌<◌, ◌+◌, ◌-◌, ℕ, refl, zero, suc, List, [], ◌∷◌, ◌++◌, length, Result, Ok, Err, ap, sym, subst, ◌∙◌, arith, length-append, inl, inr}
use Rattle.nc_format.specs.declared.NcFile.{NcFile}
use Rattle.nc_format.proofs.Answered.{failed}
use Rattle.exodus_mesh.specs.declared.ids.NameFault.{NameFault}
use Rattle.exodus_mesh.specs.declared.ids.NameFault.TheVariants.{NoMemory}
use Rattle.exodus_mesh.specs.declared.vars.BlockVar.{BlockVar}
use Rattle.exodus_mesh.specs.Names.{◌>>=◌}
use Rattle.exodus_mesh.specs.MeshNames.{block_in, blocks_in}

behind : (file : NcFile) (n : ℕ) (blocks : List BlockVar) → blocks_in file n ≡ Ok blocks → blocks_in file (suc n) ≡ (block_in file (suc n) >>= λ block. Ok (blocks ++ block ∷ []))
behind file n blocks h = ap (λ r. r >>= λ before. block_in file (suc n) >>= λ block. Ok (before ++ block ∷ [])) h

one_more : (file : NcFile) (n : ℕ) (blocks : List BlockVar) (block : BlockVar) → blocks_in file n ≡ Ok blocks → block_in file (suc n) ≡ Ok block → blocks_in file (suc n) ≡ Ok (blocks ++ block ∷ [])
one_more file n blocks block h here = behind file n blocks h ∙ ap (λ r. r >>= λ b. Ok (blocks ++ b ∷ [])) here

-- one more block
pub next_block : (file : NcFile) (n : ℕ) (blocks : List BlockVar) (block : BlockVar) → blocks_in file n ≡ Ok blocks → block_in file (n + 1) ≡ Ok block → blocks_in file (n + 1) ≡ Ok (blocks ++ block ∷ [])
next_block file n blocks block h here = let at : n + 1 ≡ suc n = omega arith in subst (λ m. blocks_in file m ≡ Ok (blocks ++ block ∷ [])) (sym at) (one_more file n blocks block h (subst (λ m. block_in file m ≡ Ok block) at here))

stays_by : (file : NcFile) (n k : ℕ) (fault : NameFault) → blocks_in file n ≡ Err fault → blocks_in file (n + k) ≡ Err fault
stays_by file n zero fault h = let same : n ≡ n + 0 = omega arith in subst (λ m. blocks_in file m ≡ Err fault) same h
stays_by file n (suc k) fault h =
    let same : suc (n + k) ≡ n + suc k = omega arith in
    subst (λ m. blocks_in file m ≡ Err fault) same (ap (λ r. r >>= λ before. block_in file (suc (n + k)) >>= λ block. Ok (before ++ block ∷ [])) (stays_by file n k fault h))

faulty_from : (file : NcFile) (n count : ℕ) (blocks : List BlockVar) (fault : NameFault) → blocks_in file n ≡ Ok blocks → n < count → block_in file (n + 1) ≡ Err fault → blocks_in file count ≡ Err fault
faulty_from file n count blocks fault h below here =
    let at : n + 1 ≡ suc n = omega arith in
    let same : suc n + (count - suc n) ≡ count = omega arith in
    let faulty : blocks_in file (suc n) ≡ Err fault = behind file n blocks h ∙ ap (λ r. r >>= λ b. Ok (blocks ++ b ∷ [])) (subst (λ m. block_in file m ≡ Err fault) at here) in
    subst (λ m. blocks_in file m ≡ Err fault) same (stays_by file (suc n) (count - suc n) fault faulty)

-- a fault of a block is the fault of all
pub refused_from : {X Z : Type 0} (file : NcFile) (n count : ℕ) (blocks : List BlockVar) (fault : NameFault) → blocks_in file n ≡ Ok blocks → n < count
    → (failed {X = X} fault ≡ failed NoMemory) ⊎ (Err fault ≡ block_in file (n + 1)) → (failed {X = Z} fault ≡ failed NoMemory) ⊎ (Err fault ≡ blocks_in file count)
refused_from file n count blocks fault h below (inl here) = inl cc
refused_from file n count blocks fault h below (inr here) = inr (sym (faulty_from file n count blocks fault h below (sym here)))

longer : (n : ℕ) (r : Result (List BlockVar) NameFault) (s : Result BlockVar NameFault) (blocks : List BlockVar) → ((before : List BlockVar) → r ≡ Ok before → length before ≡ n)
    → (r >>= λ before. s >>= λ block. Ok (before ++ block ∷ [])) ≡ Ok blocks → length blocks ≡ suc n
longer n (Ok before) (Ok block) blocks each e = let same : before ++ block ∷ [] ≡ blocks = cc in omega (arith, each before refl, ap length same, length-append before (block ∷ []))
longer n (Ok before) (Err f) blocks each e = absurd cc
longer n (Err f) s blocks each e = absurd cc

-- there are as many blocks as were asked for
pub block_count_is : (file : NcFile) (n : ℕ) (blocks : List BlockVar) → blocks_in file n ≡ Ok blocks → length blocks ≡ n
block_count_is file zero blocks h = let same : [] ≡ blocks = cc in ap length (sym same)
block_count_is file (suc n) blocks h = longer n (blocks_in file n) (block_in file (suc n)) blocks (block_count_is file n) h
