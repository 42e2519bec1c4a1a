-- What a call says of a header, by what the definitions give.
use Rattle.std.proofs.Common.{◌≡◌, ℕ, ◌*◌, ◌≤◌, length, All, List, Some, Result, Ok, Err, ap, sym, subst, inl, inr}
use Rattle.std.specs.Prelude.{IfOk, IfErr}
use Rattle.nc_format.specs.declared.NcFile.{NcFile}
use Rattle.nc_format.specs.declared.fault.NcFault.{NcFault}
use Rattle.nc_format.specs.declared.fault.NcFault.TheVariants.{NoMemory}
use Rattle.vec_exact.specs.Answers.{Answers, IsFirstFault}
use Rattle.nc_format.specs.Header.{IsHeader, header_in, fault_in, first_fault}
use Rattle.nc_format.specs.Sound.{IsSound, item_count}
use Rattle.nc_format.proofs.Whole.{read_sound, read_whole, fault_some}
use Rattle.nc_format.proofs.SoundParts.{header_is_sound}
use Rattle.nc_format.proofs.Few.{header_is_few}
use Rattle.nc_format.proofs.Pieces.{header_has_pieces, header_is_placed}
use Rattle.nc_format.specs.Placing.{IsPlaced}
use Rattle.nc_format.specs.Numbers.{HasWholePieces}

pub is_header : (b : List ℕ) (len : ℕ) (r : Result NcFile NcFault) → Answers NoMemory (λ f. f) r (header_in b len) → IfOk r (λ f. IsHeader b len f)
is_header b len (Ok f) (inl h) = absurd cc
is_header b len (Ok f) (inr h) = read_sound b len f (sym h)
is_header b len (Err e) h = tt

pub is_sound : (b : List ℕ) (len : ℕ) (r : Result NcFile NcFault) → Answers NoMemory (λ f. f) r (header_in b len) → IfOk r IsSound
is_sound b len (Ok f) (inl h) = absurd cc
is_sound b len (Ok f) (inr h) = header_is_sound b len f (read_sound b len f (sym h))
is_sound b len (Err e) h = tt

pub is_answered : (b : List ℕ) (len : ℕ) (r : Result NcFile NcFault) → Answers NoMemory (λ f. f) r (header_in b len) → (f : NcFile) → IsHeader b len f → Answers NoMemory (λ g. g) r (Ok f)
is_answered b len r h f is = subst (λ (x : Result NcFile NcFault). Answers NoMemory (λ g. g) r x) (read_whole b len f is) h

pub is_told : (b : List ℕ) (len : ℕ) (r : Result NcFile NcFault) → Answers NoMemory (λ f. f) r (header_in b len) → IfErr r (IsFirstFault NoMemory (first_fault b len))
unfolding first_fault
is_told b len (Ok f) h = tt
is_told b len (Err e) (inl h) = inl cc
is_told b len (Err e) (inr h) = inr (ap fault_in (sym h))

pub is_refused : (b : List ℕ) (len : ℕ) (r : Result NcFile NcFault) → Answers NoMemory (λ f. f) r (header_in b len) → (e : NcFault) → first_fault b len ≡ Some e → Answers NoMemory (λ g. g) r (Err e)
unfolding first_fault
is_refused b len r h e is = subst (λ (x : Result NcFile NcFault). Answers NoMemory (λ g. g) r x) (fault_some (header_in b len) e is) h

pub is_few : (b : List ℕ) (len : ℕ) (r : Result NcFile NcFault) → Answers NoMemory (λ f. f) r (header_in b len) → IfOk r (λ f. 4 * item_count f ≤ length b)
is_few b len (Ok f) (inl h) = absurd cc
is_few b len (Ok f) (inr h) = header_is_few b len f (read_sound b len f (sym h))
is_few b len (Err e) h = tt

pub has_pieces : (b : List ℕ) (len : ℕ) (r : Result NcFile NcFault) → Answers NoMemory (λ f. f) r (header_in b len) → IfOk r (λ f. All (HasWholePieces len) f.vars)
has_pieces b len (Ok f) (inl h) = absurd cc
has_pieces b len (Ok f) (inr h) = header_has_pieces b len f (read_sound b len f (sym h))
has_pieces b len (Err e) h = tt

pub is_placed : (b : List ℕ) (len : ℕ) (r : Result NcFile NcFault) → Answers NoMemory (λ f. f) r (header_in b len) → IfOk r (λ f. All (IsPlaced f) f.vars)
is_placed b len (Ok f) (inl h) = absurd cc
is_placed b len (Ok f) (inr h) = header_is_placed b len f (read_sound b len f (sym h))
is_placed b len (Err e) h = tt
