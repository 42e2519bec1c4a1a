use Rattle.std.proofs.Common.{◌≡◌, [], length, drop, slice_index_or}
use Rattle.std.specs.List.{position_or_len}
use Rattle.gen_ico.specs.Dual.{is_followed}
use Rattle.gen_ico.proofs.Held.{first_of}
use Rattle.gen_ico.proofs.round.least_followed.Given as goal

abbrev pub invariant-loop-t : goal.invariant-loop-t
invariant-loop-t l = first_of (λ t. is_followed l.p l.h (slice_index_or l.faces t [])) (length l.faces) (drop l.t-index l.holders) ≡ position_or_len (is_followed l.p l.h) l.faces
