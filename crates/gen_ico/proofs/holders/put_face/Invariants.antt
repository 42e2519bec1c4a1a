use Rattle.std.proofs.Common.{take}
use Rattle.gen_ico.proofs.Tables.{Grows}
use Rattle.gen_ico.proofs.holders.put_face.Given as goal

abbrev pub invariant-loop-number : goal.invariant-loop-number
invariant-loop-number l = Grows l.t (take l.number-index l.face) l.fn.lists.items l.lists.items
