use Rattle.std.proofs.Common.{◌++◌, ◌∷◌, [], Option, Some, None, subst}
use Rattle.clip.specs.declared.pieces.Piece.{Piece}
use Rattle.overlap_load.specs.Windows.{IsRead, IsNext, with_next}
use Rattle.tempest_top.proofs.MapMaking.{next_making, piece_fault, whole_making, room_for_next, sound_next}
use Rattle.tempest_top.proofs.map.put_next.Goals as goal

pub returns-in_default-clause-put : goal.returns-in_default-clause-put
returns-in_default-clause-put g c = λ a b m.
    let folder = (g.F.Files.seen c.args.files.now).folder in
    let reader = c.args.reader.now in
    let next : IsNext reader c.next.new.self None = subst (IsNext reader c.next.new.self) c.in_default.is (c.in-Ok.ensures.next m.pieces m.read) in
    whole_making folder c.args.name.now a b reader c.args.maker.now m next

pub put-requires-clause-few : goal.put-requires-clause-few
put-requires-clause-few g c =
    let folder = (g.F.Files.seen c.args.files.now).folder in
    let reader = c.args.reader.now in
    let m = c.requires.making.2 in
    let next : IsNext reader c.next.new.self (Some c.in-Some.piece) = subst (IsNext reader c.next.new.self) c.in-Some.is (c.in-Ok.ensures.next m.pieces m.read) in
    room_for_next folder c.args.name.now c.requires.making.0 c.requires.making.1 reader c.args.maker.now m next.0

pub put-requires-clause-sound : goal.put-requires-clause-sound
put-requires-clause-sound g c =
    let folder = (g.F.Files.seen c.args.files.now).folder in
    let reader = c.args.reader.now in
    let m = c.requires.making.2 in
    let next : IsNext reader c.next.new.self (Some c.in-Some.piece) = subst (IsNext reader c.next.new.self) c.in-Some.is (c.in-Ok.ensures.next m.pieces m.read) in
    sound_next folder c.args.name.now c.requires.making.0 c.requires.making.1 reader c.args.maker.now c.in-Some.piece m next.3

pub returns-in-Ok-put-clause-put : goal.returns-in-Ok-put-clause-put
returns-in-Ok-put-clause-put g c = λ a b m.
    let name = c.args.name.now in
    let folder = (g.F.Files.seen c.args.files.now).folder in
    let reader = c.args.reader.now in
    let new = c.next.new.self in
    let p = c.in-Some.piece in
    let next : IsNext reader new (Some p) = subst (IsNext reader new) c.in-Some.is (c.in-Ok.ensures.next m.pieces m.read) in
    let read : IsRead folder name new (m.pieces ++ p ∷ []) = subst (λ (o : Option Piece). IsRead folder name new (with_next m.pieces o)) c.in-Some.is (c.in-Ok.ensures.read m.pieces m.read) in
    (next_making folder name a b reader new c.args.maker.now c.put.new.self p m read next.2 c.in-Ok-put.ensures.row c.in-Ok-put.ensures.right, next.2, next.1, next.0)

pub returns-clause-why : goal.returns-clause-why
returns-clause-why g c = λ a b m.
    let name = c.args.name.now in
    let folder = (g.F.Files.seen c.args.files.now).folder in
    let reader = c.args.reader.now in
    let new = c.next.new.self in
    let p = c.in-Some.piece in
    let next : IsNext reader new (Some p) = subst (IsNext reader new) c.in-Some.is (c.in-Ok.ensures.next m.pieces m.read) in
    let read : IsRead folder name new (m.pieces ++ p ∷ []) = subst (λ (o : Option Piece). IsRead folder name new (with_next m.pieces o)) c.in-Some.is (c.in-Ok.ensures.read m.pieces m.read) in
    piece_fault folder name a b reader new c.args.maker.now p c.in-Err-put.fault m read next.2 c.in-Err-put.ensures.fault
