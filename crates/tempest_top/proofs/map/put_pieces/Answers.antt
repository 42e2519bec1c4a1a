use Rattle.std.proofs.Common.{true, false, ap, subst, arith}
use Rattle.remap_files.specs.declared.vars.OverlapVars.{OverlapVars}
use Rattle.tempest_top.specs.MapReading.{IsPut}
use Rattle.tempest_top.proofs.MapMaking.{making_later, put_before, no_map_later}
use Rattle.tempest_top.proofs.map.put_pieces.Goals as goal

pub put_next-requires : goal.put_next-requires
put_next-requires g c =
    let folder = (g.F.Files.seen c.args.files.now).folder in
    let a = c.requires.making.0 in
    let b = c.requires.making.1 in
    record { making = (a, b, making_later folder _ c.args.name.now a b c.pieces.reader c.pieces.maker c.pieces.invariant.reads.same_folder (c.pieces.invariant.making a b c.requires.making.2)) }

pub pieces-smaller : goal.pieces-smaller
pieces-smaller g c =
    let name = c.args.name.now in
    let folder = (g.F.Files.seen c.args.files.now).folder in
    let a = c.requires.making.0 in
    let b = c.requires.making.1 in
    let here = making_later folder _ name a b c.pieces.reader c.pieces.maker c.pieces.invariant.reads.same_folder (c.pieces.invariant.making a b c.requires.making.2) in
    let put : IsPut (g.F.Files.seen c.pieces.files).folder name a b c.pieces.reader c.put_next.new.reader c.put_next.new.maker true =
    subst (IsPut (g.F.Files.seen c.pieces.files).folder name a b c.pieces.reader c.put_next.new.reader c.put_next.new.maker) c.in-Ok-true.field-0-test (c.in-Ok-true.ensures.put a b here)
    in
    omega (arith, ap (λ (v : OverlapVars). v.pieces) put.1, put.2, put.3)

pub returns-in-Ok-false-clause-whole : goal.returns-in-Ok-false-clause-whole
returns-in-Ok-false-clause-whole g c = λ a b m.
    let name = c.args.name.now in
    let folder = (g.F.Files.seen c.args.files.now).folder in
    let same = c.pieces.invariant.reads.same_folder in
    let here = making_later folder _ name a b c.pieces.reader c.pieces.maker same (c.pieces.invariant.making a b m) in
    let put : IsPut (g.F.Files.seen c.pieces.files).folder name a b c.pieces.reader c.put_next.new.reader c.put_next.new.maker false =
    subst (IsPut (g.F.Files.seen c.pieces.files).folder name a b c.pieces.reader c.put_next.new.reader c.put_next.new.maker) c.in-Ok-false.field-0-test (c.in-Ok-false.ensures.put a b here)
    in
    put_before folder _ name a b c.pieces.reader c.put_next.new.reader c.put_next.new.maker false same put

pub returns-in-Err-clause-why : goal.returns-in-Err-clause-why
returns-in-Err-clause-why g c = λ a b m.
    let name = c.args.name.now in
    let folder = (g.F.Files.seen c.args.files.now).folder in
    let here = making_later folder _ name a b c.pieces.reader c.pieces.maker c.pieces.invariant.reads.same_folder (c.pieces.invariant.making a b m) in
    no_map_later (g.F.Files.seen c.args.files.now) (g.F.Files.seen c.pieces.files) (g.F.Files.seen c.put_next.new.files) name a b c.in-Err.why c.pieces.invariant.reads (c.in-Err.ensures.why a b here)
