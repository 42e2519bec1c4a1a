use Rattle.remap_load.proofs.Answered.{refuses_absent, refuses_long, refuses_format, finds_header, costs_head, costs_file}
use Rattle.remap_load.proofs.header.load_header.Goals as goal

pub returns-clause-lacking : goal.returns-clause-lacking
returns-clause-lacking g c =
    let h = c.load_head.ensures in
    refuses_absent (g.F.Files.seen c.args.files.now) (g.F.Files.seen c.load_head.new.files) _ _ h.of_file h.fault

pub returns-clause-long : goal.returns-clause-long
returns-clause-long g c =
    let h = c.load_head.ensures in
    λ bytes. refuses_long (g.F.Files.seen c.args.files.now) (g.F.Files.seen c.load_head.new.files) _ bytes _ h.head h.of_file h.fault

pub returns-clause-faulty : goal.returns-clause-faulty
returns-clause-faulty g c =
    let h = c.load_head.ensures in
    λ bytes e. refuses_format (g.F.Files.seen c.args.files.now) (g.F.Files.seen c.load_head.new.files) _ bytes e _ h.of_file h.fault

pub returns-clause-found : goal.returns-clause-found
returns-clause-found g c =
    let h = c.load_head.ensures in
    λ bytes f. finds_header (g.F.Files.seen c.args.files.now) (g.F.Files.seen c.load_head.new.files) _ bytes f _ h.of_file h.fault

pub returns-clause-asked : goal.returns-clause-asked
returns-clause-asked g c = let h = c.load_head.ensures in costs_head _ _ _ h.grown h.asked

pub returns-clause-asked_of_file : goal.returns-clause-asked_of_file
returns-clause-asked_of_file g c = let h = c.load_head.ensures in costs_file _ _ _ _ _ h.head h.of_file h.grown h.asked
