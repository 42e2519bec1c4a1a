use Rattle.std.proofs.Common.{rules, ◌≡◌, ◌∙◌, ℕ, sym, subst}
use Rattle.offline_map.specs.Making.{IsFaultOfCounts}
use Rattle.tempest_top.specs.MapReading.{IsMaking, IsWhole}
use Rattle.tempest_top.proofs.MapMaking.{begun_making, counts_fault, whole_map, whole_fault}
use Rattle.tempest_top.proofs.map.map_of_pieces.Goals as goal

pub returns-in-Err-clause-why : goal.returns-in-Err-clause-why
returns-in-Err-clause-why g c =
    let folder = (g.F.Files.seen c.args.files.now).folder in
    let reader = c.args.reader in
    let a = c.args.a.now in
    let b = c.args.b.now in
    let source : c.source_faces-faces_a.result ≡ reader.vars.faces_a = search rules in
    let target : c.target_faces-faces_b.result ≡ reader.vars.faces_b = search rules in
    let fault = c.in-Err.fault in
    counts_fault folder c.args.name.now a b reader fault c.requires.read
    (subst (λ (n : ℕ). IsFaultOfCounts a b reader.vars.faces_a n fault) target (subst (λ (n : ℕ). IsFaultOfCounts a b n c.target_faces-faces_b.result fault) source c.in-Err.ensures.fault))

pub returns-in-Err-put-clause-why : goal.returns-in-Err-put-clause-why
returns-in-Err-put-clause-why g c =
    let folder = (g.F.Files.seen c.args.files.now).folder in
    let reader = c.args.reader in
    let a = c.args.a.now in
    let b = c.args.b.now in
    let source : c.source_faces-faces_a.result ≡ reader.vars.faces_a = search rules in
    let target : c.target_faces-faces_b.result ≡ reader.vars.faces_b = search rules in
    let begun : IsMaking folder c.args.name.now a b reader c.in-Ok.maker =
    begun_making folder c.args.name.now a b reader c.in-Ok.maker c.requires.read (sym source ∙ c.in-Ok.ensures.source) (sym target ∙ c.in-Ok.ensures.target) c.in-Ok.ensures.maker in
    c.in-Err-put.ensures.why a b begun

pub finish-requires : goal.finish-requires
finish-requires g c =
    let folder = (g.F.Files.seen c.args.files.now).folder in
    let reader = c.args.reader in
    let a = c.args.a.now in
    let b = c.args.b.now in
    let source : c.source_faces-faces_a.result ≡ reader.vars.faces_a = search rules in
    let target : c.target_faces-faces_b.result ≡ reader.vars.faces_b = search rules in
    let begun : IsMaking folder c.args.name.now a b reader c.in-Ok.maker =
    begun_making folder c.args.name.now a b reader c.in-Ok.maker c.requires.read (sym source ∙ c.in-Ok.ensures.source) (sym target ∙ c.in-Ok.ensures.target) c.in-Ok.ensures.maker in
    let whole : IsWhole folder c.args.name.now a b c.put_pieces-put.new.maker = c.in-Ok-put.ensures.whole a b begun in
    (whole.overlap, whole.made)

pub returns-in-Ok-finish-clause-map : goal.returns-in-Ok-finish-clause-map
returns-in-Ok-finish-clause-map g c =
    let folder = (g.F.Files.seen c.args.files.now).folder in
    let reader = c.args.reader in
    let a = c.args.a.now in
    let b = c.args.b.now in
    let source : c.source_faces-faces_a.result ≡ reader.vars.faces_a = search rules in
    let target : c.target_faces-faces_b.result ≡ reader.vars.faces_b = search rules in
    let begun : IsMaking folder c.args.name.now a b reader c.in-Ok.maker =
    begun_making folder c.args.name.now a b reader c.in-Ok.maker c.requires.read (sym source ∙ c.in-Ok.ensures.source) (sym target ∙ c.in-Ok.ensures.target) c.in-Ok.ensures.maker in
    let whole : IsWhole folder c.args.name.now a b c.put_pieces-put.new.maker = c.in-Ok-put.ensures.whole a b begun in
    whole_map folder c.args.name.now a b c.put_pieces-put.new.maker c.in-Ok-finish.map whole (c.in-Ok-finish.ensures.accepted whole.overlap whole.made whole.right) (c.in-Ok-finish.ensures.map whole.overlap whole.made)

pub returns-in-Err-finish-clause-why : goal.returns-in-Err-finish-clause-why
returns-in-Err-finish-clause-why g c =
    let folder = (g.F.Files.seen c.args.files.now).folder in
    let reader = c.args.reader in
    let a = c.args.a.now in
    let b = c.args.b.now in
    let source : c.source_faces-faces_a.result ≡ reader.vars.faces_a = search rules in
    let target : c.target_faces-faces_b.result ≡ reader.vars.faces_b = search rules in
    let begun : IsMaking folder c.args.name.now a b reader c.in-Ok.maker =
    begun_making folder c.args.name.now a b reader c.in-Ok.maker c.requires.read (sym source ∙ c.in-Ok.ensures.source) (sym target ∙ c.in-Ok.ensures.target) c.in-Ok.ensures.maker in
    let whole : IsWhole folder c.args.name.now a b c.put_pieces-put.new.maker = c.in-Ok-put.ensures.whole a b begun in
    whole_fault folder c.args.name.now a b c.put_pieces-put.new.maker c.in-Err-finish.fault whole (c.in-Err-finish.ensures.fault whole.overlap whole.made whole.right)
