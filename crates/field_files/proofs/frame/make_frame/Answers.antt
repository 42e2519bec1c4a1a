use Rattle.std.proofs.Common.{rules, ◌≡◌, ◌<◌, ℕ, length, All, ap, sym, subst, ◌∙◌, arith}
use Rattle.field_files.proofs.EachOnce.{each_once_short}
use Rattle.field_files.proofs.FieldLeads.{has_leading}
use Rattle.field_files.proofs.frame.make_frame.Goals as goal

pub leading_ids-leading-requires : goal.leading_ids-leading-requires
leading_ids-leading-requires c =
    let h = has_leading c.args.file.now c.requires.field.0 c.args.field c.requires.header c.requires.field.1 in
    omega (arith, h.within_var)

pub each_once-requires-clause-ids : goal.each_once-requires-clause-ids
each_once-requires-clause-ids c =
    let h = has_leading c.args.file.now c.requires.field.0 c.args.field c.requires.header c.requires.field.1 in
    let len : c.len.result ≡ length c.args.file.now.dims = search rules in
    subst (λ (n : ℕ). All (λ (id : ℕ). id < n) c.leading_ids-leading.result.now) (sym len)
    (subst (All (λ (id : ℕ). id < length c.args.file.now.dims)) (sym c.leading_ids-leading.ensures) h.within)

pub each_once-requires-clause-few : goal.each_once-requires-clause-few
each_once-requires-clause-few c =
    let h = has_leading c.args.file.now c.requires.field.0 c.args.field c.requires.header c.requires.field.1 in
    omega (arith, h.few, ap length c.leading_ids-leading.ensures)

pub field_ids-requires-clause-few : goal.field_ids-requires-clause-few
field_ids-requires-clause-few c =
    let h = has_leading c.args.file.now c.requires.field.0 c.args.field c.requires.header c.requires.field.1 in
    omega (arith, h.few, ap length c.leading_ids-leading.ensures, each_once_short c.leading_ids-leading.result.now)

pub field_ids-requires-clause-within : goal.field_ids-requires-clause-within
field_ids-requires-clause-within c =
    let h = has_leading c.args.file.now c.requires.field.0 c.args.field c.requires.header c.requires.field.1 in
    let len : c.len.result ≡ length c.args.file.now.dims = search rules in
    let count : length c.in_ok-kept.kept.places.items ≡ length c.args.file.now.dims = c.in_ok-kept.ensures.places.len ∙ len in
    subst (λ (n : ℕ). All (λ (id : ℕ). id < n) c.leading_ids-leading.result.now) (sym count)
    (subst (All (λ (id : ℕ). id < length c.args.file.now.dims)) (sym c.leading_ids-leading.ensures) h.within)
