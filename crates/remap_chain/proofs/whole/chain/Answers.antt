use Rattle.std.proofs.Common.{◌≡◌, ◌∙◌, Err, rules, ap, subst}
use Rattle.map_rows.specs.Maps.{MapParts}
use Rattle.remap_chain.specs.Chains.{IsFoundOverlap, IsFaultOfField}
use Rattle.remap_chain.proofs.OneField.{faultless, fault_of_overlap, fault_of_map, fault_of_field, refused}
use Rattle.remap_chain.proofs.whole.chain.Goals as goal

pub returns-in_err-overlap-clause-refused : goal.returns-in_err-overlap-clause-refused
returns-in_err-overlap-clause-refused g c =
    let a = c.args.a.now in
    let b = c.args.b.now in
    let values = c.args.values.now in
    let fault = c.in_err-overlap.field-0.0 in
    let gives : c.from_residual.result ≡ Err fault = search rules in
    refused a b values fault c.from_residual.result gives (fault_of_overlap a b values fault c.in_err-overlap.ensures.fault)

pub returns-in_err-map-clause-refused : goal.returns-in_err-map-clause-refused
returns-in_err-map-clause-refused g c =
    let a = c.args.a.now in
    let b = c.args.b.now in
    let values = c.args.values.now in
    let o = c.in_ok-overlap.overlap in
    let fault = c.in_err-map.field-0.0 in
    let found : IsFoundOverlap a b o = record { overlap = c.in_ok-overlap.ensures.overlap; few = c.own_map.ensures.few } in
    let gives : c.from_residual-in_err-map.result ≡ Err fault = search rules in
    refused a b values fault c.from_residual-in_err-map.result gives (fault_of_map a b values o fault found c.in_err-map.ensures.fault)

pub returns-in_err-field-clause-refused : goal.returns-in_err-field-clause-refused
returns-in_err-field-clause-refused g c =
    let a = c.args.a.now in
    let b = c.args.b.now in
    let values = c.args.values.now in
    let o = c.in_ok-overlap.overlap in
    let fault = c.in_err-field.field-0.0 in
    let found : IsFoundOverlap a b o = record { overlap = c.in_ok-overlap.ensures.overlap; few = c.own_map.ensures.few } in
    let gives : c.from_residual-in_err-field.result ≡ Err fault = search rules in
    let own = subst (λ (m : MapParts). IsFaultOfField m values fault) c.in_ok-map.ensures.map c.in_err-field.ensures.fault in
    refused a b values fault c.from_residual-in_err-field.result gives (fault_of_field a b values o fault found c.in_ok-map.ensures.accepted own)

pub returns-clause-refused : goal.returns-clause-refused
returns-clause-refused g c = λ fault h.
    let a = c.args.a.now in
    let b = c.args.b.now in
    let values = c.args.values.now in
    let o = c.in_ok-overlap.overlap in
    let found : IsFoundOverlap a b o = record { overlap = c.in_ok-overlap.ensures.overlap; few = c.own_map.ensures.few } in
    let counts = c.in_ok-field.ensures.counts ∙ ap (λ (m : MapParts). m.n_a) c.in_ok-map.ensures.map in
    absurd (faultless a b values o fault (record { found = found; mappable = c.in_ok-map.ensures.accepted; counts = counts }) h)
