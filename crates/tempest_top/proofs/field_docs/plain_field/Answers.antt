use Rattle.std.proofs.Common.{rules, ◌≡◌, ◌∙◌, ◌*◌, ℕ, ap, ap₂, subst, sym}
use mir.Syntax.{w128}
use mir.Val.{SFits, to_z, of_z}
use Rattle.std.proofs.lemmas.Int.{to_z-of_z}
use Rattle.nc_format.specs.declared.NcFile.{NcFile}
use Rattle.field_files.specs.FieldDocument.{field_document}
use Rattle.data_load.specs.declared.DataVar.{DataVar}
use Rattle.map_rows.specs.Maps.{MapParts, IsSoundMap}
use Rattle.map_rows.specs.Application.{whole_of, rest_of, source_mass_of}
use Rattle.map_rows.proofs.Masses.{equal_masses}
use Rattle.apply_map.proofs.Parts.{count_of}
use Rattle.tempest_top.specs.Fields.{field_text, plain_of}
use Rattle.tempest_top.proofs.field_docs.plain_field.Goals as goal

pub returns-clause-document : goal.returns-clause-document
returns-clause-document c =
    let m = c.args.map.now in
    let made = plain_of m c.args.found.now c.args.field in
    let file : c.found.inside.0.0 ≡ c.args.found.now.file = ap (λ (found : DataVar). found.file) c.found.view_is in
    let n : c.map.inside.n_b ≡ m.n_b = ap (λ (p : MapParts). p.n_b) c.map.view_is in
    c.in_ok-doc.ensures.document made.whole made.rest ∙ ap₂ (λ (over : NcFile) (n_b : ℕ). field_document over c.args.field n_b made.whole made.rest) file n

pub returns-clause-well_formed : goal.returns-clause-well_formed
returns-clause-well_formed c =
    let m = c.args.map.now in
    let slices = c.args.field.slices in
    let values = c.args.found.now.values in
    let made = plain_of m c.args.found.now c.args.field in
    let n : c.map.inside.n_b ≡ m.n_b = ap (λ (p : MapParts). p.n_b) c.map.view_is in
    let count : slices * m.n_b ≡ slices * c.map.inside.n_b = ap (λ (k : ℕ). slices * k) (sym n) in
    c.in_ok-doc.ensures.well_formed made.whole made.rest (count_of whole_of m slices values ∙ count) (count_of rest_of m slices values ∙ count)

pub returns-clause-text : goal.returns-clause-text
returns-clause-text c =
    let m = c.args.map.now in
    let slices = c.args.field.slices in
    let values = c.args.found.now.values in
    let sound : IsSoundMap m = subst IsSoundMap c.map.view_is c.map.invariant in
    let fits : SFits w128 c.source_mass-mass.result = search rules in
    let is : c.source_mass-mass.result ≡ source_mass_of m slices values = search rules in
    let mass : to_z w128 (of_z w128 c.source_mass-mass.result) ≡ source_mass_of m slices values = to_z-of_z w128 c.source_mass-mass.result fits ∙ is in
    c.in_ok-text.ensures ∙ ap₂ (field_text slices) mass (mass ∙ sym (equal_masses m slices values sound))
