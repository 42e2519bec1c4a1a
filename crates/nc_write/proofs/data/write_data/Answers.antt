use Rattle.std.proofs.Common.{refl, sym}
use Rattle.std.proofs.lemmas.List.Folds.{flat_map-map}
use Rattle.nc_write.specs.File.{fixed_data, data_of}
use Rattle.nc_write.specs.Form.{HasItsValues}
use Rattle.nc_write.specs.Made.{made_var, made_doc}
use Rattle.nc_write.proofs.Appending.{appends_more, appends_same}
use Rattle.nc_write.proofs.Made.{all_unmapped}
use Rattle.nc_write.proofs.data.write_data.Goals as goal

pub write_records-requires : goal.write_records-requires
write_records-requires g c =
    let f = g.M.MadeNumbers.numbers c.args.made.now in
    all_unmapped (HasItsValues (made_doc f c.args.doc.now)) (made_var f) c.args.doc.now.vars c.requires

pub returns : goal.returns
unfolding data_of
returns g c =
    let f = g.M.MadeNumbers.numbers c.args.made.now in
    let doc = made_doc f c.args.doc.now in
    let fixed = appends_same _ _ _ _ c.in_ok-write_fixed_data.ensures (sym (flat_map-map (fixed_data doc) (made_var f) c.args.doc.now.vars)) in
    appends_more _ _ _ _ _ _ fixed c.in_ok-write_records.ensures refl
