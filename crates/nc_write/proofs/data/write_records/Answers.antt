use Rattle.std.proofs.Common.{sym, ◌∙◌}
use Rattle.std.proofs.lemmas.List.Folds.{flat_map-map}
use Rattle.nc_write.specs.File.{record_data, record_of}
use Rattle.nc_write.specs.Made.{made_var, made_doc}
use Rattle.nc_write.proofs.Appending.{appends_more, appends_same}
use Rattle.nc_write.proofs.Made.{made_pads}
use Rattle.nc_write.proofs.Records.{flat_range_more}
use Rattle.nc_write.proofs.data.write_records.Goals as goal

pub write_record-requires-clause-several : goal.write_record-requires-clause-several
write_record-requires-clause-several g c =
    c.pads_records-several.ensures ∙ sym (made_pads (g.M.MadeNumbers.numbers c.args.made.now) c.args.doc.now)

pub loop-r-preserved : goal.loop-r-preserved
unfolding record_of
loop-r-preserved g c =
    let f = g.M.MadeNumbers.numbers c.args.made.now in
    let doc = made_doc f c.args.doc.now in
    let here = appends_same _ _ _ _ c.in_ok-write_record.ensures (sym (flat_map-map (record_data doc c.loop-r.r) (made_var f) c.args.doc.now.vars)) in
    appends_more _ _ _ _ _ _ c.loop-r.invariant here (sym (flat_range_more (record_of doc) c.loop-r.r))
