use Rattle.std.proofs.Common.{length, sym}
use Rattle.nc_format.specs.Sound.{IsSoundVar}
use Rattle.exodus_mesh.proofs.VarValues.{got}
use Rattle.field_files.proofs.fill.fill_value.Goals as goal

pub int_att-requires : goal.int_att-requires
int_att-requires c =
    let file = c.args.file.now in
    (got (IsSoundVar (length file.dims)) file.vars c.args.place c.in_ok-var.var.now c.requires.sound.vars (sym c.in_ok-var.ensures)).atts
