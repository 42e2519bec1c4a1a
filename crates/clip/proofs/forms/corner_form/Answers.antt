use Rattle.std.proofs.Common.{refl, subst}
use Rattle.cone_laws.specs.Ring.{planes_of_pair}
use Rattle.clip.specs.Outlines.{nodes_of}
use Rattle.clip.specs.Forms.{IsFormOf}
use Rattle.clip.proofs.CornerPlaces.{corner_is}
use Rattle.clip.proofs.forms.corner_form.Goals as goal

pub returns : goal.returns
returns c =
    subst (IsFormOf c.form_of.result)
    (corner_is (planes_of_pair (nodes_of c.args.f.now) (nodes_of c.args.g.now)) c.args.ring.now.items c.as_slice-numbers.result.now c.args.t c.next_place-following.result _ _ _ refl refl refl
    c.next_place-following.ensures.value c.as_slice-numbers.ensures.value)
    c.form_of.ensures
