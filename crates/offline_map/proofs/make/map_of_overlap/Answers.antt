use Rattle.std.proofs.Common.{◌≡◌, ◌≢◌, OnOk, IfErr, length, rules, subst}
use Rattle.clip.specs.Overlaps.{IsSoundOverlap}
use Rattle.offline_map.specs.declared.faults.MapFault.{MapFault}
use Rattle.offline_map.specs.declared.faults.MapFault.TheVariants.{NoMemory}
use Rattle.offline_map.specs.MapFaults.{IsMappable, IsMapFaultOf}
use Rattle.offline_map.specs.Making.{Making}
use Rattle.offline_map.proofs.Makings.{made_of_all, right_of_all, is_made_of}
use Rattle.offline_map.proofs.make.map_of_overlap.Goals as goal

pub returns-clause-accepted : goal.returns-clause-accepted
returns-clause-accepted c =
    let a = c.args.a.now in
    let b = c.args.b.now in
    let o = c.args.overlap.now in
    let begun = c.in_ok-maker.ensures.maker in
    let pieces : c.as_slice-pieces.result.now ≡ o.pieces = search rules in
    let sound : IsSoundOverlap o = search rules in
    let source : o.faces_a ≡ length a.faces = search rules in
    let target : o.faces_b ≡ length b.faces = search rules in
    let e = made_of_all a b o c.in_ok-maker.maker c.put_pieces.new.maker _ begun pieces c.in_ok-put_pieces.ensures.rows in
    let made = is_made_of a b o c.put_pieces.new.maker sound source target e in
    let right = right_of_all a b o c.in_ok-maker.maker c.put_pieces.new.maker _ begun pieces e c.in_ok-put_pieces.ensures.right in
    subst (λ (m : Making). OnOk c.finish.result (IsMappable m.a m.b o)) e (c.finish.ensures.accepted o made right)

pub returns-clause-fault : goal.returns-clause-fault
returns-clause-fault c =
    let a = c.args.a.now in
    let b = c.args.b.now in
    let o = c.args.overlap.now in
    let begun = c.in_ok-maker.ensures.maker in
    let pieces : c.as_slice-pieces.result.now ≡ o.pieces = search rules in
    let sound : IsSoundOverlap o = search rules in
    let source : o.faces_a ≡ length a.faces = search rules in
    let target : o.faces_b ≡ length b.faces = search rules in
    let e = made_of_all a b o c.in_ok-maker.maker c.put_pieces.new.maker _ begun pieces c.in_ok-put_pieces.ensures.rows in
    let made = is_made_of a b o c.put_pieces.new.maker sound source target e in
    let right = right_of_all a b o c.in_ok-maker.maker c.put_pieces.new.maker _ begun pieces e c.in_ok-put_pieces.ensures.right in
    subst (λ (m : Making). IfErr c.finish.result (λ (fault : MapFault). fault ≢ NoMemory → IsMapFaultOf m.a m.b o fault)) e (c.finish.ensures.fault o made right)
