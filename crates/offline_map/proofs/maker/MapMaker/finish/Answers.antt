use Rattle.std.proofs.Common.{◌≡◌, ◌≢◌, ◌∙◌, IfErr, Err, rules, sym, subst}
use Rattle.offline_map.specs.declared.faults.MapFault.{MapFault}
use Rattle.offline_map.specs.declared.faults.MapFault.TheVariants.{NoMemory}
use Rattle.offline_map.specs.MapFaults.{IsMapFaultOf}
use Rattle.offline_map.proofs.Made.{sound_rows_of, target_areas_of, few_areas, all_covered, fault_of_areas, sound_map}
use Rattle.offline_map.proofs.Makings.{source_count, target_count, rows_of_pieces}
use Rattle.offline_map.proofs.maker.MapMaker.finish.Goals as goal

pub areas_of_rows-requires-clause-rows : goal.areas_of_rows-requires-clause-rows
areas_of_rows-requires-clause-rows c =
    let o = c.requires.0 in
    let made = c.requires.1 in
    sound_rows_of o c.face_count-n_a.result c.face_count-n_b.result c.deref.result.now made.sound (source_count _ _ o _ c.self.view_is made c.face_count-n_a.ensures.count)
    (target_count _ _ o _ c.self.view_is made c.face_count-n_b.ensures.count) (c.deref.ensures.value ∙ rows_of_pieces _ _ o c.self.view_is made)

pub check_covered-requires : goal.check_covered-requires
check_covered-requires c =
    let o = c.requires.0 in
    let made = c.requires.1 in
    let target = target_count _ _ o _ c.self.view_is made c.face_count-n_b.ensures.count in
    few_areas o c.deref-2.result.now made.sound
    (target_areas_of o c.face_count-n_b.result c.deref.result.now c.deref-2.result.now target (c.deref.ensures.value ∙ rows_of_pieces _ _ o c.self.view_is made)
    (c.deref-2.ensures.value ∙ c.in_ok-areas.ensures.target))

pub returns-in_err-check_covered-clause-fault : goal.returns-in_err-check_covered-clause-fault
returns-in_err-check_covered-clause-fault c = λ o made right.
    let a = c.args.self.a in
    let b = c.args.self.b in
    let found = c.in_err-check_covered.field-0.0 in
    let target = target_count _ _ o _ c.self.view_is made c.face_count-n_b.ensures.count in
    let areas = target_areas_of o c.face_count-n_b.result c.deref.result.now c.deref-2.result.now target (c.deref.ensures.value ∙ rows_of_pieces _ _ o c.self.view_is made)
    (c.deref-2.ensures.value ∙ c.in_ok-areas.ensures.target)
    in
    let gives : c.from_residual-in_err-check_covered.result ≡ Err found = search rules in
    let first = fault_of_areas a b o c.deref-2.result.now found made.counts right areas c.in_err-check_covered.ensures.fault in
    subst (λ r. IfErr r (λ (fault : MapFault). fault ≢ NoMemory → IsMapFaultOf a b o fault)) (sym gives) (λ n. first)

pub invariant_of-result : goal.invariant_of-result
invariant_of-result c =
    let o = c.requires.0 in
    let made = c.requires.1 in
    sound_map o c.face_count-n_a.result c.face_count-n_b.result _ _ _ made.sound (source_count _ _ o _ c.self.view_is made c.face_count-n_a.ensures.count)
    (target_count _ _ o _ c.self.view_is made c.face_count-n_b.ensures.count) (rows_of_pieces _ _ o c.self.view_is made) (search rules) (search rules) (search rules)

pub returns-clause-accepted : goal.returns-clause-accepted
returns-clause-accepted c = λ o made right.
    let target = target_count _ _ o _ c.self.view_is made c.face_count-n_b.ensures.count in
    let areas = target_areas_of o c.face_count-n_b.result c.deref.result.now c.deref-2.result.now target (c.deref.ensures.value ∙ rows_of_pieces _ _ o c.self.view_is made)
    (c.deref-2.ensures.value ∙ c.in_ok-areas.ensures.target)
    in
    record { counts = made.counts; pieces = right; covered = all_covered o c.deref-2.result.now areas c.in_ok-check_covered.ensures.covered }
