-- What clap makes of the words of each command, by computing.
use Rattle.std.proofs.Common.{◌≡◌, ℕ, List, [], ◌∷◌, true, Some, None, refl}
use Rattle.clap.specs.Words.{is_simple}
use Rattle.clap.proofs.OnLiterals.{clap_on_literals}
use Rattle.command_line.specs.declared.table.Command.{Command}
use Rattle.command_line.specs.declared.table.Command.TheVariants.{GenerateCSMesh, GenerateRLLMesh, GenerateICOMesh, GenerateOverlapMesh, GenerateOfflineMap, ApplyOfflineMap, SelfRun, CheckCoverage, CheckMesh}
use Rattle.command_line.specs.Clap.{Value, app_for, IsRead}

pub apps_are_simple : (c : Command) → is_simple (app_for c) ≡ true
apps_are_simple GenerateCSMesh = refl
apps_are_simple GenerateRLLMesh = refl
apps_are_simple GenerateICOMesh = refl
apps_are_simple GenerateOverlapMesh = refl
apps_are_simple GenerateOfflineMap = refl
apps_are_simple ApplyOfflineMap = refl
apps_are_simple SelfRun = refl
apps_are_simple CheckCoverage = refl
apps_are_simple CheckMesh = refl

-- the value of an option
abbrev pub text : List ℕ → Value
text t = Some (Some t)

pub sphere : (res file : List ℕ) → IsRead GenerateCSMesh (text res ∷ text file ∷ [])
unfolding clap_on_literals
sphere res file = (refl, (refl, (refl, tt)))

pub lattice : (lon lat file : List ℕ) → IsRead GenerateRLLMesh (text lon ∷ text lat ∷ text file ∷ [])
unfolding clap_on_literals
lattice lon lat file = (refl, (refl, (refl, (refl, tt))))

pub icosahedron : (res file : List ℕ) → IsRead GenerateICOMesh (text res ∷ text file ∷ None ∷ [])
unfolding clap_on_literals
icosahedron res file = (refl, (refl, (refl, (refl, tt))))

pub dual : (res file : List ℕ) → IsRead GenerateICOMesh (text res ∷ text file ∷ Some None ∷ [])
unfolding clap_on_literals
dual res file = (refl, (refl, (refl, (refl, tt))))

pub overlap : (a b out : List ℕ) → IsRead GenerateOverlapMesh (text a ∷ text b ∷ text out ∷ None ∷ [])
unfolding clap_on_literals
overlap a b out = (refl, (refl, (refl, (refl, (refl, tt)))))

pub overlap_by : (a b out workers : List ℕ) → IsRead GenerateOverlapMesh (text a ∷ text b ∷ text out ∷ text workers ∷ [])
unfolding clap_on_literals
overlap_by a b out workers = (refl, (refl, (refl, (refl, (refl, tt)))))

pub offline_map : (in_mesh out_mesh ov_mesh out_map : List ℕ) → IsRead GenerateOfflineMap (text in_mesh ∷ text out_mesh ∷ text ov_mesh ∷ text out_map ∷ [])
unfolding clap_on_literals
offline_map in_mesh out_mesh ov_mesh out_map = (refl, (refl, (refl, (refl, (refl, tt)))))

pub apply : (map var in_data out_data : List ℕ) → IsRead ApplyOfflineMap (text map ∷ text var ∷ text in_data ∷ text out_data ∷ None ∷ [])
unfolding clap_on_literals
apply map var in_data out_data = (refl, (refl, (refl, (refl, (refl, (refl, tt))))))

pub apply_masked : (map var in_data out_data : List ℕ) → IsRead ApplyOfflineMap (text map ∷ text var ∷ text in_data ∷ text out_data ∷ Some None ∷ [])
unfolding clap_on_literals
apply_masked map var in_data out_data = (refl, (refl, (refl, (refl, (refl, (refl, tt))))))

pub self_run : (n : List ℕ) → IsRead SelfRun (text n ∷ None ∷ [])
unfolding clap_on_literals
self_run n = (refl, (refl, (refl, tt)))

pub self_run_by : (n workers : List ℕ) → IsRead SelfRun (text n ∷ text workers ∷ [])
unfolding clap_on_literals
self_run_by n workers = (refl, (refl, (refl, tt)))

pub coverage : (a b : List ℕ) → IsRead CheckCoverage (text a ∷ text b ∷ [])
unfolding clap_on_literals
coverage a b = (refl, (refl, (refl, tt)))

pub check : (file : List ℕ) → IsRead CheckMesh (text file ∷ None ∷ [])
unfolding clap_on_literals
check file = (refl, (refl, (refl, tt)))

pub check_by : (file workers : List ℕ) → IsRead CheckMesh (text file ∷ text workers ∷ [])
unfolding clap_on_literals
check_by file workers = (refl, (refl, (refl, tt)))
