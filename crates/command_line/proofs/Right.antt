-- What clap makes of the words of right items.
use Rattle.std.proofs.Common.{◌≡◌, ◌∙◌, refl, sym, subst, Bool, true, false, ℕ, List, [], ◌∷◌, codes, map, Option, Some, None, option_and_then, is_some, IsSome, IsSomeAnd, IfSome}
use Rattle.clap.specs.Words.{Row, first_of}
use Rattle.command_line.specs.declared.table.Command.{Command}
use Rattle.command_line.specs.declared.table.Command.TheVariants.{GenerateCSMesh, GenerateRLLMesh, GenerateICOMesh, GenerateOverlapMesh, GenerateOfflineMap, ApplyOfflineMap, SelfRun, CheckCoverage, CheckMesh}
use Rattle.command_line.specs.declared.table.Form.{Form}
use Rattle.command_line.specs.declared.table.Form.TheVariants.{Text, Number, Flag}
use Rattle.command_line.specs.Table.{Rule, required, optional, rules_of}
use Rattle.command_line.specs.Clap.{Value, values_of, IsRead, ReadsBack, ReadsAll, IsTold, AreTold, says_true}
use Rattle.command_line.specs.Words.{choice_of, is_number}
use Rattle.command_line.proofs.Computed.{text, sphere, lattice, icosahedron, dual, overlap, overlap_by, offline_map, apply, apply_masked, self_run, self_run_by, coverage, check, check_by}
use Rattle.command_line.proofs.Fitting.{fits, AllFit, required_text, required_number, optional_number, optional_flag}

-- clap takes the words of right items, and gives their values back
pub right_is_read : (command : Command) (g : List ℕ → Value) → AllFit (rules_of command) g → IsRead command (values_of command g)
right_is_read GenerateCSMesh g h =
    required_number (codes "res") 1 400 (λ v. IsRead GenerateCSMesh (v ∷ g (codes "file") ∷ [])) (g (codes "res")) h.0 (λ t0.
    required_text (codes "file") (λ v. IsRead GenerateCSMesh (text t0 ∷ v ∷ [])) (g (codes "file")) h.1.0 (λ t1. sphere t0 t1))
right_is_read GenerateRLLMesh g h =
    required_number (codes "lon") 3 720 (λ v. IsRead GenerateRLLMesh (v ∷ g (codes "lat") ∷ g (codes "file") ∷ [])) (g (codes "lon")) h.0 (λ t0.
    required_number (codes "lat") 2 360 (λ v. IsRead GenerateRLLMesh (text t0 ∷ v ∷ g (codes "file") ∷ [])) (g (codes "lat")) h.1.0 (λ t1.
    required_text (codes "file") (λ v. IsRead GenerateRLLMesh (text t0 ∷ text t1 ∷ v ∷ [])) (g (codes "file")) h.1.1.0 (λ t2. lattice t0 t1 t2)))
right_is_read GenerateICOMesh g h =
    required_number (codes "res") 1 200 (λ v. IsRead GenerateICOMesh (v ∷ g (codes "file") ∷ g (codes "dual") ∷ [])) (g (codes "res")) h.0 (λ t0.
    required_text (codes "file") (λ v. IsRead GenerateICOMesh (text t0 ∷ v ∷ g (codes "dual") ∷ [])) (g (codes "file")) h.1.0 (λ t1.
    optional_flag (codes "dual") (λ v. IsRead GenerateICOMesh (text t0 ∷ text t1 ∷ v ∷ [])) (g (codes "dual")) h.1.1.0 (icosahedron t0 t1) (dual t0 t1)))
right_is_read GenerateOverlapMesh g h =
    required_text (codes "a") (λ v. IsRead GenerateOverlapMesh (v ∷ g (codes "b") ∷ g (codes "out") ∷ g (codes "workers") ∷ [])) (g (codes "a")) h.0 (λ t0.
    required_text (codes "b") (λ v. IsRead GenerateOverlapMesh (text t0 ∷ v ∷ g (codes "out") ∷ g (codes "workers") ∷ [])) (g (codes "b")) h.1.0 (λ t1.
    required_text (codes "out") (λ v. IsRead GenerateOverlapMesh (text t0 ∷ text t1 ∷ v ∷ g (codes "workers") ∷ [])) (g (codes "out")) h.1.1.0 (λ t2.
    optional_number (codes "workers") 1 64 (λ v. IsRead GenerateOverlapMesh (text t0 ∷ text t1 ∷ text t2 ∷ v ∷ [])) (g (codes "workers")) h.1.1.1.0 (overlap t0 t1 t2) (λ t3. overlap_by t0 t1 t2 t3))))
right_is_read GenerateOfflineMap g h =
    required_text (codes "in_mesh") (λ v. IsRead GenerateOfflineMap (v ∷ g (codes "out_mesh") ∷ g (codes "ov_mesh") ∷ g (codes "out_map") ∷ [])) (g (codes "in_mesh")) h.0 (λ t0.
    required_text (codes "out_mesh") (λ v. IsRead GenerateOfflineMap (text t0 ∷ v ∷ g (codes "ov_mesh") ∷ g (codes "out_map") ∷ [])) (g (codes "out_mesh")) h.1.0 (λ t1.
    required_text (codes "ov_mesh") (λ v. IsRead GenerateOfflineMap (text t0 ∷ text t1 ∷ v ∷ g (codes "out_map") ∷ [])) (g (codes "ov_mesh")) h.1.1.0 (λ t2.
    required_text (codes "out_map") (λ v. IsRead GenerateOfflineMap (text t0 ∷ text t1 ∷ text t2 ∷ v ∷ [])) (g (codes "out_map")) h.1.1.1.0 (λ t3. offline_map t0 t1 t2 t3))))
right_is_read ApplyOfflineMap g h =
    required_text (codes "map") (λ v. IsRead ApplyOfflineMap (v ∷ g (codes "var") ∷ g (codes "in_data") ∷ g (codes "out_data") ∷ g (codes "masked") ∷ [])) (g (codes "map")) h.0 (λ t0.
    required_text (codes "var") (λ v. IsRead ApplyOfflineMap (text t0 ∷ v ∷ g (codes "in_data") ∷ g (codes "out_data") ∷ g (codes "masked") ∷ [])) (g (codes "var")) h.1.0 (λ t1.
    required_text (codes "in_data") (λ v. IsRead ApplyOfflineMap (text t0 ∷ text t1 ∷ v ∷ g (codes "out_data") ∷ g (codes "masked") ∷ [])) (g (codes "in_data")) h.1.1.0 (λ t2.
    required_text (codes "out_data") (λ v. IsRead ApplyOfflineMap (text t0 ∷ text t1 ∷ text t2 ∷ v ∷ g (codes "masked") ∷ [])) (g (codes "out_data")) h.1.1.1.0 (λ t3.
    optional_flag (codes "masked") (λ v. IsRead ApplyOfflineMap (text t0 ∷ text t1 ∷ text t2 ∷ text t3 ∷ v ∷ [])) (g (codes "masked")) h.1.1.1.1.0 (apply t0 t1 t2 t3) (apply_masked t0 t1 t2 t3)))))
right_is_read SelfRun g h =
    required_number (codes "n") 1 100 (λ v. IsRead SelfRun (v ∷ g (codes "workers") ∷ [])) (g (codes "n")) h.0 (λ t0.
    optional_number (codes "workers") 1 64 (λ v. IsRead SelfRun (text t0 ∷ v ∷ [])) (g (codes "workers")) h.1.0 (self_run t0) (λ t1. self_run_by t0 t1))
right_is_read CheckCoverage g h =
    required_text (codes "a") (λ v. IsRead CheckCoverage (v ∷ g (codes "b") ∷ [])) (g (codes "a")) h.0 (λ t0.
    required_text (codes "b") (λ v. IsRead CheckCoverage (text t0 ∷ v ∷ [])) (g (codes "b")) h.1.0 (λ t1. coverage t0 t1))
right_is_read CheckMesh g h =
    required_text (codes "file") (λ v. IsRead CheckMesh (v ∷ g (codes "workers") ∷ [])) (g (codes "file")) h.0 (λ t0.
    optional_number (codes "workers") 1 64 (λ v. IsRead CheckMesh (text t0 ∷ v ∷ [])) (g (codes "workers")) h.1.0 (check t0) (λ t1. check_by t0 t1))

told_text : (name : List ℕ) (value : Value) (told : Option (List ℕ)) (rows : List Row) → fits (required name Text) value ≡ true → ReadsBack Text name value rows → told ≡ first_of name rows → IsSome told
told_text name value told rows h read is =
    required_text name (λ v. ReadsBack Text name v rows → IsSome told) value h (λ t given. subst IsSome (sym (is ∙ given)) refl) read

told_number : (name : List ℕ) (low high : ℕ) (value : Value) (told : Option (List ℕ)) (rows : List Row) → fits (required name (Number low high)) value ≡ true → ReadsBack (Number low high) name value rows → told ≡ first_of name rows → IsSomeAnd told (λ t. is_number low high t ≡ true)
told_number name low high value told rows h read is =
    required_number name low high (λ v. fits (required name (Number low high)) v ≡ true → ReadsBack (Number low high) name v rows → IsSomeAnd told (λ t. is_number low high t ≡ true)) value h
    (λ t ranged given. subst (λ (o : Option (List ℕ)). IsSomeAnd o (λ t. is_number low high t ≡ true)) (sym (is ∙ given)) ranged) h read

told_if_number : (name : List ℕ) (low high : ℕ) (value : Value) (told : Option (List ℕ)) (rows : List Row) → fits (optional name (Number low high)) value ≡ true → ReadsBack (Number low high) name value rows → told ≡ first_of name rows → IfSome told (λ t. is_number low high t ≡ true)
told_if_number name low high value told rows h read is =
    optional_number name low high (λ v. fits (optional name (Number low high)) v ≡ true → ReadsBack (Number low high) name v rows → IfSome told (λ t. is_number low high t ≡ true)) value h
    (λ ranged given. subst (λ (o : Option (List ℕ)). IfSome o (λ t. is_number low high t ≡ true)) (sym (is ∙ given)) tt)
    (λ t ranged given. subst (λ (o : Option (List ℕ)). IfSome o (λ t. is_number low high t ≡ true)) (sym (is ∙ given)) ranged) h read

told_form : (name : List ℕ) (needed : Bool) (form : Form) (value : Value) (told : Option (List ℕ)) (rows : List Row) → fits (record { name = name; required = needed; form = form }) value ≡ true → ReadsBack form name value rows → told ≡ first_of name rows → IsTold form needed told
told_form name true Text value told rows h read is = told_text name value told rows h read is
told_form name false Text value told rows h read is = tt
told_form name true (Number low high) value told rows h read is = told_number name low high value told rows h read is
told_form name false (Number low high) value told rows h read is = told_if_number name low high value told rows h read is
told_form name needed Flag value told rows h read is = tt

-- what clap gives back has the forms of the options
pub are_told : (rules : List Rule) (g : List ℕ → Value) (told : List ℕ → Option (List ℕ)) (rows : List Row) → ((name : List ℕ) → told name ≡ first_of name rows) → AllFit rules g → ReadsAll rules (map (λ rule. g rule.name) rules) rows → AreTold rules told
are_told [] g told rows same h read = tt
are_told (rule ∷ rules) g told rows same h read = (
  told_form rule.name rule.required rule.form (g rule.name) (told rule.name) rows h.0 read.0 (same rule.name),
  are_told rules g told rows same h.1 read.1,
)

says : (name : List ℕ) (told : List ℕ → Option (List ℕ)) (rows : List Row) (value : Value) → told name ≡ first_of name rows → ReadsBack Flag name value rows → says_true told name ≡ is_some value
says name told rows None same read = rw (same, read) refl
says name told rows (Some v) same read = rw (same, read) refl

-- and it is what the items have
pub same_choice : (command : Command) (g : List ℕ → Value) (told : List ℕ → Option (List ℕ)) (rows : List Row) → ((name : List ℕ) → told name ≡ first_of name rows) → ReadsAll (rules_of command) (values_of command g) rows
    → choice_of command told (says_true told) ≡ choice_of command (λ name. option_and_then (λ v. v) (g name)) (λ name. is_some (g name))
same_choice GenerateCSMesh g told rows same read = rw (same (codes "res") ∙ read.0, same (codes "file") ∙ read.1.0) refl
same_choice GenerateRLLMesh g told rows same read = rw (same (codes "lon") ∙ read.0, same (codes "lat") ∙ read.1.0, same (codes "file") ∙ read.1.1.0) refl
same_choice GenerateICOMesh g told rows same read = rw (same (codes "res") ∙ read.0, same (codes "file") ∙ read.1.0, says (codes "dual") told rows (g (codes "dual")) (same (codes "dual")) read.1.1.0) refl
same_choice GenerateOverlapMesh g told rows same read = rw (same (codes "a") ∙ read.0, same (codes "b") ∙ read.1.0, same (codes "out") ∙ read.1.1.0, same (codes "workers") ∙ read.1.1.1.0) refl
same_choice GenerateOfflineMap g told rows same read = rw (same (codes "in_mesh") ∙ read.0, same (codes "out_mesh") ∙ read.1.0, same (codes "ov_mesh") ∙ read.1.1.0, same (codes "out_map") ∙ read.1.1.1.0) refl
same_choice ApplyOfflineMap g told rows same read = rw (same (codes "map") ∙ read.0, same (codes "var") ∙ read.1.0, same (codes "in_data") ∙ read.1.1.0, same (codes "out_data") ∙ read.1.1.1.0, says (codes "masked") told rows (g (codes "masked")) (same (codes "masked")) read.1.1.1.1.0) refl
same_choice SelfRun g told rows same read = rw (same (codes "n") ∙ read.0, same (codes "workers") ∙ read.1.0) refl
same_choice CheckCoverage g told rows same read = rw (same (codes "a") ∙ read.0, same (codes "b") ∙ read.1.0) refl
same_choice CheckMesh g told rows same read = rw (same (codes "file") ∙ read.0, same (codes "workers") ∙ read.1.0) refl
