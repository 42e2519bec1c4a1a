-- The numbers of right items are in their ranges.
use Rattle.std.proofs.Common.{◌≡◌, ◌≤◌, ℕ, true, List, [], codes, option_and_then, unwrap_or, is_some, arith}
use Rattle.std.specs.Option.{option_map_or}
use Rattle.std.specs.Str.Parse.{digits_value}
use Rattle.std.proofs.lemmas.Bool.Decides.{nat_tests}
use Rattle.command_line.specs.declared.table.Command.{Command}
use Rattle.command_line.specs.declared.table.Command.TheVariants.{GenerateCSMesh, GenerateRLLMesh, GenerateICOMesh, GenerateOverlapMesh, GenerateOfflineMap, ApplyOfflineMap, SelfRun, CheckCoverage, CheckMesh}
use Rattle.command_line.specs.declared.table.Form.TheVariants.{Number}
use Rattle.command_line.specs.Table.{required, optional, rules_of}
use Rattle.command_line.specs.Words.{choice_of, is_number, HasLimits}
use Rattle.command_line.specs.Clap.{Value}
use Rattle.command_line.proofs.Fitting.{fits, AllFit, required_number, optional_number}

ranged : (low high : ℕ) (text : List ℕ) → is_number low high text ≡ true → (low ≤ digits_value 10 text) × (digits_value 10 text ≤ high)
ranged low high text h = (grind (arith, nat_tests), grind (arith, nat_tests))

number_ranged : (name : List ℕ) (low high : ℕ) (v : Value) → fits (required name (Number low high)) v ≡ true
    → (low ≤ digits_value 10 (unwrap_or (option_and_then (λ t. t) v) [])) × (digits_value 10 (unwrap_or (option_and_then (λ t. t) v) []) ≤ high)
number_ranged name low high v h =
    required_number name low high (λ v. fits (required name (Number low high)) v ≡ true → (low ≤ digits_value 10 (unwrap_or (option_and_then (λ t. t) v) [])) × (digits_value 10 (unwrap_or (option_and_then (λ t. t) v) []) ≤ high)) v h
    (λ t fit. ranged low high t fit) h

workers_ranged : (v : Value) → fits (optional (codes "workers") (Number 1 64)) v ≡ true
    → (1 ≤ option_map_or (digits_value 10) (option_and_then (λ t. t) v) 1) × (option_map_or (digits_value 10) (option_and_then (λ t. t) v) 1 ≤ 64)
workers_ranged v h =
    optional_number (codes "workers") 1 64 (λ v. fits (optional (codes "workers") (Number 1 64)) v ≡ true → (1 ≤ option_map_or (digits_value 10) (option_and_then (λ t. t) v) 1) × (option_map_or (digits_value 10) (option_and_then (λ t. t) v) 1 ≤ 64)) v h
    (λ fit. (omega arith, omega arith)) (λ t fit. ranged 1 64 t fit) h

pub has_limits : (command : Command) (g : List ℕ → Value) → AllFit (rules_of command) g → HasLimits (choice_of command (λ name. option_and_then (λ v. v) (g name)) (λ name. is_some (g name)))
has_limits GenerateCSMesh g h = number_ranged (codes "res") 1 400 (g (codes "res")) h.0
has_limits GenerateRLLMesh g h =
    let lon = number_ranged (codes "lon") 3 720 (g (codes "lon")) h.0 in
    let lat = number_ranged (codes "lat") 2 360 (g (codes "lat")) h.1.0 in
    (lon.0, lon.1, lat.0, lat.1)
has_limits GenerateICOMesh g h = number_ranged (codes "res") 1 200 (g (codes "res")) h.0
has_limits GenerateOverlapMesh g h = workers_ranged (g (codes "workers")) h.1.1.1.0
has_limits GenerateOfflineMap g h = tt
has_limits ApplyOfflineMap g h = tt
has_limits SelfRun g h =
    let n = number_ranged (codes "n") 1 100 (g (codes "n")) h.0 in
    let workers = workers_ranged (g (codes "workers")) h.1.0 in
    (n.0, n.1, workers.0, workers.1)
has_limits CheckCoverage g h = tt
has_limits CheckMesh g h = workers_ranged (g (codes "workers")) h.1.0
