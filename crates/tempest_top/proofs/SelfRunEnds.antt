-- What the ends of a self-run come to.
use Rattle.std.proofs.Common.{◌≡◌, ◌≢◌, ℕ, ℤ, List, [], length, None, codes, refl, ap, subst, inl, inr, arith}
use Rattle.vec_exact.specs.declared.RawMesh.{RawMesh}
use Rattle.mesh_check.specs.Mesh.{IsAcceptedMesh}
use Rattle.mesh_check.specs.declared.faults.MeshFault.{MeshFault}
use Rattle.mesh_check.specs.declared.faults.MeshFault.TheVariants.{NoMemory as NoMeshMemory}
use Rattle.mesh_check.specs.declared.faults.GenFault.{GenFault}
use Rattle.mesh_check.specs.declared.faults.GenFault.TheVariants.{Mesh as FaultOfMade, NoMemory as NoMadeMemory}
use Rattle.mesh_check.proofs.FirstFaults.{no_first_fault}
use Rattle.remap_chain.specs.declared.whole.ChainOut.{ChainOut}
use Rattle.remap_chain.specs.declared.faults.ChainFault.{ChainFault}
use Rattle.remap_chain.specs.declared.faults.ChainFault.TheVariants as of_chain
use Rattle.remap_chain.specs.Chains.{IsChainOf, IsChainFaultOf}
use Rattle.fault_lines.specs.declared.status.Status.{Status}
use Rattle.fault_lines.specs.declared.status.Status.TheVariants.{Mesh, Uncovered, Limit}
use Rattle.tempest_top.specs.Scene.{Scene}
use Rattle.fault_lines.specs.Lines.{PutsText}
use Rattle.tempest_top.specs.SelfRuns.{values_of_faces, chain_text, status_of_chain, chain_fault_text, IsSelfRunFault}
use Rattle.fault_lines.specs.Faults.{too_many_pieces_text, mesh_fault_text, made_text, status_of_made}
use Rattle.fault_lines.specs.RowFaults.{uncovered_text}
use Rattle.tempest_top.specs.Outcome.{IsOutcomeOfChain, IsOutcomeOfSelfRun, fault_of_made, text_alone}
use Rattle.tempest_top.specs.Promises.{IsSelfRunText}
use Rattle.tempest_top.specs.Ends.{Ends, Comes}
use Rattle.tempest_top.proofs.Coming.{Goal, comes_own, comes_stopped, comes_done, comes_as}

-- more pairs of faces meet than an overlap may have
comes_crowded : (source target : RawMesh) (values : List ℤ) (before after : Scene) (n : ℕ) (status : Status) → IsChainFaultOf source target values (of_chain.TooManyPieces n)
    → after.files ≡ before.files → after.out ≡ before.out → status ≡ Limit → PutsText before.err after.err (too_many_pieces_text n) → Comes [] IsSelfRunText None (IsOutcomeOfChain source target values) before after status
comes_crowded source target values before after n status is files out answer put =
    comes_own [] IsSelfRunText None (IsOutcomeOfChain source target values) before after (too_many_pieces_text n) Limit status
    (inl (n, is, refl)) (inr (inl (refl, (n, is.1, refl)))) tt (λ e. cc) files out answer put

-- a target face meets no source face
comes_bare : (source target : RawMesh) (values : List ℤ) (before after : Scene) (j : ℕ) (status : Status) → IsChainFaultOf source target values (of_chain.Uncovered j)
    → after.files ≡ before.files → after.out ≡ before.out → status ≡ Uncovered → PutsText before.err after.err (uncovered_text j) → Comes [] IsSelfRunText None (IsOutcomeOfChain source target values) before after status
comes_bare source target values before after j status is files out answer put =
    comes_own [] IsSelfRunText None (IsOutcomeOfChain source target values) before after (uncovered_text j) Uncovered status
    (inr (inl (j, is, refl))) (inr (inr (refl, (j, refl)))) tt (λ e. cc) files out answer put

-- what is known of a fault of the chain
abbrev pub IsAnswered : RawMesh → RawMesh → List ℤ → ChainFault → Type 0
IsAnswered source target values fault = fault ≢ of_chain.NoMemory → IsChainFaultOf source target values fault

-- where there is a value for each source face, the fault is none of their number
pub no_length : (source target : RawMesh) (values : List ℤ) (fault : ChainFault) → length values ≡ length source.faces → IsAnswered source target values fault → IsSelfRunFault fault
no_length source target values (of_chain.TooManyPieces n) counts is = tt
no_length source target values (of_chain.Uncovered j) counts is = tt
no_length source target values (of_chain.Length sources field) counts is = let h = is (λ e. cc) in h.3.2 (omega (arith, counts, h.1.overlap.source_faces))
no_length source target values of_chain.NoMemory counts is = tt

-- there is no chain
pub comes_unchained : (source target : RawMesh) (values : List ℤ) (before after : Scene) (fault : ChainFault) (status : Status) → IsAnswered source target values fault → IsSelfRunFault fault
    → after.files ≡ before.files → after.out ≡ before.out → status ≡ status_of_chain fault → PutsText before.err after.err (chain_fault_text fault) → Comes [] IsSelfRunText None (IsOutcomeOfChain source target values) before after status
comes_unchained source target values before after (of_chain.TooManyPieces n) status is told files out answer put = comes_crowded source target values before after n status (is (λ e. cc)) files out answer put
comes_unchained source target values before after (of_chain.Uncovered j) status is told files out answer put = comes_bare source target values before after j status (is (λ e. cc)) files out answer put
comes_unchained source target values before after (of_chain.Length sources field) status is told files out answer put = absurd told
comes_unchained source target values before after of_chain.NoMemory status is told files out answer put = comes_stopped [] IsSelfRunText None (IsOutcomeOfChain source target values) before after status files out answer put

-- what the chain gives is told
pub comes_told : (source target : RawMesh) (values : List ℤ) (before after : Scene) (out : ChainOut) (put : List ℕ) (status : Status) → IsChainOf source target values out → put ≡ chain_text source target values out
    → after.files.taken ≡ before.files.taken → Ends (text_alone put before.files.folder) before after status → Comes [] IsSelfRunText None (IsOutcomeOfChain source target values) before after status
comes_told source target values before after out put status is same taken ends =
    comes_done IsSelfRunText None (IsOutcomeOfChain source target values) before after (text_alone put before.files.folder) status
    (inr (inr (out, is, ap (λ (t : List ℕ). text_alone t before.files.folder) same))) refl (λ file e. cc) taken ends

-- the generator gave no target mesh
pub comes_untargeted : (P : Goal) (before after : Scene) (refused : GenFault) (status : Status) → (refused ≡ FaultOfMade NoMeshMemory → ⊥)
    → ((fault : MeshFault) → refused ≡ FaultOfMade fault → P before.files.folder (fault_of_made fault before.files.folder)) → after.files ≡ before.files → after.out ≡ before.out
    → status ≡ status_of_made refused → PutsText before.err after.err (made_text refused) → Comes [] IsSelfRunText None P before after status
comes_untargeted P before after (FaultOfMade fault) status outer outcome files out answer put =
    comes_own [] IsSelfRunText None P before after (mesh_fault_text (codes "generated") fault) Mesh status (outcome fault refl) (inl (refl, (fault, (λ e. outer (ap FaultOfMade e)), refl))) tt (λ e. cc) files out answer put
comes_untargeted P before after NoMadeMemory status outer outcome files out answer put = comes_stopped [] IsSelfRunText None P before after status files out answer put

-- the target mesh is accepted, and the chain is run
pub comes_run : (source target sphere globe : RawMesh) (before after : Scene) (status : Status) → source ≡ sphere → target ≡ globe → IsAcceptedMesh globe
    → Comes [] IsSelfRunText None (IsOutcomeOfChain source target (values_of_faces (length source.faces))) before after status → Comes [] IsSelfRunText None (IsOutcomeOfSelfRun sphere globe) before after status
comes_run source target sphere globe before after status is right accepted c =
    let there : Comes [] IsSelfRunText None (IsOutcomeOfChain sphere target (values_of_faces (length sphere.faces))) before after status =
    subst (λ (s : RawMesh). Comes [] IsSelfRunText None (IsOutcomeOfChain s target (values_of_faces (length s.faces))) before after status) is c
    in
    let here : Comes [] IsSelfRunText None (IsOutcomeOfChain sphere globe (values_of_faces (length sphere.faces))) before after status =
    subst (λ (t : RawMesh). Comes [] IsSelfRunText None (IsOutcomeOfChain sphere t (values_of_faces (length sphere.faces))) before after status) right there
    in
    comes_as [] IsSelfRunText None (IsOutcomeOfChain sphere globe (values_of_faces (length sphere.faces))) (IsOutcomeOfSelfRun sphere globe) before after status
    (λ o h. inr ((λ fault first. no_first_fault globe fault accepted first), h)) here
