use Rattle.std.proofs.Common.{◌≡◌, ℕ, List, length, ap, sym, ◌∙◌, subst, arith, slice_index, slice_index_or}
use Rattle.std.proofs.lemmas.List.{get_or_default}
use Rattle.std.proofs.lemmas.Result.{IfOk-weaker}
use Rattle.std.specs.List.{Contains}
use Rattle.vec_exact.specs.declared.RawMesh.{RawMesh}
use Rattle.mesh_check.specs.Mesh.{corners_of}
use Rattle.cell_index.specs.Candidate.{AreCandidates}
use Rattle.cell_index.specs.CandidateList.{candidates_of}
use Rattle.cell_index.proofs.CandidateLists.{candidates_listed}
use Rattle.cover_check.specs.Rest.{IsLess, IsRest}
use Rattle.cover_check.proofs.LeftOver.{AreAllMeeting, is_rest}
use Rattle.cover_check.proofs.rest.rest.Goals as goal
use Rattle.cover_check.proofs.rest.rest.Goals.{After-deref, After-less}

-- what the list of candidates has is a candidate
is_listed : (targets sources : RawMesh) (j : ℕ) (found : List ℕ) (i : ℕ) → found ≡ candidates_of targets j sources → Contains found i → AreCandidates targets j sources i
is_listed targets sources j found i e c = (candidates_listed targets j sources i).0 (subst (λ (l : List ℕ). Contains l i) e c)

pub less-requires-clause-sources : goal.less-requires-clause-sources
less-requires-clause-sources c = λ k d l.
    let found = c.deref.result.now in
    let x = slice_index_or found k d in
    let all = c.find_candidates.new.found.items in
    let same = c.deref.ensures.value in
    let at : slice_index_or all k x ≡ x = sym (ap (λ (z : List ℕ). slice_index_or z k x) same) ∙ get_or_default found k x d l in
    let is = is_listed c.args.b.now c.args.a.now c.args.j all x (c.in_ok-find_candidates.ensures.candidates c.args.a.now c.requires.index) (k, omega (arith, l, ap length same), at) in
    (is.first, is.last)

pub returns : goal.returns
returns c =
    let sources = c.args.a.now in let target = corners_of c.args.b.now c.args.j in
    let found = c.deref.result.now in
    let all = c.find_candidates.new.found.items in
    let same : found ≡ all = c.deref.ensures.value in
    let mesh = c.face_count-sources.ensures.accepted in
    let meeting : AreAllMeeting sources target all = record {
      named = λ k l.
          let x = slice_index all k in
          let is = is_listed c.args.b.now sources c.args.j all x (c.in_ok-find_candidates.ensures.candidates sources c.requires.index) (k, l, get_or_default all k x 0 l) in
          (is.first, is.last);
      complete = c.in_ok-find_candidates.ensures.meeting sources mesh c.requires.index;
    } in
    IfOk-weaker c.less.result (IsLess sources target found) (IsRest sources target)
    (λ cells less. is_rest sources target found cells mesh.faces c.edge_count-corners.ensures.accepted.accepted (subst (AreAllMeeting sources target) (sym same) meeting) less)
    c.less.ensures
