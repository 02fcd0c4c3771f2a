-- A program has one explanation.
use Rattle.std.proofs.Common.{◌≡◌, ◌≢◌, ℕ, zero, suc, ◌+◌, ◌<◌, List, [], ◌∷◌, ◌++◌, length, take, refl, sym, ap, ◌∙◌, arith, subst}
use Rattle.std.specs.Prelude.{Result, Ok, Err, IfErr, Some}
use Rattle.bpf_insn.proofs.CodeLemmas.{length-spelling_positive}
use Rattle.bpf_insn.proofs.PlaceLemmas.{word_count-cons}
use Rattle.bpf_insn.specs.Code.{word_count}
use Rattle.bpf_insn.specs.declared.instruction.Insn.{Insn}
use Rattle.bpf_meaning.specs.declared.cause.Cause.{Cause}
use Rattle.bpf_program.proofs.VerdictLemmas.{no_fault, no_fault_of_program, one_fault, same_code}
use Rattle.bpf_program.specs.Program.{IsProgramFault, IsSafeProgram}
use Rattle.bpf_program.specs.declared.program.ProgramFault.{ProgramFault}
use Rattle.bpf_program.specs.declared.program.ProgramFault.TheVariants.{Code, Flow, Verify, Memory}
use Rattle.bpf_verify.proofs.VerdictLemmas.{one_least}
use Rattle.bpf_verify.proofs.VisitLemmas.{visits_from-same}
use Rattle.bpf_verify.specs.LiftedState.{LiftedState, Reached}
use Rattle.bpf_verify.specs.Visit.{Visit, visit_at, visits_from}
use Rattle.bpf_verify.specs.declared.abstract_state.AbstractState.{AbstractState}
use Rattle.bpf_verify.specs.declared.fault.VerifyFault.TheVariants as verify
use Rattle.listing_excerpt.proofs.OneExcerpt.{one_list_of_code_fault, one_list_of_flow_fault}
use Rattle.listing_lines.specs.SourceLines.{SourceLine, lines_in, lines_or_none}
use Rattle.bpf_explain.specs.Explanation.{Explains, ExplainsAcceptance, ExplainsCode, ExplainsRefusal, IsEarlyFault, IsExplained, ListsFault}
use Rattle.bpf_explain.specs.Listing.{accepted_text, listing, refusal_line}
use Rattle.bpf_explain.proofs.ListingLemmas.{index-within, visits-last}

module _ (program places text : List ℕ) where
  -- an explanation is that of the program's code, or of the fault that is found before

  pub of_code : (verdict : Result (Unit {0}) ProgramFault) → ExplainsCode program places text verdict → Explains program places text verdict
  of_code (Err (Code fault)) is = absurd is.explained
  of_code (Err (Flow fault)) is = absurd is.explained
  of_code verdict is = is

  pub of_fault : (fault : ProgramFault) → IsEarlyFault program fault → ListsFault program (lines_or_none (lines_in places)) fault text
      → Explains program places text (Err fault)
  of_fault (Code fault) is lists = (is, lists)
  of_fault (Flow fault) is lists = (is, lists)
  of_fault fault is lists = absurd lists

  -- the verdict is the program's

  fault_of : (fault : ProgramFault) → Explains program places text (Err fault) → IsProgramFault program fault × (fault ≢ Memory)
  fault_of (Code fault) is = (is.0, λ e. cc)
  fault_of (Flow fault) is = (is.0, λ e. cc)
  fault_of (Verify (verify.Refused place cause)) is = ((is.code, is.is_code, (is.forward, is.explained.0, λ e. cc)), λ e. cc)
  fault_of (Verify verify.Memory) is = absurd is.explained
  fault_of Memory is = absurd is.explained

  pub safe_is_accepted : (code : List Insn) (verdict : Result (Unit {0}) ProgramFault) → IsSafeProgram program code
      → Explains program places text verdict → IfErr verdict (λ fault. ⊥)
  safe_is_accepted code (Ok accepted) safe is = tt
  safe_is_accepted code (Err fault) safe is = let refused = fault_of fault is in refused.1 (no_fault program code fault safe refused.0)

module _ (program places text other : List ℕ) where
  accepted_alone : (fault : ProgramFault) → Explains program places text (Ok tt) → Explains program places other (Err fault) → ⊥
  accepted_alone fault is also =
      let refused = fault_of program places other fault also in
      refused.1 (no_fault_of_program is.code is.forward is.explained.0 program fault is.is_code refused.0)

one_verdict : (program places text other : List ℕ) (verdict given : Result (Unit {0}) ProgramFault) → Explains program places text verdict
    → Explains program places other given → verdict ≡ given
one_verdict program places text other (Ok accepted) (Ok also_accepted) is also = refl
one_verdict program places text other (Ok accepted) (Err fault) is also = absurd (accepted_alone program places text other fault is also)
one_verdict program places text other (Err fault) (Ok accepted) is also = absurd (accepted_alone program places other text fault also is)
one_verdict program places text other (Err fault) (Err again) is also =
    let refused = fault_of program places text fault is in
    let refused_again = fault_of program places other again also in
    ap Err (one_fault program fault again refused.0 refused_again.0 refused.1 refused_again.1)

-- the instructions before a place
one_start : (code : List Insn) (i j : ℕ) → i < length code → j < length code → word_count (take i code) ≡ word_count (take j code)
    → take i code ≡ take j code
one_start [] i j within also same = absurd (omega arith)
one_start (insn ∷ code) zero zero within also same = refl
one_start (insn ∷ code) zero (suc j) within also same =
    let sum = word_count-cons insn (take j code) in
    let some = length-spelling_positive insn in
    absurd (omega arith)
one_start (insn ∷ code) (suc i) zero within also same =
    let sum = word_count-cons insn (take i code) in
    let some = length-spelling_positive insn in
    absurd (omega arith)
one_start (insn ∷ code) (suc i) (suc j) within also same =
    let sum = word_count-cons insn (take i code) in
    let other = word_count-cons insn (take j code) in
    ap (λ (before : List Insn). insn ∷ before) (one_start code i j (omega arith) (omega arith) (omega arith))

module _ (code : List Insn) (lines : List SourceLine) where
  one_accepted : (text other : List ℕ) → ExplainsAcceptance code lines text → ExplainsAcceptance code lines other → text ≡ other
  one_accepted text other is also =
      is.is
      ∙ ap (λ (visits : List Visit). accepted_text (listing lines visits))
      (visits_from-same also.annotation is.annotation (word_count code) 0 code
      (one_least code (word_count code) is.annotation also.annotation is.is_least also.is_least) (omega arith))
      ∙ sym also.is

  one_refused : (place : ℕ) (cause : Cause) (text other : List ℕ) → ExplainsRefusal code lines place cause text
      → ExplainsRefusal code lines place cause other → text ≡ other
  one_refused place cause text other is also =
      let agree = one_least code place is.annotation also.annotation is.is_least also.is_least in
      let at = is.at in
      let insns : Some is.insn ≡ Some also.insn = sym is.insn_is ∙ also.insn_is in
      let insn : is.insn ≡ also.insn = cc in
      let states : Reached is.known ≡ Reached also.known = sym is.state ∙ agree place (omega arith) ∙ also.state in
      let known : is.known ≡ also.known = cc in
      let before : take is.index code ≡ take also.index code =
      one_start code is.index also.index (index-within code is.index place is.insn is.at is.insn_is)
      (index-within code also.index place also.insn also.at also.insn_is) (sym is.at ∙ also.at) in
      let visits : visits_from is.annotation 0 (take is.index code) ≡ visits_from also.annotation 0 (take also.index code) =
      visits_from-same also.annotation is.annotation place 0 (take is.index code) agree (omega arith) ∙ ap (visits_from also.annotation 0) before in
      let last : visit_at is.annotation place is.insn ≡ visit_at also.annotation place also.insn =
      ap (λ (state : LiftedState). record { place = place; insn = is.insn; state = state }) (agree place (omega arith))
      ∙ ap (visit_at also.annotation place) insn in
      let all : visits_from is.annotation 0 (take (is.index + 1) code) ≡ visits_from also.annotation 0 (take (also.index + 1) code) =
      visits-last is.annotation code is.index place is.insn is.at is.insn_is
      ∙ ap (λ (first : List Visit). first ++ visit_at is.annotation place is.insn ∷ []) visits
      ∙ ap (λ (visit : Visit). visits_from also.annotation 0 (take also.index code) ++ visit ∷ []) last
      ∙ sym (visits-last also.annotation code also.index place also.insn also.at also.insn_is) in
      is.is
      ∙ ap (λ (visits : List Visit). (listing lines visits).text ++ refusal_line is.known cause is.insn) all
      ∙ ap (λ (known : AbstractState).
      (listing lines (visits_from also.annotation 0 (take (also.index + 1) code))).text ++ refusal_line known cause is.insn) known
      ∙ ap (λ (insn : Insn). (listing lines (visits_from also.annotation 0 (take (also.index + 1) code))).text ++ refusal_line also.known cause insn) insn
      ∙ sym also.is

  one_text_of_code : (text other : List ℕ) (verdict : Result (Unit {0}) ProgramFault) → IsExplained code lines text verdict
      → IsExplained code lines other verdict → text ≡ other
  one_text_of_code text other (Ok accepted) is also = one_accepted text other is.1 also.1
  one_text_of_code text other (Err (Verify (verify.Refused place cause))) is also = one_refused place cause text other is.1 also.1
  one_text_of_code text other (Err fault) is also = absurd is

one_text : (program places text other : List ℕ) (verdict : Result (Unit {0}) ProgramFault) → Explains program places text verdict
    → Explains program places other verdict → text ≡ other
one_text program places text other (Err (Code fault)) is also =
    one_list_of_code_fault program (lines_or_none (lines_in places)) fault text other is.1 also.1
one_text program places text other (Err (Flow fault)) is also =
    one_list_of_flow_fault program (lines_or_none (lines_in places)) fault text other is.1 also.1
one_text program places text other verdict is also =
    let code = same_code program is.code also.code is.is_code also.is_code in
    let both : Ok is.lines ≡ Ok also.lines = sym is.are_lines ∙ also.are_lines in
    let lines : is.lines ≡ also.lines = cc in
    one_text_of_code also.code also.lines text other verdict
    (subst (λ (code : List Insn). IsExplained code also.lines text verdict) code
    (subst (λ (lines : List SourceLine). IsExplained is.code lines text verdict) lines is.explained)) also.explained

-- a program with a file of source lines has one explanation
pub one_explanation : (program places text other : List ℕ) (verdict given : Result (Unit {0}) ProgramFault)
    → Explains program places text verdict → Explains program places other given → (text ≡ other) × (verdict ≡ given)
one_explanation program places text other verdict given is also =
    let same = one_verdict program places text other verdict given is also in
    (one_text program places text other given (subst (Explains program places text) same is) also, same)
