-- A code has at most one verdict.
use Rattle.std.proofs.Common.{◌≡◌, ◌≢◌, ℕ, ◌<◌, ◌≤◌, List, Option, Some, Result, Err, refl, sym, ap, ◌∙◌, subst, inl, inr, arith}
use Rattle.std.proofs.lemmas.Bool.{cases_lt}
use Rattle.bpf_insn.proofs.PlaceLemmas.{instruction_within}
use Rattle.bpf_insn.specs.Code.{word_count}
use Rattle.bpf_insn.specs.declared.instruction.Insn.{Insn}
use Rattle.bpf_insn.specs.declared.value.Area.{Area}
use Rattle.std.specs.Prelude.{is_some}
use Rattle.bpf_meaning.specs.declared.cause.Cause.{Cause}
use Rattle.bpf_verify.specs.Annotation.{Annotation, IsGoodUpTo, IsLeastUpTo, HasGoodAnnotation, IsAccepted, IsRefusedAt, IsVerifyFault}
use Rattle.bpf_verify.specs.LiftedState.{LiftedState, Edges}
use Rattle.bpf_verify.specs.Transfer.{transfer}
use Rattle.bpf_verify.specs.declared.fault.VerifyFault.{VerifyFault}
use Rattle.bpf_verify.specs.declared.fault.VerifyFault.TheVariants.{Refused, Memory}
use Rattle.bpf_verify.proofs.AreaLemmas.{areas_from-same}
use Rattle.bpf_verify.proofs.PassLemmas.{not_both}
use Rattle.bpf_verify.proofs.StateLaws as laws

-- an annotation that is good up to a place is good up to every earlier one
good_before : (code : List Insn) (place end : ℕ) (annotation : Annotation) → place ≤ end → IsGoodUpTo code end annotation
    → IsGoodUpTo code place annotation
good_before code place end annotation before good = record {
  proper = good.proper;
  entry = good.entry;
  passes = λ at insn earlier is_insn. good.passes at insn (omega arith) is_insn;
}

-- no annotation is good beyond a refusal
nothing_beyond : (code : List Insn) (place end : ℕ) (cause : Cause) (annotation : Annotation)
    → IsRefusedAt code place cause → IsGoodUpTo code end annotation → place < end → ⊥
nothing_beyond code place end cause annotation refused good before =
    let fails = refused.always annotation (good_before code place end annotation (omega arith) good) in
    let passes = good.passes place refused.insn before refused.is_insn in
    not_both passes.edges fails.0 (transfer (annotation place) refused.insn) passes.passes fails.1

pub accepted_or_refused : (code : List Insn) (place : ℕ) (cause : Cause) → HasGoodAnnotation code → IsRefusedAt code place cause → ⊥
accepted_or_refused code place cause accepted refused =
    nothing_beyond code place (word_count code) cause accepted.0 refused accepted.1
    (instruction_within code place (ap is_some refused.is_insn))

-- the least annotation is unique
pub one_least : (code : List Insn) (end : ℕ) (x y : Annotation) → IsLeastUpTo code end x → IsLeastUpTo code end y → (place : ℕ) → place ≤ end
    → x place ≡ y place
one_least code end x y least other place before =
    laws.antisymmetric (x place) (y place) (least.good.proper place) (other.good.proper place) (least.least y other.good place before)
    (other.least x least.good place before)

same_place : (code : List Insn) (place other : ℕ) (cause why : Cause) → IsRefusedAt code place cause → IsRefusedAt code other why
    → place ≡ other
same_place code place other cause why refused again = elim (cases_lt place other) as (λ _. place ≡ other) [
  | inl before ↦ absurd (nothing_beyond code place other cause again.annotation refused again.is_least.good before)
  | inr up ↦ elim (cases_lt other place) as (λ _. place ≡ other) [
    | inl beyond ↦ absurd (nothing_beyond code other place why refused.annotation again refused.is_least.good beyond)
    | inr down ↦ omega arith
  ]
]

same_cause : (code : List Insn) (place : ℕ) (cause why : Cause) → IsRefusedAt code place cause → IsRefusedAt code place why → cause ≡ why
same_cause code place cause why refused again =
    let insn : Some refused.insn ≡ Some again.insn = sym refused.is_insn ∙ again.is_insn in
    let one : refused.insn ≡ again.insn = cc in
    let state : refused.annotation place ≡ again.annotation place =
    one_least code place refused.annotation again.annotation refused.is_least again.is_least place (omega arith) in
    let both : transfer (refused.annotation place) refused.insn ≡ transfer (again.annotation place) again.insn =
    ap (λ (s : LiftedState). transfer s refused.insn) state ∙ ap (transfer (again.annotation place)) one in
    same_error cause why (transfer (again.annotation place) again.insn) (sym both ∙ refused.fails) again.fails
  where
    same_error : (x y : Cause) (found : Result Edges Cause) → found ≡ Err x → found ≡ Err y → x ≡ y
    same_error x y found first second = cc

pub one_refusal : (code : List Insn) (place other : ℕ) (cause why : Cause) → IsRefusedAt code place cause → IsRefusedAt code other why
    → (place ≡ other) × (cause ≡ why)
one_refusal code place other cause why refused again =
    let same = same_place code place other cause why refused again in
    (same, same_cause code other cause why (subst (λ (p : ℕ). IsRefusedAt code p cause) same refused) again)

pub one_list_of_areas : (code : List Insn) (areas others : List (Option Area)) → IsAccepted code areas → IsAccepted code others
    → areas ≡ others
one_list_of_areas code areas others accepted again =
    accepted.are
    ∙ areas_from-same again.annotation accepted.annotation (word_count code) 0 code
    (λ place before. one_least code (word_count code) accepted.annotation again.annotation accepted.is_least again.is_least place before)
    (omega arith)
    ∙ sym again.are

-- a code with a good annotation fails only if memory runs out
pub refused_for_memory : (code : List Insn) (fault : VerifyFault) → IsVerifyFault code fault → HasGoodAnnotation code → fault ≡ Memory
refused_for_memory code Memory is accepted = refl
refused_for_memory code (Refused place cause) is accepted = absurd (accepted_or_refused code place cause accepted is)

-- apart from running out of memory, a code has only one fault
pub one_fault : (code : List Insn) (a b : VerifyFault) → IsVerifyFault code a → IsVerifyFault code b → a ≢ Memory → b ≢ Memory → a ≡ b
one_fault code Memory b is also first second = absurd (first refl)
one_fault code (Refused place cause) Memory is also first second = absurd (second refl)
one_fault code (Refused place cause) (Refused other why) is also first second = let same = one_refusal code place other cause why is also in
    let at = same.0 in let by = same.1 in cc
