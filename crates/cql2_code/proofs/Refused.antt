-- Codes that are refused for being too long.
use Rattle.std.proofs.Common.{◌≡◌, Some, Bool, true, false, List, ◌∷◌, ◌++◌, refl, sym, ◌∙◌, subst, append_assoc, arith, if◌then◌else◌}
use Rattle.std.proofs.lemmas.Result.{MatchResult-weaker}
use Rattle.std.specs.List.{list_any}
use Rattle.std.specs.Prelude.{Err, IfErr, IsErrAnd, Ok, Result}
use Rattle.bpf_insn.proofs.PlaceLemmas.{word_count-append}
use Rattle.bpf_insn.specs.Code.{word_count}
use Rattle.bpf_insn.specs.declared.instruction.Insn.{Insn}
use Rattle.cql2_code.specs.Layout.{IsTooLong, MayBeRefused, Prepends, Refuses, Writes, begun, copy, first_skip, from_argument_1, into_record, saved_code}
use Rattle.cql2_code.specs.Layout.{question_code, writes_saved}
use Rattle.cql2_code.specs.Lowering.{PrependsBefore}
use Rattle.cql2_code.specs.Question.{Joined, Question}
use Rattle.cql2_code.specs.declared.fault.CompileFault.{CompileFault}
use Rattle.cql2_code.specs.declared.fault.CompileFault.TheVariants.{TooLong}
use Rattle.cql2_code.specs.declared.question.Exits.{Exits}

-- a code is too long if it ends with one that is too long
pub longer : (front : List Insn) {code : List Insn} → IsTooLong code → IsTooLong (front ++ code)
longer front {code} long = record { words = let many = long.words in let sum = word_count-append front code in omega arith }

-- so is a program if the code after its first instructions is
pub begun_longer : {code : List Insn} → IsTooLong code → IsTooLong (begun code)
begun_longer {code} = longer (copy into_record from_argument_1 ∷ saved_code (list_any writes_saved code))

-- a question's code is refused if the identical code of another question is
pub refuses_as : {question other : Question} {exits others : Exits} {old olds : List Insn} {fault : CompileFault}
    → ((new : List Insn) → Writes question exits old new → Writes other others olds new) → Refuses question exits old fault
    → Refuses other others olds fault
refuses_as same refused = record { too_long = λ is. subst IsTooLong (same _ (record { code = refl })).code (refused.too_long is) }

pub prepends_as : {T : Type 0} {question other : Question} {exits others : Exits} {old olds : List Insn} (result : Result T CompileFault)
    (new : List Insn) → ((new : List Insn) → Writes question exits old new → Writes other others olds new) → Prepends result question exits old new
    → Prepends result other others olds new
prepends_as result new same puts = MatchResult-weaker result puts (λ _ written. same new written) (λ fault refused. refuses_as same refused)

-- a call is refused if a call that it makes is
pub prepends_refused : {T : Type 0} {question : Question} {exits : Exits} {old : List Insn} {fault : CompileFault} (result : Result T CompileFault)
    (new : List Insn) → IsErrAnd result (λ same. same ≡ fault) → Refuses question exits old fault → Prepends result question exits old new
prepends_refused {T} {question} {exits} {old} (Err same) new is refused = subst (Refuses question exits old) (sym is) refused
prepends_refused (Ok none) new is refused = absurd is

-- a call returns the fault of a call that it makes
pub refused_by : {T : Type 0} {code : List Insn} {fault : CompileFault} (result : Result T CompileFault)
    → IsErrAnd result (λ same. same ≡ fault) → MayBeRefused code fault → IfErr result (λ fault. fault ≡ TooLong → IsTooLong code)
refused_by (Err same) is refused = λ too_long. refused.too_long (sym is ∙ too_long)
refused_by (Ok none) is refused = absurd is

-- the code of two questions is refused if that of the second one is
pub second_refused : {neutral : Bool} {first second : Question} {exits : Exits} {old : List Insn} {fault : CompileFault}
    → Refuses second exits old fault → Refuses (Joined neutral first second) exits old fault
second_refused {neutral} {first} {second} {exits} {old} refused = record {
  too_long = λ is. subst IsTooLong (sym (append_assoc front code old)) (longer front (refused.too_long is));
}
  where
    code : List Insn
    code = question_code second exits.falls exits.skip

    front : List Insn
    front = question_code first neutral (first_skip exits.falls neutral (word_count code) exits.skip)

pub second_refused_if : {second : Question} {exits : Exits} {old : List Insn} {fault : CompileFault} (neutral : Bool) (first : Question)
    (both : Bool) → Refuses second exits old fault → Refuses (if both then Joined neutral first second else second) exits old fault
second_refused_if neutral first true refused = second_refused refused
second_refused_if neutral first false refused = refused

-- the code after a pattern's bytes is refused
pub prepends_before_refused : {second : Question} {exits : Exits} {old : List Insn} {fault : CompileFault} (result : Result Exits CompileFault)
    (new : List Insn) → IsErrAnd result (λ same. same ≡ fault) → Refuses second exits old fault → PrependsBefore result (Some second) exits old new
prepends_before_refused {second} {exits} {old} (Err same) new is refused =
    λ required. subst (Refuses (Joined true required second) exits old) (sym is) (second_refused refused)
prepends_before_refused (Ok none) new is refused = absurd is
