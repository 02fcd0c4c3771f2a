-- Operands in pairs.
use Rattle.std.proofs.Common.{◌≡◌, ℕ, ℤ, List, Option, Some, None, Result, Ok, Err, Bor, false, length, ◌-◌, refl, sym, ap, arith}
use Rattle.std.proofs.lemmas.Bool.Decides.{nat_tests}
use Rattle.bpf_insn.specs.declared.instruction.Source.{Source}
use Rattle.bpf_assembler.specs.declared.fault.TextFaultKind.{TextFaultKind}
use Rattle.bpf_assembler.specs.declared.fault.TextFaultKind.TheVariants.{Syntax}
use Rattle.bpf_assembler.specs.Words.{split_operand}
use Rattle.bpf_assembler.specs.Operand.{both, or_fault}
use Rattle.std.specs.Prelude.{slice_index, ◌==◌}
use Rattle.bpf_assembler.specs.Statement.{two, with_two, statement_of, instruction_of}
use Rattle.bpf_assembler.specs.View.{target_view, comparand_view}

with_two-split : {A B : Type 0} (left : List ℕ → Result A TextFaultKind) (right : List ℕ → Result B TextFaultKind) (cut : Option (List ℕ × List ℕ))
    (first second : List ℕ) → Ok (first, second) ≡ or_fault Syntax cut → with_two left right cut ≡ both (left first) (right second)
with_two-split left right (Some parts) first second is = let parts_is : (first, second) ≡ parts = cc in
    ap (λ (p : List ℕ × List ℕ). both (left p.0) (right p.1)) (sym parts_is)
with_two-split left right None first second is = cc

-- operands separated by a comma
pub two-split : {A B : Type 0} (left : List ℕ → Result A TextFaultKind) (right : List ℕ → Result B TextFaultKind) (operands first second : List ℕ)
    → Ok (first, second) ≡ or_fault Syntax (split_operand operands) → two left right operands ≡ both (left first) (right second)
two-split left right operands first second is = with_two-split left right (split_operand operands) first second is

-- a target that borrows its name
pub both-view : (source : Result Source TextFaultKind) (target : Result (ℤ × Option (Bor (List ℕ))) TextFaultKind)
    → comparand_view (both source target) ≡ both source (target_view target)
both-view (Ok source) (Ok target) = refl
both-view (Err fault) (Ok target) = refl
both-view source target = refl

-- content that isn't empty and doesn't end in a colon
pub statement-of-instruction : (content : List ℕ) → (length content == 0) ≡ false → (slice_index content (length content - 1) ≡ 58 → ⊥)
    → statement_of content ≡ instruction_of content
statement-of-instruction content some other =
    let colon : (slice_index content (length content - 1) == 58) ≡ false = grind (arith, nat_tests) in
    rw (some, colon) refl
