-- The questions about the texts of columns, by how they are written.
use Rattle.std.proofs.Common.{◌≡◌, ℕ, zero, suc, ◌+◌, ◌-◌, ◌<◌, Bool, true, false, List, refl, ap, arith}
use Rattle.bpf_insn.specs.declared.instruction.Insn.{Insn}
use Rattle.cql2.specs.Column.{is_right_justified}
use Rattle.cql2.specs.declared.column.TextColumn.{TextColumn}
use Rattle.cql2.specs.declared.filter.Comparison.TheVariants.{Equal}
use Rattle.cql2_code.specs.Layout.{Refuses}
use Rattle.cql2_code.specs.Lowering.{asks_about, asks_if_filled, asks_without_blanks_before, byte_test, field_of, is_blank_field}
use Rattle.cql2_code.specs.Question.{Joined, Opposite, Question}
use Rattle.cql2_code.specs.declared.fault.CompileFault.{CompileFault}
use Rattle.cql2_code.specs.declared.field.Field.{Field}
use Rattle.cql2_code.specs.declared.question.Exits.{Exits}
use Rattle.cql2_code.proofs.Refused.{refuses_as, second_refused}
use Rattle.cql2_code.proofs.Written.{written_as}

pub without_more : (ask : Field → Question) (at left : ℕ) → 0 < left
    → asks_without_blanks_before ask at left
    ≡ Joined false (asks_if_filled ask (record { offset = at; width = left }))
    (Joined true (byte_test at Equal 32) (asks_without_blanks_before ask (at + 1) (left - 1)))
without_more ask at zero some = absurd (omega arith)
without_more ask at (suc left) some =
    let less : left ≡ suc left - 1 = omega arith in
    ap (λ (n : ℕ). Joined false (asks_if_filled ask (record { offset = at; width = suc left }))
    (Joined true (byte_test at Equal 32) (asks_without_blanks_before ask (at + 1) n))) less

module _ (of_blanks : Bool) (ask : Field → Question) (column : TextColumn) (field : Field) (same : field ≡ field_of column) where
  pub about_right : is_right_justified column ≡ true
      → asks_without_blanks_before ask field.offset field.width ≡ asks_about of_blanks ask column
  about_right right = rw right (ap (λ (field : Field). asks_without_blanks_before ask field.offset field.width) same)

  pub about_left : is_right_justified column ≡ false → of_blanks ≡ false → ask field ≡ asks_about of_blanks ask column
  about_left left none = rw (left, none) (ap ask same)

  pub about_left_filled : is_right_justified column ≡ false → of_blanks ≡ true
      → Joined true (Opposite (is_blank_field field)) (ask field) ≡ asks_about of_blanks ask column
  about_left_filled left some = rw (left, some) (ap (λ (field : Field). Joined true (Opposite (is_blank_field field)) (ask field)) same)

  -- the whole question is refused if the one about the field is
  pub asked_refused : {exits : Exits} {old : List Insn} {fault : CompileFault} → is_right_justified column ≡ false
      → Refuses (ask field) exits old fault → Refuses (asks_about of_blanks ask column) exits old fault
  asked_refused {exits} {old} {fault} left refused = by_blanks of_blanks refl
    where
      by_blanks : (blanks : Bool) → of_blanks ≡ blanks → Refuses (asks_about of_blanks ask column) exits old fault
      by_blanks true some = refuses_as (λ all written. written_as (about_left_filled left some) written) (second_refused refused)
      by_blanks false none = refuses_as (λ all written. written_as (about_left left none) written) refused
