-- The code of a numeric expression passes the verifier's checks in a program that keeps numbers if the code does.
use Rattle.std.proofs.Common.{◌≡◌, ℕ, zero, suc, Bool, true, List, [], ◌∷◌, ◌++◌, refl, sym, ap, ◌∙◌, subst}
use Rattle.bpf_insn.specs.declared.instruction.Insn.{Insn}
use Rattle.bpf_insn.specs.declared.instruction.Insn.TheVariants.{Negate}
use Rattle.bpf_insn.specs.declared.instruction.Width.TheVariants.{Bits64}
use Rattle.cql2.specs.declared.column.NumericColumn.{NumericColumn}
use Rattle.cql2.specs.declared.column.NumericColumn.TheVariants as column
use Rattle.cql2.specs.declared.expression.Expression.{Expression}
use Rattle.cql2.specs.declared.expression.Expression.TheVariants.{Literal, Column, Negated', Combined'}
use Rattle.cql2.specs.declared.expression.Operator.{Operator}
use Rattle.cql2_code.specs.Columns.{number_of}
use Rattle.cql2_code.specs.Expressions.{number_code, second_code, combine_saved}
use Rattle.cql2_code.specs.Layout.{copy, from_result, into_saved, into_result}
use Rattle.cql2_code.specs.Question.{IsSoundSubject}
use Rattle.cql2_code.proofs.AbstractState.{answered, resting}
use Rattle.cql2_code.proofs.Blocks.{Keeps, keeps_back, keeps_front}
use Rattle.cql2_code.proofs.OperationPasses.{before_keeping, saved_passes, keeping_passes, literal_needs, literal_passes, negate_passes, set_passes}
use Rattle.cql2_code.proofs.OperationPasses.{set_rests}
use Rattle.cql2_code.proofs.Passes.{AllPass, Passes, all_pass-append, needed_by, needed_by-append, subject_passes, subject_rests}
use Rattle.cql2_code.proofs.SecondOperands.{saved_code_of, second_by}

pub column_sound : (column : NumericColumn) → IsSoundSubject (number_of column)
column_sound (column.Number field) = tt
column_sound (column.Coordinate place) = tt

-- a code that keeps a number is in a program that does
keeps_level : (keeps : Bool) (operator : Operator) (level : ℕ) (code : List Insn) → Keeps keeps (saved_code_of operator level code) → keeps ≡ true
keeps_level keeps operator zero code saved = saved refl
keeps_level keeps operator (suc zero) code saved = saved refl
keeps_level keeps operator (suc (suc level)) code saved = saved refl

module _ (keeps : Bool) where
  -- a second operand's code needs the first one in register 0
  pub second_needs : {A : Type 0} (operator : Operator) (level : ℕ) (second : Expression A) (code : List Insn)
      → needed_by keeps (second_code operator level second code) (answered keeps) ≡ answered keeps
  second_needs {A} operator level second code =
      second_by (λ (operand : Expression A) (insns : List Insn). needed_by keeps insns (answered keeps) ≡ answered keeps) operator level second code
      (λ literal. literal_needs keeps operator literal.number) (λ other saved same. before_keeping keeps level)

  -- an expression's code needs nothing more
  pub number_rests : {A : Type 0} (expression : Expression A) (level : ℕ)
      → needed_by keeps (number_code expression level) (answered keeps) ≡ resting keeps
  number_rests (Literal literal) level = set_rests keeps literal.number
  number_rests (Column column) level = subject_rests keeps (number_of column)
  number_rests (Negated' p inner) level =
      needed_by-append keeps (number_code inner level) (Negate Bits64 into_result ∷ []) (answered keeps) ∙ number_rests inner level
  number_rests (Combined' operator p first q second) level =
      let back = second_code operator level second (number_code second (suc level)) in
      needed_by-append keeps (number_code first level) back (answered keeps)
      ∙ ap (needed_by keeps (number_code first level)) (second_needs operator level second (number_code second (suc level)))
      ∙ number_rests first level

  -- the code after a first operand's passes if the second one's does
  pub combined_passes : (operator : Operator) (level : ℕ) (code : List Insn) → needed_by keeps code (answered keeps) ≡ resting keeps
      → (Keeps keeps code → AllPass keeps code (answered keeps)) → Keeps keeps (saved_code_of operator level code)
      → AllPass keeps (saved_code_of operator level code) (answered keeps)
  combined_passes operator level code rests passes saved =
      let is = keeps_level keeps operator level code saved in
      let rest = keeps_back keeps (copy (into_saved level) from_result ∷ []) (code ++ combine_saved operator level) saved in
      let inside = keeps_front keeps code (combine_saved operator level) rest in
      let needs = needed_by-append keeps code (combine_saved operator level) (answered keeps) ∙ rests in (
        subst (Passes keeps (copy (into_saved level) from_result)) (sym needs)
            (subst (λ (k : Bool). Passes k (copy (into_saved level) from_result) (resting k)) (sym is) (keeping_passes level)),
        all_pass-append keeps code (combine_saved operator level) (answered keeps) (passes inside)
            (subst (λ (k : Bool). AllPass k (combine_saved operator level) (answered k)) (sym is) (saved_passes operator level)),
      )

  pub second_passes : {A : Type 0} (operator : Operator) (level : ℕ) (second : Expression A) (code : List Insn)
      → needed_by keeps code (answered keeps) ≡ resting keeps → (Keeps keeps code → AllPass keeps code (answered keeps))
      → Keeps keeps (second_code operator level second code) → AllPass keeps (second_code operator level second code) (answered keeps)
  second_passes {A} operator level second code rests passes =
      second_by (λ (operand : Expression A) (insns : List Insn). Keeps keeps insns → AllPass keeps insns (answered keeps)) operator level second code
      (λ literal saved. literal_passes keeps operator literal.number literal.fits)
      (λ other deeper same. combined_passes operator level code rests passes)

  pub number_passes : {A : Type 0} (expression : Expression A) (level : ℕ) → Keeps keeps (number_code expression level)
      → AllPass keeps (number_code expression level) (answered keeps)
  number_passes (Literal literal) level saved = (set_passes keeps literal.number literal.fits, tt)
  number_passes (Column column) level saved = subject_passes keeps (number_of column) (column_sound column)
  number_passes (Negated' p inner) level saved =
      all_pass-append keeps (number_code inner level) (Negate Bits64 into_result ∷ []) (answered keeps)
      (number_passes inner level (keeps_front keeps (number_code inner level) (Negate Bits64 into_result ∷ []) saved)) (negate_passes keeps, tt)
  number_passes (Combined' operator p first q second) level saved =
      let inner = number_code second (suc level) in
      let back = second_code operator level second inner in
      all_pass-append keeps (number_code first level) back (answered keeps)
      (subst (AllPass keeps (number_code first level)) (sym (second_needs operator level second inner))
      (number_passes first level (keeps_front keeps (number_code first level) back saved)))
      (second_passes operator level second inner (number_rests second (suc level)) (number_passes second (suc level))
      (keeps_back keeps (number_code first level) back saved))
