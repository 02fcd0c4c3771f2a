-- Questions about names and ranges, one after the other.
use Rattle.std.proofs.Common.{◌≡◌, ℕ, zero, suc, ◌+◌, pos, true, false, List, refl, sym, ap, inl, inr, arith}
use Rattle.std.proofs.lemmas.Bool.{cases_Bool}
use Rattle.bpf_insn.specs.declared.instruction.Insn.{Insn}
use Rattle.cql2.specs.declared.filter.Comparison.TheVariants.{NotEqual, Greater, GreaterOrEqual}
use Rattle.cql2_code.specs.Layout.{Refuses}
use Rattle.cql2_code.specs.Columns.{test}
use Rattle.cql2_code.specs.Function.{checks_for_end, is_named_from, lies_from}
use Rattle.cql2_code.specs.Question.{Decided, Joined, Question}
use Rattle.cql2_code.specs.declared.fault.CompileFault.{CompileFault}
use Rattle.cql2_code.specs.declared.question.Exits.{Exits}
use Rattle.cql2_code.specs.declared.question.Subject.TheVariants.{InRange, NameIs, Names, Ranges}
use Rattle.cql2_code.proofs.Refused.{refuses_as, second_refused}
use Rattle.cql2_code.proofs.Written.{written_as}

-- nothing holds for any of no parts
pub lies_from-none : (house at : ℕ) → lies_from house at 0 ≡ Decided false
unfolding lies_from
lies_from-none house at = refl

pub is_named_from-none : (required : List ℕ) (at : ℕ) → is_named_from required at 0 ≡ Decided false
unfolding is_named_from
is_named_from-none required at = refl

-- the house number lies on the first range or on a later one
abbrev pub lies_here : ℕ → ℕ → ℕ → Question
lies_here house at more = Joined false (test (InRange at house) NotEqual (pos 0)) (lies_from house (at + 1) more)

pub lies_from-more : (house at more : ℕ) → checks_for_end at ≡ false → lies_from house at (suc more) ≡ lies_here house at more
unfolding lies_from
lies_from-more house at more further = rw further refl

pub lies_from-milestone : (house at more : ℕ) → checks_for_end at ≡ true
    → lies_from house at (suc more) ≡ Joined true (test Ranges Greater (pos at)) (lies_here house at more)
unfolding lies_from
lies_from-milestone house at more there = rw there refl

-- the first name or a later one is the required one
abbrev pub is_named_here : List ℕ → ℕ → ℕ → Question
is_named_here required at more = Joined false (test (NameIs at required) NotEqual (pos 0)) (is_named_from required (at + 1) more)

pub is_named_from-more : (required : List ℕ) (at more : ℕ) → checks_for_end at ≡ false
    → is_named_from required at (suc more) ≡ is_named_here required at more
unfolding is_named_from
is_named_from-more required at more further = rw further refl

pub is_named_from-milestone : (required : List ℕ) (at more : ℕ) → checks_for_end at ≡ true
    → is_named_from required at (suc more) ≡ Joined true (test Names GreaterOrEqual (pos at)) (is_named_here required at more)
unfolding is_named_from
is_named_from-milestone required at more there = rw there refl

-- the question from the first range on is refused if the question from a later one on is
pub lies_from-here_refused : {exits : Exits} {old : List Insn} {fault : CompileFault} (house : ℕ) (at more : ℕ)
    → Refuses (lies_here house at more) exits old fault → Refuses (lies_from house at (suc more)) exits old fault
lies_from-here_refused house at more refused = elim (cases_Bool (checks_for_end at)) [
  | inl there ↦ refuses_as (λ new written. written_as (sym (lies_from-milestone house at more there)) written) (second_refused refused)
  | inr further ↦ refuses_as (λ new written. written_as (sym (lies_from-more house at more further)) written) refused
]

pub lies_from-refused : {exits : Exits} {old : List Insn} {fault : CompileFault} (house : ℕ) (at more all : ℕ) → all ≡ at + more
    → Refuses (lies_from house at more) exits old fault → Refuses (lies_from house 0 all) exits old fault
lies_from-refused house zero more all is refused =
    let same : more ≡ all = omega arith in refuses_as (λ new written. written_as (ap (lies_from house 0) same) written) refused
lies_from-refused house (suc at) more all is refused =
    let next : suc at ≡ at + 1 = omega arith in
    let here = refuses_as (λ new written. written_as (ap (λ (n : ℕ). lies_from house n more) next) written) refused in
    lies_from-refused house at (suc more) all (omega arith) (lies_from-here_refused house at more (second_refused here))

-- the question from the first name on is refused if the question from a later one on is
pub is_named_from-here_refused : {exits : Exits} {old : List Insn} {fault : CompileFault} (required : List ℕ) (at more : ℕ)
    → Refuses (is_named_here required at more) exits old fault → Refuses (is_named_from required at (suc more)) exits old fault
is_named_from-here_refused required at more refused = elim (cases_Bool (checks_for_end at)) [
  | inl there ↦ refuses_as (λ new written. written_as (sym (is_named_from-milestone required at more there)) written) (second_refused refused)
  | inr further ↦ refuses_as (λ new written. written_as (sym (is_named_from-more required at more further)) written) refused
]

pub is_named_from-refused : {exits : Exits} {old : List Insn} {fault : CompileFault} (required : List ℕ) (at more all : ℕ) → all ≡ at + more
    → Refuses (is_named_from required at more) exits old fault → Refuses (is_named_from required 0 all) exits old fault
is_named_from-refused required zero more all is refused =
    let same : more ≡ all = omega arith in refuses_as (λ new written. written_as (ap (is_named_from required 0) same) written) refused
is_named_from-refused required (suc at) more all is refused =
    let next : suc at ≡ at + 1 = omega arith in
    let here = refuses_as (λ new written. written_as (ap (λ (n : ℕ). is_named_from required n more) next) written) refused in
    is_named_from-refused required at (suc more) all (omega arith) (is_named_from-here_refused required at more (second_refused here))
