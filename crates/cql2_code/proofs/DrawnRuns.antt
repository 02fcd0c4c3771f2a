-- Runs of code that is skipped if comparisons hold.
use Rattle.std.proofs.Common.{◌≡◌, ℕ, ◌+◌, Bool, true, false, not, is_some, List, Some, if◌then◌else◌, ◌&&◌, refl, sym, ap, ◌∙◌, subst, arith}
use Rattle.bpf_insn.specs.Arithmetic.{condition_holds}
use Rattle.bpf_insn.specs.Code.{instruction_at, word_count}
use Rattle.bpf_insn.specs.declared.instruction.Insn.{Insn}
use Rattle.bpf_insn.specs.declared.instruction.Width.TheVariants.{Bits64}
use Rattle.bpf_insn.proofs.PlaceLemmas.{word_count-cons}
use Rattle.bpf_meaning.specs.Step.{after}
use Rattle.cql2_code.specs.Question.{condition_of}
use Rattle.cql2_code.specs.Skipping.{Compared, skip, turned, unless, unless_both}
use Rattle.cql2_code.proofs.Operands.{opposite_is_not}
use Rattle.cql2_code.proofs.Steps.{Begins, Reaches, Runs, Scratch, Setting, begins_at, running, state, stays, steps_on}

abbrev pub holds : Compared → ℕ → ℕ → Bool
holds compared x y = condition_holds (condition_of compared.comparison) Bits64 x y

-- a comparison compares two numbers
pub record Compares (on : Setting) (scratch : Scratch) (compared : Compared) (x y : ℕ) : Type 0 where
  pub step : (place words : ℕ) → instruction_at on.code place ≡ Some (skip compared words) → Begins on.code (place + 1)
      → Begins on.code (place + 1 + words)
      → running on scratch (if holds compared x y then place + 1 + words else place + 1) ≡ after on.code on.segment (state on scratch place)

module _ (on : Setting) (from : Scratch) (compared : Compared) (x y : ℕ) (compares : Compares on from compared x y) where
  -- where the jump leads if its answer is known
  leads : (place words : ℕ) (answer : Bool) → holds compared x y ≡ answer → instruction_at on.code place ≡ Some (skip compared words)
      → Begins on.code (place + 1) → Begins on.code (place + 1 + words)
      → running on from (if answer then place + 1 + words else place + 1) ≡ after on.code on.segment (state on from place)
  leads place words answer is at next target =
      ap (λ (taken : Bool). running on from (if taken then place + 1 + words else place + 1)) (sym is) ∙ compares.step place words at next target

  pub skips_part : (part : List Insn) → holds compared x y ≡ true → Runs on (unless compared part) from from
  skips_part part is = record {
    reaches = λ place has end.
        let count = word_count-cons (skip compared (word_count part)) part in
        let e : place + word_count (unless compared part) ≡ place + 1 + word_count part = omega arith in
        let last : Begins on.code (place + 1 + word_count part) = subst (Begins on.code) e end in
        let next = begins_at on.code (place + 1) part has.1 last in
        subst (λ (p : ℕ). Reaches on (running on from place) (running on from p)) (sym e)
        (steps_on on (state on from place) (running on from (place + 1 + word_count part)) _
        (leads place (word_count part) true is has.0 next last) (stays on _));
  }

  pub runs_part : (part : List Insn) (to : Scratch) → holds compared x y ≡ false → Runs on part from to → Runs on (unless compared part) from to
  runs_part part to is runs = record {
    reaches = λ place has end.
        let count = word_count-cons (skip compared (word_count part)) part in
        let e : place + word_count (unless compared part) ≡ place + 1 + word_count part = omega arith in
        let last : Begins on.code (place + 1 + word_count part) = subst (Begins on.code) e end in
        let next = begins_at on.code (place + 1) part has.1 last in
        subst (λ (p : ℕ). Reaches on (running on from place) (running on to p)) (sym e)
        (steps_on on (state on from place) (running on from (place + 1)) _
        (leads place (word_count part) false is has.0 next last) (runs.reaches (place + 1) has.1 last));
  }

-- two comparisons of numbers, of which the first may be turned
pub record ComparesBoth (on : Setting) (from : Scratch) (first second : Compared) (x y a b : ℕ) : Type 0 where
  pub turned_first : Compares on from (turned first) x y
  pub second_compares : Compares on from second a b

module _ (on : Setting) (from : Scratch) (first second : Compared) (x y a b : ℕ) (compares : ComparesBoth on from first second x y a b) where
  -- the first comparison doesn't hold, so that the second one is passed over
  runs_past : (part : List Insn) (to : Scratch) → holds first x y ≡ false → Runs on part from to → Runs on (unless_both first second part) from to
  runs_past part to is runs = record {
    reaches = λ place has end.
        let count = word_count-cons (skip (turned first) 1) (unless second part) in
        let more = word_count-cons (skip second (word_count part)) part in
        let e : place + word_count (unless_both first second part) ≡ place + 1 + 1 + word_count part = omega arith in
        let last : Begins on.code (place + 1 + 1 + word_count part) = subst (Begins on.code) e end in
        let start = begins_at on.code (place + 1 + 1) part has.1.1 last in
        subst (λ (p : ℕ). Reaches on (running on from place) (running on to p)) (sym e)
        (steps_on on (state on from place) (running on from (place + 1 + 1)) _
        (leads on from (turned first) x y compares.turned_first place 1 true (opposite_is_not first.comparison x y ∙ ap not is) has.0
        (ap is_some has.1.0) start)
        (runs.reaches (place + 1 + 1) has.1.1 last));
  }

  -- the first comparison holds, so the second one decides
  runs_on : (part : List Insn) (to : Scratch) → holds first x y ≡ true → Runs on (unless second part) from to
      → Runs on (unless_both first second part) from to
  runs_on part to is runs = record {
    reaches = λ place has end.
        let count = word_count-cons (skip (turned first) 1) (unless second part) in
        let more = word_count-cons (skip second (word_count part)) part in
        let e : place + word_count (unless_both first second part) ≡ place + 1 + word_count (unless second part) = omega arith in
        let f : place + 1 + word_count (unless second part) ≡ place + 1 + 1 + word_count part = omega arith in
        let last : Begins on.code (place + 1 + word_count (unless second part)) = subst (Begins on.code) e end in
        let start = begins_at on.code (place + 1 + 1) part has.1.1 (subst (Begins on.code) f last) in
        subst (λ (p : ℕ). Reaches on (running on from place) (running on to p)) (sym e)
        (steps_on on (state on from place) (running on from (place + 1)) _
        (leads on from (turned first) x y compares.turned_first place 1 false (opposite_is_not first.comparison x y ∙ ap not is) has.0
        (ap is_some has.1.0) start)
        (runs.reaches (place + 1) has.1 last));
  }

  -- the part is skipped if both hold
  pub runs_unless_both : (part : List Insn) (to : Scratch) → Runs on part from to
      → Runs on (unless_both first second part) from (if holds first x y && holds second a b then from else to)
  runs_unless_both part to runs = by_answers (holds first x y) (holds second a b) refl refl
    where
      by_answers : (one two : Bool) → holds first x y ≡ one → holds second a b ≡ two
          → Runs on (unless_both first second part) from (if one && two then from else to)
      by_answers false two is other = runs_past part to is runs
      by_answers true true is other = runs_on part from is (skips_part on from second a b compares.second_compares part other)
      by_answers true false is other = runs_on part to is (runs_part on from second a b compares.second_compares part to other runs)

module _ (on : Setting) (from : Scratch) (compared : Compared) (x y : ℕ) (compares : Compares on from compared x y) where
  pub runs_unless : (part : List Insn) (to : Scratch) → Runs on part from to
      → Runs on (unless compared part) from (if holds compared x y then from else to)
  runs_unless part to runs = by_answer (holds compared x y) refl
    where
      by_answer : (answer : Bool) → holds compared x y ≡ answer → Runs on (unless compared part) from (if answer then from else to)
      by_answer true is = skips_part on from compared x y compares part is
      by_answer false is = runs_part on from compared x y compares part to is runs
