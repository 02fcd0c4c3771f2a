-- A filter's file of which a prefix was read, one byte more than the limit at most: it is the whole text, or the text is too long.
use Rattle.std.proofs.Common.{◌≡◌, ◌≢◌, ◌+◌, ◌<◌, ◌≤◌, ℕ, List, length, min, Option, inl, inr, ap, subst, ◌∙◌, arith}
use Rattle.std.proofs.lemmas.Bool.{cases_lt}
use Rattle.std.proofs.lemmas.List.{length-take, take_all}
use Rattle.cql2_text.specs.declared.reader.TheConstants.{MAX_TEXT_LENGTH}
use Rattle.commands.specs.Failure.{status}
use Rattle.commands.specs.declared.failure.Failure.TheVariants.{Filter}
use Rattle.commands.proofs.CarriedLemmas.{refusal_not_usage}
use Rattle.filters.proofs.FilterLemmas.{long_failure}
use Rattle.filters.specs.Failure.{IsOfFilter, refusal_of}
use Rattle.filters.specs.Filter.{IsFilterFailure, IsProgramOf, length_fault}
use Rattle.filters.specs.declared.failure.FilterFailure.{FilterFailure}
use Rattle.filters.specs.declared.filter.FilterOptions.{FilterOptions}
use Rattle.named_files.specs.Files.{IsPrefix}

-- a failure of a filter is no fault of usage
pub failure_usage : (failure : FilterFailure) → status (Filter failure) ≢ 2
failure_usage failure = refusal_not_usage (refusal_of failure)

module _ {known : Option (List ℕ)} {prefix : List ℕ} (read : IsPrefix (MAX_TEXT_LENGTH + 1) known prefix) (options : FilterOptions) where
  prefix_length : length prefix ≡ min (MAX_TEXT_LENGTH + 1) (length read.whole)
  prefix_length = ap length read.is_prefix ∙ length-take (MAX_TEXT_LENGTH + 1) read.whole

  prefix_is_whole : length prefix ≤ MAX_TEXT_LENGTH → prefix ≡ read.whole
  prefix_is_whole few = read.is_prefix ∙ take_all (MAX_TEXT_LENGTH + 1) read.whole (omega (arith, few, prefix_length))

  pub whole_program : (program : List ℕ) → (MAX_TEXT_LENGTH < length prefix → ⊥) → IsProgramOf prefix options program
      → IsProgramOf read.whole options program
  whole_program program short made = elim (cases_lt MAX_TEXT_LENGTH (length prefix)) [
    | inl long ↦ absurd (short long)
    | inr few ↦ subst (λ (text : List ℕ). IsProgramOf text options program) (prefix_is_whole few) made
  ]

  pub whole_failure : (failure : FilterFailure) → (MAX_TEXT_LENGTH < length prefix → IsOfFilter (length_fault prefix) failure)
      → IsFilterFailure prefix options failure → IsFilterFailure read.whole options failure
  whole_failure failure refused is = elim (cases_lt MAX_TEXT_LENGTH (length prefix)) [
    | inl long ↦ long_failure read.whole options (length_fault prefix) failure (omega (arith, long, prefix_length)) (refused long)
    | inr few ↦ subst (λ (text : List ℕ). IsFilterFailure text options failure) (prefix_is_whole few) is
  ]
