-- Why a filter is refused: its text is none, it is too long, or its program is.
use Rattle.std.proofs.Common.{◌≡◌, ◌<◌, ◌≤◌, ℕ, List, length, Result, Ok, Err, IfErr, IsErrAnd, IsUtf8, ap, arith, ◌∙◌}
use Rattle.std.specs.declared.alloc.Global.{Global}
use Rattle.cql2.specs.declared.filter.Filter.{Filter as AFilter}
use Rattle.cql2_code.specs.CompileFault as compile_fault
use Rattle.cql2_code.specs.Layout.{IsTooLong}
use Rattle.cql2_code.specs.Lowering.{program_of}
use Rattle.cql2_code.specs.declared.fault.CompileFault.{CompileFault}
use Rattle.cql2_code.specs.declared.fault.CompileFault.TheVariants as compile
use Rattle.cql2_text.specs.Spelled.{IsFilterText}
use Rattle.cql2_text.specs.declared.fault.FilterFault.{FilterFault}
use Rattle.cql2_text.specs.declared.fault.FilterFault.TheVariants as filter
use Rattle.cql2_text.specs.declared.reader.TheConstants.{MAX_TEXT_LENGTH}
use Rattle.filters.specs.Failure.{IsOfCompile, IsOfFilter, IsOfJsonProgram}
use Rattle.filters.specs.Filter.{IsFilterFailure, Spells, length_fault, of_program, of_text, of_whole}
use Rattle.filters.specs.declared.failure.FilterFailure.{FilterFailure}
use Rattle.filters.specs.declared.failure.FilterFailure.TheVariants.{Noted, Pointed, Memory}
use Rattle.filters.specs.declared.filter.FilterLanguage.TheVariants as language
use Rattle.filters.specs.declared.filter.FilterOptions.{FilterOptions}

-- a fault of a filter's text is a failure of the filter
pub of_filter_failure : (text : List ℕ) (options : FilterOptions) (fault : FilterFault) (failure : FilterFailure) → options.language ≡ language.Text
    → (length text ≤ MAX_TEXT_LENGTH → IsUtf8 text → (made : AFilter Global) → IsFilterText text made → fault ≡ filter.Memory)
    → IsOfFilter fault failure → IsFilterFailure text options failure
of_filter_failure text options fault (Noted refusal note) is_text reads is =
    of_text fault (rw is_text (λ short utf8 made spelled. is.0 (reads short utf8 made spelled))) is.1
of_filter_failure text options fault (Pointed kind pointer note) is_text reads is = absurd is
of_filter_failure text options fault Memory is_text reads is = tt

-- and so is a fault of its program
pub of_compile_failure : (text : List ℕ) (options : FilterOptions) (made : AFilter Global) (fault : CompileFault) (failure : FilterFailure)
    → options.language ≡ language.Text → Spells options.language text made → (fault ≡ compile.TooLong → IsTooLong (program_of made options.score))
    → IsOfCompile fault failure → IsFilterFailure text options failure
of_compile_failure text options made fault (Noted refusal note) is_text spelled long is =
    of_program made is_text spelled (long is.0) (is.1 ∙ ap compile_fault.refusal is.0)
of_compile_failure text options made fault (Pointed kind pointer note) is_text spelled long is = absurd is
of_compile_failure text options made fault Memory is_text spelled long is = tt

-- the same of a filter in JSON
pub of_json_program_failure : (text : List ℕ) (options : FilterOptions) (made : AFilter Global) (fault : CompileFault) (failure : FilterFailure)
    → options.language ≡ language.Json → Spells options.language text made → (fault ≡ compile.TooLong → IsTooLong (program_of made options.score))
    → IsOfJsonProgram fault failure → IsFilterFailure text options failure
of_json_program_failure text options made fault (Noted refusal note) is_json spelled long is = absurd is
of_json_program_failure text options made fault (Pointed kind pointer note) is_json spelled long is =
    record { is_json = is_json; refused = of_whole made (rw is_json at spelled) (long is.0) is.1 is.2 }
of_json_program_failure text options made fault Memory is_json spelled long is = tt

-- a text that is too long is refused as such a text
pub long_failure : (text : List ℕ) (options : FilterOptions) (fault : FilterFault) (failure : FilterFailure) → MAX_TEXT_LENGTH < length text
    → IsOfFilter fault failure → IsFilterFailure text options failure
long_failure text options fault (Noted refusal note) long is = of_text fault (λ few. absurd (omega (arith, few, long))) is.1
long_failure text options fault (Pointed kind pointer note) long is = absurd is
long_failure text options fault Memory long is = tt

-- so a result that is such a refusal is a failure of the filter
pub long_refused : {T : Type 0} (text : List ℕ) (options : FilterOptions) (result : Result T FilterFailure) → MAX_TEXT_LENGTH < length text
    → IsErrAnd result (IsOfFilter (length_fault text)) → IfErr result (IsFilterFailure text options)
long_refused text options (Ok value) long is = absurd is
long_refused text options (Err failure) long is = long_failure text options (length_fault text) failure long is
