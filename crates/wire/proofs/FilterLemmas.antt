-- The answers that refuse filters are the replies of the definitions.
use Rattle.std.proofs.Common.{◌≡◌, ◌⊎◌, ℕ, List, Some, IsUtf8, ap, inl, inr, refl}
use Rattle.filters.specs.Failure.{failure_text, refusal_of}
use Rattle.filters.specs.Filter.{IsFilterFailure}
use Rattle.filters.specs.declared.failure.FilterFailure.{FilterFailure}
use Rattle.filters.specs.declared.failure.FilterFailure.TheVariants.{Noted, Pointed, Memory}
use Rattle.filters.specs.declared.filter.FilterOptions.{FilterOptions}
use Rattle.http_message.specs.Reply.{ReplyParts}
use Rattle.http_message.specs.declared.status.Status.TheVariants as status
use Rattle.wire.specs.Answer.{IsFilterRefused, IsTextRefused, failure_reply, invalid, memory_reply, out_of_memory, parameter_reply, plain}
use Rattle.wire.specs.ParameterFault.{NamesNearest, parts_of}
use Rattle.wire.specs.Query.{query_fault}
use Rattle.wire.specs.Refused.{ReportsUnlessMemory}
use Rattle.wire.specs.declared.parameter_fault.ParameterFault.{ParameterFault}
use Rattle.wire.specs.declared.query.Parameters.{Parameters}

-- the reply about a fault reports it
pub reports_fault : (fault : ParameterFault) (reply : ReplyParts) → NamesNearest fault → reply ≡ parameter_reply fault
    → ReportsUnlessMemory (Some (parts_of fault)) reply
reports_fault fault reply nearest is = inl (fault, refl, nearest, is)

-- a fault of the query refuses the filter
pub of_query : (parameters : Parameters) (query filter : List ℕ) (reply : ReplyParts)
    → ReportsUnlessMemory (query_fault parameters query) reply → IsFilterRefused parameters query filter reply
of_query parameters query filter reply (inl reports) = invalid reports
of_query parameters query filter reply (inr memory) = out_of_memory memory

-- so does a failure of the text
pub of_failure : (options : FilterOptions) (filter : List ℕ) (failure : FilterFailure) (reply : ReplyParts) → IsUtf8 filter
    → IsFilterFailure filter options failure → (reply ≡ failure_reply failure) ⊎ (reply ≡ memory_reply) → IsTextRefused options filter reply
of_failure options filter failure reply text is (inl reports) = inr (text, failure, is, reports)
of_failure options filter failure reply text is (inr memory) = inr (text, Memory, tt, memory)

-- the lines of a failure with a number are its reply
pub noted_lines : (lines : List ℕ) (failure : FilterFailure) (number : ℕ) → (refusal_of failure).number ≡ Some number
    → lines ≡ failure_text failure → plain status.UnprocessableEntity lines ≡ failure_reply failure
noted_lines lines (Noted refusal note) number numbered are = ap (plain status.UnprocessableEntity) are
noted_lines lines (Pointed kind pointer note) number numbered are = ap (plain status.UnprocessableEntity) are
noted_lines lines Memory number numbered are = cc
