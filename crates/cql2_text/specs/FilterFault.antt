-- The refusal for a filter's fault.
use Rattle.refusals.specs.Refusal.{RefusalParts, at_character, memory}
use Rattle.cql2_text.specs.FilterFaultKind as filter_flaw
use Rattle.cql2_text.specs.declared.fault.FilterFault.{FilterFault}
use Rattle.cql2_text.specs.declared.fault.FilterFault.TheVariants.{At, Memory}

abbrev pub refusal : FilterFault → RefusalParts
refusal (At line column flaw) = at_character line column (filter_flaw.refusal flaw)
refusal Memory = memory
