-- The refusal of a filter that can't be compiled, placed at the filter's first character.
use Rattle.std.specs.Prelude.{codes}
use Rattle.refusals.specs.Refusal.{RefusalParts, at_character, memory, refused}
use Rattle.cql2_code.specs.declared.fault.CompileFault.{CompileFault}
use Rattle.cql2_code.specs.declared.fault.CompileFault.TheVariants.{TooLong, Memory}

abbrev pub refusal : CompileFault → RefusalParts
refusal TooLong = at_character 1 1 (refused 96 (codes "TooLong"))
refusal Memory = memory
