-- The refusal for a flaw in a filter's text, without its position.
use Rattle.std.specs.Prelude.{codes}
use Rattle.refusals.specs.Refusal.{RefusalParts, refused}
use Rattle.cql2_text.specs.declared.fault.FilterFaultKind.{FilterFaultKind}
use Rattle.cql2_text.specs.declared.fault.FilterFaultKind.TheVariants.{Syntax, UnknownColumn, WrongType, Folded, NumberRange, LongText}
use Rattle.cql2_text.specs.declared.fault.FilterFaultKind.TheVariants.{TooDeep, TooLong, ManyVertices}

abbrev pub refusal : FilterFaultKind → RefusalParts
refusal (Syntax expected) = refused 90 (codes "Syntax")
refusal UnknownColumn = refused 91 (codes "UnknownColumn")
refusal WrongType = refused 92 (codes "WrongType")
refusal Folded = refused 92 (codes "WrongType")
refusal NumberRange = refused 93 (codes "NumberRange")
refusal LongText = refused 94 (codes "LongText")
refusal TooDeep = refused 95 (codes "TooDeep")
refusal TooLong = refused 96 (codes "TooLong")
refusal ManyVertices = refused 96 (codes "TooLong")
