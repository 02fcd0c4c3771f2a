-- The refusal for a line's flaw, without its file and its line.
use Rattle.std.specs.Prelude.{codes}
use Rattle.refusals.specs.Refusal.{RefusalParts, io, refused}
use Rattle.tl_records.specs.declared.fault.LineFaultKind.{LineFaultKind}
use Rattle.tl_records.specs.declared.fault.LineFaultKind.TheVariants.{WrongLength, WrongType, BadTlid, BadFeature, BadSequence, Read, TooManyLines}

abbrev pub refusal : LineFaultKind → RefusalParts
refusal WrongLength = refused 1 (codes "WrongLength")
refusal WrongType = refused 2 (codes "WrongType")
refusal BadTlid = refused 3 (codes "BadTlid")
refusal BadFeature = refused 4 (codes "BadFeature")
refusal BadSequence = refused 120 (codes "BadSequence")
refusal Read = io 5 (codes "Read")
refusal TooManyLines = refused 8 (codes "TooManyLines")
