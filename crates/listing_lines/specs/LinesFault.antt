-- The refusal for a fault in a file of source lines.
use Rattle.std.specs.Prelude.{codes}
use Rattle.refusals.specs.Refusal.{RefusalParts, at_line, refused}
use Rattle.listing_lines.specs.declared.source_lines.LinesFault.{LinesFault}
use Rattle.listing_lines.specs.declared.source_lines.SourceLineFaultKind.{SourceLineFaultKind}
use Rattle.listing_lines.specs.declared.source_lines.SourceLineFaultKind.TheVariants.{NotText, WithoutPlace, OutOfOrder}

abbrev pub flaw_refusal : SourceLineFaultKind → RefusalParts
flaw_refusal NotText = refused 110 (codes "LineNotText")
flaw_refusal WithoutPlace = refused 111 (codes "LineWithoutPlace")
flaw_refusal OutOfOrder = refused 112 (codes "LineOutOfOrder")

-- a file that is too long to be read
abbrev pub lines_too_long : RefusalParts
lines_too_long = refused 113 (codes "LinesTooLong")

abbrev pub refusal : LinesFault → RefusalParts
refusal fault = at_line fault.line (flaw_refusal fault.flaw)
