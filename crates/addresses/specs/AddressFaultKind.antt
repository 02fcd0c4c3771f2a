-- The refusal for a flaw in a record, without its line.
use Rattle.std.specs.Prelude.{codes}
use Rattle.refusals.specs.Refusal.{RefusalParts, refused}
use Rattle.addresses.specs.declared.fault.AddressFaultKind.{AddressFaultKind}
use Rattle.addresses.specs.declared.fault.AddressFaultKind.TheVariants.{NoNumber, NoName, NotUtf8, OpenQuote, LineTooLong, NotOneRecord}

abbrev pub refusal : AddressFaultKind → RefusalParts
refusal NoNumber = refused 101 (codes "NoColumn")
refusal NoName = refused 101 (codes "NoColumn")
refusal NotUtf8 = refused 102 (codes "NotUtf8")
refusal OpenQuote = refused 103 (codes "OpenQuote")
refusal LineTooLong = refused 104 (codes "LineTooLong")
refusal NotOneRecord = refused 105 (codes "NotOneRecord")
