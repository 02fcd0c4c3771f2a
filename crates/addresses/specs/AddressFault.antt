-- The refusal for an address file's fault.
use Rattle.std.specs.Prelude.{codes}
use Rattle.refusals.specs.Refusal.{RefusalParts, at_line, memory, refused}
use Rattle.addresses.specs.AddressFaultKind as address_flaw
use Rattle.addresses.specs.declared.fault.AddressFault.{AddressFault}
use Rattle.addresses.specs.declared.fault.AddressFault.TheVariants.{NoHeader, At, Memory}

abbrev pub refusal : AddressFault → RefusalParts
refusal NoHeader = refused 100 (codes "NoHeader")
refusal (At line flaw) = at_line line (address_flaw.refusal flaw)
refusal Memory = memory
