use Rattle.std.proofs.Common.{rules}
use Rattle.command_line.specs.declared.fault.ArgumentsFault.TheVariants.{NotLoopback}
use Rattle.command_line.proofs.AddressLemmas.{no_host}
use Rattle.command_line.proofs.address.host.Goals as goal

pub returns-else-is_given-clause-read : goal.returns-else-is_given-clause-read
returns-else-is_given-clause-read c = no_host _ (NotLoopback c.value_or-text.result) (search rules)
