use Rattle.addresses.proofs.TextLemmas.{IsScanned}
use Rattle.addresses.proofs.text.first_text.Given as goal

abbrev pub invariant-loop-at : goal.invariant-loop-at
invariant-loop-at l = IsScanned l.file l.at l.is_open
