use Rattle.std.proofs.Common.{rules}
use Rattle.addresses.proofs.StepLemmas.{new-in-step}
use Rattle.addresses.proofs.unread.Unread.of.Goals as goal

pub invariant_of-result : goal.invariant_of-result
invariant_of-result c = (
  search rules,
  rw c.in_ok-reader.ensures.ok (new-in-step c.without_mark-text.result.now c.text_reader.result c.text_reader.ensures),
)
