use Rattle.command_tests.specs.Memory.{bytes_named}
use Rattle.command_tests.proofs.KnownLemmas.{verify_known}
use Rattle.command_tests.proofs.known.answer_verify.Goals as goal

pub returns : goal.returns
returns c = λ done. verify_known (bytes_named c.args.files.now.files.now) c.args.verify (c.answer.ensures.done done)
