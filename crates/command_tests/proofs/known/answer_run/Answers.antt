use Rattle.command_tests.specs.Memory.{bytes_named}
use Rattle.command_tests.proofs.KnownLemmas.{run_known}
use Rattle.command_tests.proofs.known.answer_run.Goals as goal

pub returns : goal.returns
returns c = λ done rows. run_known (bytes_named c.args.files.now.files.now) c.args.run rows (c.answer.ensures.done done)
