use Rattle.std.proofs.Common.{inl, inr, refl}
use Rattle.commands.proofs.OpenLemmas.{unusable_forgotten}
use Rattle.extractd.proofs.command_to.Goals as goal

pub returns-clause-answers : goal.returns-clause-answers
returns-clause-answers g c = record {
  files = _;
  files' = _;
  at_most = c.command.ensures.at_most;
  done = c.command.ensures.done;
  refused = c.command.ensures.refused;
  usage = c.command.ensures.usage;
  unusable = λ three. let is = c.command.ensures.unusable three in (is.0, is.1, unusable_forgotten is.2);
  memory = λ four. elim (c.command.ensures.memory four) [
    | inl early ↦ inl (rw early.0 refl, early.1)
    | inr late ↦ inr late
  ];
  opens = c.command.ensures.opens;
  reads = c.command.ensures.reads;
}
