use Rattle.std.proofs.Common.{sym, arith}
use Rattle.std.proofs.lemmas.List.{get_or_past}
use Rattle.std.proofs.lemmas.Bool.Decides.{nat_tests}
use Rattle.linear_referencing.specs.Length.{cosines}
use Rattle.linear_referencing.proofs.length.cosine_at.Goals as goal

pub returns-else-degree-lt91-clause-value : goal.returns-else-degree-lt91-clause-value
returns-else-degree-lt91-clause-value c = sym (get_or_past cosines c.args.degree 0 (grind (arith, nat_tests, c.if-degree-lt91.false)))
