use Rattle.std.proofs.Common.{ℕ, List, refl, subst}
use Rattle.filters.specs.Filter.{IsFilterFailure}
use Rattle.commands.proofs.CompileLemmas.{failure_usage}
use Rattle.commands.proofs.SelectLemmas.{filter_carried, select_lent}
use Rattle.commands.proofs.select.Select.carry_out.Goals as goal

pub returns-in-Err-clause-carried : goal.returns-in-Err-clause-carried
returns-in-Err-clause-carried g c =
    filter_carried c.in-Err.failure
    (subst (λ (text : List ℕ). IsFilterFailure text c.args.self.filter_options c.in-Err.failure) c.as_bytes.ensures.value c.in-Err.ensures.err)
    (record { opens = refl; reads = λ name. refl })

pub returns-in-Err-clause-usage : goal.returns-in-Err-clause-usage
returns-in-Err-clause-usage g c = failure_usage c.in-Err.failure

pub returns-clause-carried : goal.returns-clause-carried
returns-clause-carried g c =
    select_lent g.F.Files.opens _ _ _ _ c.args.self c.select_layer.result c.as_bytes.ensures.value c.as_slice.ensures.value
    c.in-Ok.ensures.ok c.select_layer.ensures.outcome c.select_layer.ensures.fails c.select_layer.ensures.names
    c.select_layer.ensures.counts c.select_layer.ensures.unflushed
