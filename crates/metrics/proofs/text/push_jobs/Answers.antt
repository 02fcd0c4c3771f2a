use Rattle.std.proofs.Common.{append_assoc, ap, ◌++◌, ◌∙◌}
use Rattle.metrics.proofs.TextLemmas.{then_last}
use Rattle.metrics.specs.Text.{jobs_metric, running_sample, finished_sample}
use Rattle.metrics.proofs.text.push_jobs.Goals as goal

pub returns : goal.returns
returns g c =
    let running = running_sample c.args.running in
    then_last c.push_sample-2.result c.push_sample-2.new.text.items c.push_sample.new.text.items c.args.text.now.items (jobs_metric ++ running)
    (finished_sample c.args.finished) c.push_sample-2.ensures
    (c.in_ok-push_sample.ensures ∙ ap (λ text. text ++ running) c.in_ok-push_metric.ensures
    ∙ append_assoc c.args.text.now.items jobs_metric running)
