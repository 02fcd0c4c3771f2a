use Rattle.std.proofs.Common.{append_assoc, ap, ◌++◌, ◌∙◌}
use Rattle.std.specs.List.{flat_map}
use Rattle.std.specs.Prelude.{None, Some}
use Rattle.http_message.specs.Routes.{routes}
use Rattle.metrics.proofs.TextLemmas.{piece_step, pieces_done, then_last}
use Rattle.metrics.specs.Text.{replies_text, requests_metric}
use Rattle.metrics.proofs.counters.Counters.push_requests.Goals as goal

pub loop-route-preserved : goal.loop-route-preserved
loop-route-preserved g c =
    rw c.in_ok-push_replies.ensures (piece_step _ routes _ c.loop-route.route-index _ _ c.loop-route-test.true c.loop-route.invariant)

pub returns : goal.returns
returns g c =
    let counters = c.args.self.now in
    let lines = flat_map (λ route. replies_text counters (Some route)) routes in
    then_last c.push_replies-2.result c.push_replies-2.new.text.items c.loop-route.text.items c.args.text.now.items (requests_metric ++ lines)
    (replies_text counters None) c.push_replies-2.ensures
    (pieces_done (λ route. replies_text counters (Some route)) routes c.loop-route.route-index c.loop-route.text.items
    (c.push_metric.new.text.items ++ lines) c.loop-route-test.false c.loop-route.invariant
    ∙ ap (λ text. text ++ lines) c.in_ok-push_metric.ensures ∙ append_assoc c.args.text.now.items requests_metric lines)
