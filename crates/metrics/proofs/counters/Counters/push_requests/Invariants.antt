use Rattle.std.proofs.Common.{◌++◌, Some}
use Rattle.std.specs.List.{flat_map}
use Rattle.http_message.specs.Routes.{routes}
use Rattle.metrics.proofs.TextLemmas.{Remain}
use Rattle.metrics.specs.Text.{replies_text}
use Rattle.metrics.proofs.counters.Counters.push_requests.Given as goal

-- the samples of the routes left are to be appended
abbrev pub invariant-loop-route : goal.invariant-loop-route
invariant-loop-route g l =
    Remain (λ route. replies_text l.self (Some route)) routes l.route-index l.text.items
    (l.initial.text.items ++ flat_map (λ route. replies_text l.self (Some route)) routes)
