use Rattle.std.proofs.Common.{drop}
use Rattle.http_message.specs.Routes.{routes}
use Rattle.http_message.proofs.TableLemmas.{MakesTable}
use Rattle.http_message.proofs.router.Routes.new.Given as goal

-- inserting the remaining routes makes the table
abbrev pub invariant-loop-route : goal.invariant-loop-route
invariant-loop-route l = MakesTable (drop l.route-index routes) l.router
