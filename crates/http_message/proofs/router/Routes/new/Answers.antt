use Rattle.std.proofs.Common.{subst, sym}
use Rattle.http_message.specs.Routes.{routes}
use Rattle.http_message.specs.Table.{FindsRoutes}
use Rattle.http_message.proofs.TableLemmas.{MakesTable, all_inserted, all_make, inserted, next_route, table_finds}
use Rattle.http_message.proofs.router.Routes.new.Goals as goal

pub loop-route-init : goal.loop-route-init
loop-route-init c = subst (λ rows. MakesTable routes rows) (sym c.new-router.ensures) all_make

pub insert-requires : goal.insert-requires
insert-requires c = (next_route routes _ c.loop-route.route-index c.loop-route.router c.loop-route-test.true c.loop-route.invariant).0

pub loop-route-preserved : goal.loop-route-preserved
loop-route-preserved c = inserted routes _ c.loop-route.route-index c.loop-route.router _ c.loop-route-test.true c.loop-route.invariant
    c.in_ok-insert.ensures

pub invariant_of-result : goal.invariant_of-result
invariant_of-result c =
    record {
      finds = subst FindsRoutes (sym (all_inserted routes c.loop-route.route-index c.loop-route.router c.loop-route-test.false
          c.loop-route.invariant)) table_finds;
    }
