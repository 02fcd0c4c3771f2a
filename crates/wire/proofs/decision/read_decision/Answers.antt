use Rattle.std.proofs.Common.{sym, ◌∙◌}
use Rattle.wire.proofs.DecisionLemmas.{requested, decides_no_action, decides_no_head, decides_no_route, decides_without_body, names_so}
use Rattle.wire.proofs.decision.read_decision.Goals as goal

pub returns-in_default-clause-ok : goal.returns-in_default-clause-ok
returns-in_default-clause-ok g c = decides_no_head _ _ (rw c.in_default.is at c.in_ok-request.ensures)

pub returns-in_default-find-clause-ok : goal.returns-in_default-find-clause-ok
returns-in_default-find-clause-ok g c =
    let none = sym (rw (c.of-target.ensures.path, c.target.ensures) at c.in_default-find.ensures) in
    let verb = rw c.method.ensures at c.named-verb.ensures in
    decides_no_route c.in-Some.request _ _ _ (rw c.in-Some.is at c.in_ok-request.ensures)
    (names_so c.in-Some.request.head _ _ verb none) none

pub returns-in_default-action-clause-ok : goal.returns-in_default-action-clause-ok
returns-in_default-action-clause-ok g c =
    let route = sym (rw (c.of-target.ensures.path, c.target.ensures) at c.in-Some-find.ensures) in
    let verb = rw c.method.ensures at c.named-verb.ensures in
    decides_no_action c.in-Some.request _ c.in-Some-find.route _ _ (rw c.in-Some.is at c.in_ok-request.ensures)
    (names_so c.in-Some.request.head _ _ verb route) route (sym (rw c.method-2.ensures at c.in_default-action.ensures))

pub returns-then-not-takes_body-clause-ok : goal.returns-then-not-takes_body-clause-ok
returns-then-not-takes_body-clause-ok g c =
    let route = sym (rw (c.of-target.ensures.path, c.target.ensures) at c.in-Some-find.ensures) in
    let action = rw c.method-2.ensures at c.in-Some-action.ensures in
    let verb = rw c.method.ensures at c.named-verb.ensures in
    rw (c.of-target.ensures.path, c.of-target.ensures.query, c.target.ensures, c.new.ensures.items)
    (decides_without_body c.in-Some.request _ c.in-Some-action.action _ _ (rw c.in-Some.is at c.in_ok-request.ensures)
    (names_so c.in-Some.request.head _ _ verb route)
    (requested c.in-Some.request.head c.in-Some-find.route _ route (sym action)) (sym c.takes_body.ensures ∙ c.if-not-takes_body.true))
