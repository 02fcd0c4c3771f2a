use Rattle.std.proofs.Common.{◌∙◌}
use Rattle.http_message.proofs.RouteLemmas.{among_row}
use Rattle.http_message.proofs.route.Route.action.Goals as goal

pub returns : goal.returns
returns c = c.action_among.ensures ∙ among_row c.args.self _ c.args.method.now c.row.ensures.methods
