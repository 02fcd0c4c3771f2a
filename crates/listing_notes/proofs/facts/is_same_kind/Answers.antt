use Rattle.std.proofs.Common.{rules, ◌≡◌, Decides}
use Rattle.listing_notes.proofs.TextLemmas.{kinds-same}
use Rattle.listing_notes.proofs.facts.is_same_kind.Goals as goal

pub returns : goal.returns
returns c =
    let decides : Decides c.eq.result (c.args.kind ≡ c.args.other) = search rules in
    record { text = kinds-same c.args.kind c.args.other c.eq.result c.requires.kind c.requires.other decides; value = decides }
