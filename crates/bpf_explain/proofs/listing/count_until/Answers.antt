use Rattle.std.proofs.Common.{◌∙◌, sym}
use Rattle.std.specs.Prelude.{nat_lt}
use Rattle.bpf_assembler.proofs.WordLemmas.{position-found}
use Rattle.bpf_explain.proofs.ListingLemmas.{count-missing, position-map}
use Rattle.bpf_explain.proofs.listing.count_until.Goals as goal

pub returns-in-Some-clause-value : goal.returns-in-Some-clause-value
returns-in-Some-clause-value c =
    (position-found _ c.args.lines.now c.in-Some.count (sym c.in-Some.ensures.value)).0
    ∙ position-map (λ line. nat_lt c.args.place line.place) c.args.lines.now

pub returns-in-None-clause-value : goal.returns-in-None-clause-value
returns-in-None-clause-value c =
    count-missing _ c.args.lines.now c.in-None.ensures.value ∙ position-map (λ line. nat_lt c.args.place line.place) c.args.lines.now
