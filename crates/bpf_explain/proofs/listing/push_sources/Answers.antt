use Rattle.std.proofs.Common.{◌∙◌, ◌++◌, ap, arith, List, ℕ}
use Rattle.std.specs.List.{flat_map}
use Rattle.std.specs.String.{string_bytes}
use Rattle.std.proofs.lemmas.List.{take_all}
use Rattle.listing_lines.specs.SourceLines.{line_of, source_text}
use Rattle.bpf_explain.proofs.ListingLemmas.{sources-map}
use Rattle.bpf_explain.proofs.listing.push_sources.Goals as goal

pub returns : goal.returns
returns g c =
    c.loop-line.invariant
    ∙ ap (λ (text : List ℕ). string_bytes c.args.text.now ++ text)
    (ap (flat_map (λ line. source_text (line_of line))) (take_all c.loop-line.line-index c.args.lines.now (omega (arith, c.loop-line-test.false)))
    ∙ sources-map c.args.lines.now)
