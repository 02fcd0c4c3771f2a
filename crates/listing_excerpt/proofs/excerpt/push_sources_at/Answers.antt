use Rattle.std.proofs.Common.{◌∙◌, ◌++◌, ap, arith, List, ℕ}
use Rattle.std.specs.List.{flat_map}
use Rattle.std.specs.String.{string_bytes}
use Rattle.std.proofs.lemmas.List.{take_all}
use Rattle.listing_lines.specs.SourceLines.{line_of}
use Rattle.listing_excerpt.specs.Excerpt.{source_if_at}
use Rattle.listing_excerpt.proofs.ExcerptLemmas.{sources-map}
use Rattle.listing_excerpt.proofs.excerpt.push_sources_at.Goals as goal

pub returns : goal.returns
returns g c =
    c.loop-line.invariant
    ∙ ap (λ (text : List ℕ). string_bytes c.args.text.now ++ text)
    (ap (flat_map (λ line. source_if_at c.args.place (line_of line)))
    (take_all c.loop-line.line-index c.args.lines.now (omega (arith, c.loop-line-test.false)))
    ∙ sources-map c.args.place c.args.lines.now)
