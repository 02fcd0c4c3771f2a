use Rattle.std.proofs.Common.{◌≡◌, ◌∙◌, ap, map, subst, List}
use Rattle.bpf_verify.specs.Visit.{IsShownUpTo}
use Rattle.bpf_explain.specs.Listing.{ListingParts, empty, visited}
use Rattle.listing_lines.specs.SourceLines.{line_of, parts_of}
use Rattle.listing_lines.specs.declared.source_lines.PlacedLine.{PlacedLine}
use Rattle.bpf_explain.proofs.ListingLemmas.{refuses}
use Rattle.bpf_explain.proofs.explanation.explain_flow.Goals as goal

pub returns-in-Err-Refused : goal.returns-in-Err-Refused
returns-in-Err-Refused g c =
    let refused = rw c.in-Err-Refused.field-0-is at c.in-Err-Refused.ensures.err in
    let first_is : c.new-listing.result ≡ empty (parts_of c.args.lines) =
    c.new-listing.ensures ∙ ap (λ (lines : List PlacedLine). empty (map line_of lines)) c.as_slice.ensures.value ∙ ap empty c.in_ok-lines.ensures in
    let shown = subst (λ (old : ListingParts). IsShownUpTo visited c.args.flow.code c.in-Err-Refused.place old c.verify_with.new.visitor) first_is
    (rw c.in-Err-Refused.field-0-is at c.in-Err-Refused.ensures.shown_refusal) in (
      refused,
      rw c.in_ok-text-in-Err-Refused.ensures (refuses c.args.flow.code (parts_of c.args.lines) c.verify_with.new.visitor c.in-Err-Refused.place
          c.in-Err-Refused.cause refused shown),
    )
