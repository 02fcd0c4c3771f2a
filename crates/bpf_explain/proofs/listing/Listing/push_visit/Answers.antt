use Rattle.std.proofs.Common.{◌++◌, ◌∙◌, ap, List, ℕ}
use Rattle.std.specs.String.{string_bytes}
use Rattle.std.specs.Prelude.{codes}
use Rattle.listing_notes.specs.Facts.{noted, prefix_text}
use Rattle.bpf_explain.specs.Listing.{ListingParts}
use Rattle.bpf_explain.proofs.ListingLemmas.{after-dropped, pushed, same-parts, until-taken}
use Rattle.listing_notes.proofs.LoopLemmas.{appended-twice}
use Rattle.bpf_explain.proofs.listing.Listing.push_visit.Goals as goal

pub returns : goal.returns
returns g c =
    let counted = c.count_until-count.ensures.value in
    let line : List ℕ = noted (prefix_text c.args.place c.args.insn) c.args.note.now ++ codes "\n" in
    let until = until-taken c.self.inside.remaining.now c.count_until-count.result c.args.place counted in
    same-parts
    (appended-twice (string_bytes c.self.inside.text) _ _ c.in_ok-push_sources.ensures c.in_ok-push_instruction_line.ensures
    ∙ ap (λ (text : List ℕ). string_bytes c.self.inside.text ++ (text ++ line)) until)
    (after-dropped c.self.inside.remaining.now c.count_until-count.result c.args.place counted)
    ∙ ap (λ (old : ListingParts). pushed old c.args.place c.args.insn c.args.note.now) c.self.view_is
