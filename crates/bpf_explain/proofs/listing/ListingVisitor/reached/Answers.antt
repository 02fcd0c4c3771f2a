use Rattle.std.proofs.Common.{◌∙◌, ap}
use Rattle.bpf_verify.specs.LiftedState.{Reached}
use Rattle.listing_notes.specs.Facts.{note_text}
use Rattle.bpf_explain.specs.Listing.{ListingParts}
use Rattle.bpf_explain.proofs.ListingLemmas.{pushed, reached-is}
use Rattle.bpf_explain.proofs.listing.ListingVisitor.reached.Goals as goal

pub returns : goal.returns
returns g c =
    let note_is = c.deref.ensures ∙ c.in_ok-note.ensures
    ∙ ap (λ (listing : ListingParts). note_text listing.known (Reached c.args.known.now) c.args.insn) c.self.view_is in
    reached-is c.args.self.now _ c.args.place c.args.insn c.args.known.now c.duplicate-self-inside.result
    (c.self-2.view_is ∙ c.in_ok-push_visit.ensures ∙ ap (pushed c.args.self.now c.args.place c.args.insn) note_is)
    c.duplicate-self-inside.ensures
