use Rattle.std.proofs.Common.{ap, sym, subst, ◌∙◌, IfSome}
use Rattle.tl_segments.specs.FullName.{contents}
use Rattle.tl_segments.specs.SharedLists.{IsJoinedTo, HoldsShared}
use Rattle.tl_segments.proofs.SharedLemmas.{holds_one_more, lists_made}
use Rattle.tl_segments.proofs.shared_lists.SharedLists.segment.Goals as goal
use Rattle.tl_segments.proofs.shared_lists.SharedLists.segment.Goals.{in-Some-joined+in_ok-store, in_default-joined}

pub returns-in-Some-clause-ok : goal.returns-in-Some-clause-ok
returns-in-Some-clause-ok g c = λ lines of_lines.
    let joined = c.in_ok-joined.joined.value in
    let index = c.args.index.now in
    let tlid = c.number-tlid.result in
    let held = subst (λ found. IfSome found (λ joined. IsJoinedTo index tlid joined.value))
    (sym c.in-Some.ensures.value) (c.requires tlid) in
    let by : IsJoinedTo index tlid joined = subst (λ joined. IsJoinedTo index tlid joined)
    (sym c.in_ok-joined.ensures.cases) held in
    c.sharing.ensures
    ∙ ap (λ bytes. contents bytes joined.names.items joined.ranges.items) c.bytes-in-Some.ensures.value
    ∙ by.made lines of_lines c.args.rt1.now.bytes c.number-tlid.ensures.value

pub returns-clause-ok : goal.returns-clause-ok
returns-clause-ok g c = λ lines of_lines. c.in_ok-segment-2.ensures.same ∙ c.in_ok-segment.ensures.ok lines of_lines

pub returns-clause-holds : goal.returns-clause-holds
returns-clause-holds g c =
    let index = c.args.index.now in
    let tlid = c.number-tlid.result in
    elim c.match-joined.branch [
      | in-Some-joined+in_ok-store w ↦ (
          let joined = w.in-Some-joined.joined.value in
          let shares = rw w.in-Some-joined.is at c.in_ok-segment-2.ensures.shares in
          let made = shares.1 ∙ ap (λ bytes. contents bytes joined.names.items joined.ranges.items) c.in_ok-segment.ensures.bytes in
          let by : IsJoinedTo index tlid joined = record {
            valid = shares.0;
            made = λ lines of_lines bytes is.
                lists_made lines joined.names.items joined.ranges.items c.number-tlid.ensures.value
                (sym made ∙ c.in_ok-segment.ensures.ok lines of_lines) is;
          } in
          subst (λ shared. HoldsShared index shared) (sym w.self-is)
          (holds_one_more index c.args.self.now w.store.new.self tlid w.in-Some-joined.joined c.requires by w.in_ok-store.ensures))
      | in_default-joined w ↦ subst (λ shared. HoldsShared index shared) (sym w.self-is) c.requires
    ]
