use Rattle.std.proofs.Common.{◌≡◌, ◌∙◌, ◌&&◌, not, false, inl, inr, sym, ap, get_or, refl}
use Rattle.addresses.specs.RecordText.{is_line_feed, is_open}
use Rattle.addresses.proofs.TextLemmas.{IsNextByte, feed-inside, is-feed, not-feed, open-next, open-whole}
use Rattle.addresses.proofs.TextLemmas.{scanned-end, scanned-next, scanned-none, scanned-whole}
use Rattle.addresses.proofs.text.first_text.Goals as goal

pub loop-at-init : goal.loop-at-init
loop-at-init c = scanned-none c.args.file.now

pub returns-then-not-is_open-clause-texts : goal.returns-then-not-is_open-clause-texts
returns-then-not-is_open-clause-texts c =
    let byte = get_or c.args.file.now c.loop-at.at 0 in
    let next : IsNextByte c.args.file.now c.loop-at.at byte = record { below = c.loop-at-test.true; is = refl } in
    let outside = sym c.inside_after-is_open.ensures ∙ c.if-not-is_open.true in
    λ some.
    rw (c.split_at.ensures.front, c.split_at.ensures.back) (scanned-end c.args.file.now c.loop-at.at byte c.loop-at.is_open next
    c.loop-at.invariant (is-feed byte c.if-byte-eq10.true) outside)

pub returns-then-not-is_open-clause-open : goal.returns-then-not-is_open-clause-open
returns-then-not-is_open-clause-open c =
    let byte = get_or c.args.file.now c.loop-at.at 0 in
    let next : IsNextByte c.args.file.now c.loop-at.at byte = record { below = c.loop-at-test.true; is = refl } in
    c.inside_after-is_open.ensures ∙ open-next c.args.file.now c.loop-at.at byte c.loop-at.is_open next c.loop-at.invariant.within
    ∙ sym (ap is_open c.split_at.ensures.front)

pub loop-at-preserved : goal.loop-at-preserved
loop-at-preserved c =
    let byte = get_or c.args.file.now c.loop-at.at 0 in
    let next : IsNextByte c.args.file.now c.loop-at.at byte = record { below = c.loop-at-test.true; is = refl } in
    let inside = c.inside_after-is_open.result in
    let continues : (is_line_feed byte && not inside) ≡ false = elim c.else-byte-eq10.either [
      | inl both ↦ feed-inside byte inside both.1
      | inr other ↦ not-feed byte inside other
    ] in
    let is = c.inside_after-is_open.ensures in
    rw is (scanned-next c.args.file.now c.loop-at.at byte c.loop-at.is_open next c.loop-at.invariant (rw is at continues))

pub returns-clause-texts : goal.returns-clause-texts
returns-clause-texts c = scanned-whole c.args.file.now c.loop-at.at c.loop-at.is_open c.loop-at-test.false c.loop-at.invariant

pub returns-clause-open : goal.returns-clause-open
returns-clause-open c = open-whole c.args.file.now c.loop-at.at c.loop-at.is_open c.loop-at-test.false c.loop-at.invariant
