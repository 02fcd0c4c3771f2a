use Rattle.std.proofs.Common.{rules, ◌≡◌, ◌≢◌, ◌∙◌, ◌+◌, Err, [], length, length-append, arith}
use Rattle.std.proofs.lemmas.Bool.Decides.{nat_tests}
use Rattle.csv.specs.Records.{fields_of}
use Rattle.addresses.proofs.NextLemmas.{failed, found, next-step, no-bytes, nothing-left, passed}
use Rattle.addresses.proofs.unread.Unread.next.Goals as goal

pub returns-in_err-found-clause-next : goal.returns-in_err-found-clause-next
returns-in_err-found-clause-next c =
    let text = c.loop-self.self-inside.text.now in
    let first = c.first_text-first.result in
    let some : text ≢ [] = search rules in
    let texts = c.first_text-first.ensures.texts some in
    let step = c.loop-self.invariant.0 ∙ next-step c.loop-self.self-inside.line text first.text.now first.rest.now texts in
    let is : c.from_residual.result ≡ Err c.in_err-found.field-0.0 = search rules in
    rw is (failed c.loop-self.self-inside.line (fields_of c.read_record.new.row) first.text.now c.args.self.now _ c.in_err-found.field-0.0
    (record { later = _; is = c.in_err-found.ensures.read; from = step }))

pub returns-then-found-clause-next : goal.returns-then-found-clause-next
returns-then-found-clause-next c =
    let text = c.loop-self.self-inside.text.now in
    let first = c.first_text-first.result in
    let some : text ≢ [] = search rules in
    let texts = c.first_text-first.ensures.texts some in
    let step = c.loop-self.invariant.0 ∙ next-step c.loop-self.self-inside.line text first.text.now first.rest.now texts in
    rw c.line_feeds.ensures.value (found c.loop-self.self-inside.line (fields_of c.read_record.new.row) first.text.now c.args.self.now _
    (rw c.if-found.true at c.in_ok-found.ensures.read) step)

pub loop-self-preserved : goal.loop-self-preserved
loop-self-preserved c =
    let text = c.loop-self.self-inside.text.now in
    let first = c.first_text-first.result in
    let some : text ≢ [] = search rules in
    let texts = c.first_text-first.ensures.texts some in
    let step = c.loop-self.invariant.0 ∙ next-step c.loop-self.self-inside.line text first.text.now first.rest.now texts in
    let counted = c.loop-self.invariant.1 in
    let split : length text ≡ length first.text.now + length first.rest.now =
    rw c.first_text-first.ensures.split (length-append first.text.now first.rest.now) in
    let few = c.line_feeds.ensures.few in (
      rw c.line_feeds.ensures.value (passed c.loop-self.self-inside.line (fields_of c.read_record.new.row) first.text.now c.args.self.now _
          (rw c.if-found.false at c.in_ok-found.ensures.read) step),
      omega (arith, counted, split, few),
      c.in_ok-found.ensures.after,
    )

pub returns-clause-next : goal.returns-clause-next
returns-clause-next c =
    let short : length c.loop-self.self-inside.text.now ≡ 0 = grind (arith, nat_tests) in
    let empty : c.loop-self.self-inside.text.now ≡ [] = no-bytes c.loop-self.self-inside.text.now short in
    let none = nothing-left c.loop-self.self-inside.line c.loop-self.self-inside.text.now empty in
    (c.loop-self.invariant.0 ∙ none, none)
