use Rattle.std.proofs.Common.{sym, ◌∙◌, arith}
use Rattle.cql2_text.proofs.PlaceLemmas.{no_rest, nothing_passed, passed_more, rest_from}
use Rattle.cql2_text.proofs.nearest.text_at.Goals as goal

pub loop-index-init : goal.loop-index-init
loop-index-init c = λ short. nothing_passed c.args.text.now c.args.place.0 c.args.place.1

pub loop-index-preserved : goal.loop-index-preserved
loop-index-preserved c = λ short.
    let before = c.loop-index.invariant short in
    let here = before.here in
    let inside = c.loop-index-test.true in
    let after = c.place_after-at.ensures (let few = here.few_lines in omega arith) (let few = here.few_columns in omega arith) in
    rw (after.0, after.1) (passed_more inside before (sym c.eq.ensures ∙ c.if-eq.false))

pub returns-then-eq : goal.returns-then-eq
returns-then-eq c = λ short. rest_from c.loop-index-test.true (c.loop-index.invariant short) (sym c.eq.ensures ∙ c.if-eq.true)

pub returns : goal.returns
returns c = λ short.
    no_rest c.args.text.now c.loop-index.index c.loop-index.at.0 c.loop-index.at.1 c.args.place.0 c.args.place.1 c.loop-index-test.false
    (c.loop-index.invariant short)
