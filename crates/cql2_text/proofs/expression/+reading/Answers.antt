use Rattle.std.proofs.Common.{◌≡◌, ◌∷◌, ◌-◌, ◌<◌, suc, true, false, length, refl, sym, ap, ◌∙◌, arith, rules}
use Rattle.cql2_text.specs.Expression.{combined, grouped, literal, one_part, operators, opposite}
use Rattle.cql2_text.specs.ExpressionContent.{Literal, Negated}
use Rattle.cql2_text.specs.declared.syntax_fault.SyntaxFault.TheVariants.{Memory}
use Rattle.cql2_tokens.specs.declared.token.Token.TheVariants.{Close}
use Rattle.cql2_text.proofs.NumberLemmas.{expression-shorter, first-of, group-number-of, joined-links, last-of, links-stop}
use Rattle.cql2_text.proofs.NumberLemmas.{next-of, no-more, opposite-at, read-links, same-fits, same-operators, signed-at}
use Rattle.cql2_text.proofs.TokenLemmas.{first-is}
use Rattle.cql2_text.proofs.expression.+reading.Goals as goal

pub chain-returns-in_err-first-clause-reads : goal.chain-returns-in_err-first-clause-reads
chain-returns-in_err-first-clause-reads g t c =
    λ rest made no is.
    let first = first-of is in
    let memory : c.in_err-first.field-0.0 ≡ Memory =
    c.in_err-first.ensures.reads first.after first.first (links-stop first.links no) first.part in
    search rules

pub chain-loop-operator-init : goal.chain-loop-operator-init
chain-loop-operator-init g t c =
    record {
      spelled = one_part c.in_ok-first.ensures.ok;
      stops = c.in_ok-first.ensures.ends;
      reads = λ rest made no is.
          let first = first-of is in
          let read = c.in_ok-first.ensures.reads first.after first.first (links-stop first.links no) first.part in
          read-links read.0 read.1 first.links;
    }

pub chain-returns-then-not-allows-clause-reads : goal.chain-returns-then-not-allows-clause-reads
chain-returns-then-not-allows-clause-reads g t c =
    λ rest made no spelled.
    let next = next-of (c.loop-operator.invariant.reads rest made no spelled) c.in-Some.ensures no in
    let both : true ≡ false = sym next.allowed ∙ sym c.allows.ensures ∙ c.if-not-allows.true in
    absurd (cc both)

pub chain-returns-in_err-second-clause-reads : goal.chain-returns-in_err-second-clause-reads
chain-returns-in_err-second-clause-reads g t c =
    λ rest made no spelled.
    let next = next-of (c.loop-operator.invariant.reads rest made no spelled) c.in-Some.ensures no in
    let memory : c.in_err-second.field-0.0 ≡ Memory =
    c.in_err-second.ensures.reads next.after next.second (links-stop next.links no) next.part in
    search rules

pub chain-returns-in_err-first-2-clause-reads : goal.chain-returns-in_err-first-2-clause-reads
chain-returns-in_err-first-2-clause-reads g t c =
    λ rest made no spelled.
    let so_far = c.loop-operator.invariant.reads rest made no spelled in
    let next = next-of so_far c.in-Some.ensures no in
    let read = c.in_ok-second.ensures.reads next.after next.second (links-stop next.links no) next.part in
    let fits = same-fits _ _ _ _ _ so_far.same read.1 next.fits in
    let memory : c.in_err-first-2.field-0.0 ≡ Memory = c.in_err-first-2.ensures fits in
    search rules

pub chain-loop-operator-smaller : goal.chain-loop-operator-smaller
chain-loop-operator-smaller g t c =
    omega (arith, ap length c.in-Some.ensures.is, expression-shorter _ _ _ _ _ c.in_ok-second.ensures.ok)

pub chain-loop-operator-preserved : goal.chain-loop-operator-preserved
chain-loop-operator-preserved g t c =
    let begins = c.in-Some.ensures in
    let made = c.in_ok-first-2.ensures in
    record {
      spelled = rw made.1.1.1
          (combined begins.known begins.at_level (sym c.if-not-allows.ensures) (rw begins.is at c.loop-operator.invariant.spelled)
          c.in_ok-second.ensures.ok made.0);
      stops = c.in_ok-second.ensures.ends;
      reads = λ rest whole no spelled.
          let so_far = c.loop-operator.invariant.reads rest whole no spelled in
          let next = next-of so_far begins no in
          let read = c.in_ok-second.ensures.reads next.after next.second (links-stop next.links no) next.part in
          joined-links next read.0 so_far.same read.1 made.1;
    }

pub chain-returns-clause-ok : goal.chain-returns-clause-ok
chain-returns-clause-ok g t c = c.loop-operator.invariant.spelled

pub chain-returns-clause-ends : goal.chain-returns-clause-ends
chain-returns-clause-ends g t c =
    no-more _ _ c.loop-operator.invariant.stops c.in_default.ensures

pub chain-returns-clause-reads : goal.chain-returns-clause-reads
chain-returns-clause-reads g t c =
    λ rest made no spelled. last-of (c.loop-operator.invariant.reads rest made no spelled) c.in_default.ensures

pub parenthesized_expression-returns-in_err-rest-clause-reads : goal.parenthesized_expression-returns-in_err-rest-clause-reads
parenthesized_expression-returns-in_err-rest-clause-reads g t c =
    λ rest made spelled.
    let group = group-number-of spelled in
    let read = c.in_ok-part.ensures.reads (Close ∷ rest) made refl group.spelled in
    absurd (c.in_err-rest.ensures _ read.0)

pub parenthesized_expression-returns-clause-ok : goal.parenthesized_expression-returns-clause-ok
parenthesized_expression-returns-clause-ok g t c =
    let inner = rw c.in_ok-rest.ensures at c.in_ok-part.ensures.ok in
    let deep : c.args.depth ≡ suc (c.args.depth - 1) = omega arith in
    rw deep (grouped inner)

pub parenthesized_expression-returns-clause-reads : goal.parenthesized_expression-returns-clause-reads
parenthesized_expression-returns-clause-reads g t c =
    λ rest made spelled.
    let group = group-number-of spelled in
    let read = c.in_ok-part.ensures.reads (Close ∷ rest) made refl group.spelled in
    let rest_same : c.in_ok-rest.rest.now ≡ rest = cc (read.0, c.in_ok-rest.ensures) in
    (rest_same, read.1)

pub signed_factor-returns-in_err-literal-clause-reads : goal.signed_factor-returns-in_err-literal-clause-reads
signed_factor-returns-in_err-literal-clause-reads g t c =
    let starts = sym c.begins_number.ensures ∙ c.if-begins_number.true in
    λ rest made spelled.
    let is = signed-at c.requires.minus starts spelled in
    absurd (c.in_err-literal.ensures.reads rest is.value.number is.spelled)

pub signed_factor-returns-then-begins_number-clause-ok : goal.signed_factor-returns-then-begins_number-clause-ok
signed_factor-returns-then-begins_number-clause-ok g t c = rw c.literal_subexpression.ensures (literal c.in_ok-literal.ensures.ok)

pub signed_factor-returns-then-begins_number-clause-reads : goal.signed_factor-returns-then-begins_number-clause-reads
signed_factor-returns-then-begins_number-clause-reads g t c =
    let starts = sym c.begins_number.ensures ∙ c.if-begins_number.true in
    λ rest made spelled.
    let is = signed-at c.requires.minus starts spelled in
    let read = c.in_ok-literal.ensures.reads rest is.value.number is.spelled in
    (read.0, rw (c.literal_subexpression.ensures, is.is) (ap Literal read.1))

pub signed_factor-returns-in_err-inner-clause-reads : goal.signed_factor-returns-in_err-inner-clause-reads
signed_factor-returns-in_err-inner-clause-reads g t c =
    let stop = sym c.begins_number.ensures ∙ c.if-begins_number.false in
    λ rest made spelled.
    let is = opposite-at c.requires.minus stop spelled in
    let memory : c.in_err-inner.field-0.0 ≡ Memory = c.in_err-inner.ensures.reads rest is.inner is.spelled in
    search rules

pub signed_factor-returns-in_err-part-clause-reads : goal.signed_factor-returns-in_err-part-clause-reads
signed_factor-returns-in_err-part-clause-reads g t c =
    let stop = sym c.begins_number.ensures ∙ c.if-begins_number.false in
    λ rest made spelled.
    let is = opposite-at c.requires.minus stop spelled in
    let read = c.in_ok-inner.ensures.reads rest is.inner is.spelled in
    let few : operators c.in_ok-inner.inner.expression < 64 = rw (same-operators c.in_ok-inner.inner.expression is.inner read.1) is.few in
    let memory : c.in_err-part.field-0.0 ≡ Memory = c.in_err-part.ensures few in
    search rules

pub signed_factor-returns-clause-ok : goal.signed_factor-returns-clause-ok
signed_factor-returns-clause-ok g t c =
    let stop = sym c.begins_number.ensures ∙ c.if-begins_number.false in
    let deep : c.args.depth ≡ suc (c.args.depth - 1) = omega arith in
    rw (c.requires.minus, deep, c.in_ok-part.ensures.1.1) (opposite stop c.in_ok-part.ensures.0 c.in_ok-inner.ensures.ok)

pub signed_factor-returns-clause-reads : goal.signed_factor-returns-clause-reads
signed_factor-returns-clause-reads g t c =
    let stop = sym c.begins_number.ensures ∙ c.if-begins_number.false in
    λ rest made spelled.
    let is = opposite-at c.requires.minus stop spelled in
    let read = c.in_ok-inner.ensures.reads rest is.inner is.spelled in
    (read.0, rw (c.in_ok-part.ensures.1.1, is.is.1) (ap Negated read.1))

pub factor-returns-then-depth-eq0-clause-reads : goal.factor-returns-then-depth-eq0-clause-reads
factor-returns-then-depth-eq0-clause-reads g t c =
    let k = c.in-Some-Open-default in
    let is = first-is _ _ _ _ k.ensures k.field-0-0-is in
    λ rest made spelled.
    let group = group-number-of (rw is at spelled) in
    absurd (omega (arith, group.some))
