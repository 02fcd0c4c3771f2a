use Rattle.std.proofs.Common.{◌≡◌, ◌+◌, false, get_or, drop, arith, rules}
use Rattle.std.proofs.lemmas.Bool.Decides.{nat_tests}
use Rattle.cql2_tokens.specs.Lexed.{begins, is_quote, none}
use Rattle.cql2_tokens.proofs.QuoteLemmas.{all-pairs, last-quote, none-past, other-at, pair-of-quotes, plain-byte, take-pair, take-plain}
use Rattle.cql2_tokens.proofs.lexer.closing_quote.Goals as goal
use Rattle.cql2_tokens.proofs.lexer.closing_quote.Goals.{else-at-text-via-then-at-text+else-text-at-eq39, else-at-text-via-else-at-text}

pub loop-at-init : goal.loop-at-init
loop-at-init c = record { paired = none; more = λ spelling rest is paired single. all-pairs _ spelling rest is paired }

pub loop-at-preserved-then-text-at-ne39 : goal.loop-at-preserved-then-text-at-ne39
loop-at-preserved-then-text-at-ne39 c =
    let text = c.args.text.now in
    let at = c.loop-at.at in
    let plain : is_quote (get_or text at 0) ≡ false = grind (arith, nat_tests) in
    record {
      paired = take-plain text at c.loop-at.invariant.paired c.loop-at-test.true plain;
      more = λ spelling rest is paired single.
          plain-byte text at spelling rest (c.loop-at.invariant.more spelling rest is paired single) c.loop-at-test.true plain;
    }

pub loop-at-preserved : goal.loop-at-preserved
loop-at-preserved c =
    let text = c.args.text.now in
    let at = c.loop-at.at in
    let first : get_or text at 0 ≡ 39 = search rules in
    let second : get_or text (at + 1) 0 ≡ 39 = search rules in
    record {
      paired = take-pair text at c.loop-at.invariant.paired c.if-at-text.true first second;
      more = λ spelling rest is paired single.
          pair-of-quotes text at spelling rest (c.loop-at.invariant.more spelling rest is paired single) single c.if-at-text.true
          first second;
    }

pub returns-else-at-text-clause-only : goal.returns-else-at-text-clause-only
returns-else-at-text-clause-only c =
    let text = c.args.text.now in
    let at = c.loop-at.at in
    let first : get_or text at 0 ≡ 39 = search rules in
    let alone : begins is_quote (drop (at + 1) text) ≡ false = elim c.else-at-text.branch [
      | else-at-text-via-then-at-text+else-text-at-eq39 w ↦
          other-at text (at + 1) w.if-at-text.true (grind (arith, nat_tests))
      | else-at-text-via-else-at-text w ↦ none-past text (at + 1) w.if-at-text.false
    ] in
    λ spelling rest is paired single.
    last-quote text at spelling rest (c.loop-at.invariant.more spelling rest is paired single) c.loop-at-test.true first alone
