use Rattle.std.proofs.Common.{◌≡◌, ◌*◌, ◌+◌, take, arith}
use Rattle.std.specs.Str.Parse.{digits_value}
use Rattle.numerals.proofs.NumeralLemmas.{digits_value-next}
use Rattle.http_message.proofs.NumberLemmas.{up_to_limit-large, digit_at}
use Rattle.http_message.proofs.length.number_up_to_limit.Goals as goal

pub returns-then-number-gt-MAX_BODY_LENGTH : goal.returns-then-number-gt-MAX_BODY_LENGTH
returns-then-number-gt-MAX_BODY_LENGTH c =
    let digits = c.args.digits.now in
    let i = c.loop-digit.digit-index in
    let value : c.loop-digit.number * 10 + c.from.result ≡ digits_value 10 (take (i + 1) digits) =
    rw c.from.ensures (digits_value-next digits i _ c.loop-digit-test.true
    (digit_at digits i c.requires c.loop-digit-test.true) c.loop-digit.invariant.value) in
    up_to_limit-large digits (i + 1) _ value c.if-number-gt-MAX_BODY_LENGTH.true

pub loop-digit-preserved : goal.loop-digit-preserved
loop-digit-preserved c =
    let digits = c.args.digits.now in
    let i = c.loop-digit.digit-index in
    record {
      value = rw c.from.ensures (digits_value-next digits i _ c.loop-digit-test.true
          (digit_at digits i c.requires c.loop-digit-test.true) c.loop-digit.invariant.value);
      small = omega arith;
    }
