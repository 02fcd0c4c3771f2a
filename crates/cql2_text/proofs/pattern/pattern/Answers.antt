use Rattle.std.proofs.Common.{◌≡◌, ◌≤◌, length, refl, arith}
use Rattle.std.proofs.lemmas.Bool.Decides.{nat_tests}
use Rattle.cql2_text.proofs.PatternLemmas.{at-end, continues-more, continues-to-end, next-part, parts-more, pushed-part}
use Rattle.cql2_text.specs.Pattern.{least_length}
use Rattle.cql2_text.proofs.pattern.pattern.Goals as goal

pub loop-rest-init : goal.loop-rest-init
loop-rest-init g c =
    record {
      reads = λ later has. rw c.new-parts.ensures.items has;
      bytes = rw c.new-parts.ensures.items refl;
      more = λ parts is. record { later = parts; joined = rw c.new-parts.ensures.items refl; has = is };
    }

pub returns-in_err-part-clause-reads : goal.returns-in_err-part-clause-reads
returns-in_err-part-clause-reads g c =
    let some : 1 ≤ length c.loop-rest.rest.now = grind (arith, nat_tests) in
    λ pattern is.
    let following = next-part (c.loop-rest.invariant.more pattern.parts.items is.read) some in
    absurd (c.in_err-part.ensures.only following.part following.after following.is)

pub loop-rest-preserved : goal.loop-rest-preserved
loop-rest-preserved g c =
    let some : 1 ≤ length c.loop-rest.rest.now = grind (arith, nat_tests) in
    record {
      reads = continues-more c.loop-rest.parts.items c.loop-rest.invariant.reads c.in_ok-part.ensures.part c.in_ok-push.ensures.items;
      bytes = rw c.in_ok-push.ensures.items
          (parts-more c.loop-rest.parts.items c.in_ok-part.part c.loop-rest.invariant.bytes c.in_ok-part.ensures.is_byte);
      more = λ parts is.
          let following = next-part (c.loop-rest.invariant.more parts is) some in
          let same = c.in_ok-part.ensures.only following.part following.after following.is in
          pushed-part following same.0 same.1 c.in_ok-push.ensures.items;
    }

pub returns-clause-ok : goal.returns-clause-ok
returns-clause-ok g c =
    let none : length c.loop-rest.rest.now ≡ 0 = grind (arith, nat_tests) in
    let few : least_length c.loop-rest.parts.items ≤ c.args.width = grind (arith, nat_tests) in
    let read = continues-to-end c.args.folding c.args.spelling.now _ c.loop-rest.parts.items c.loop-rest.invariant.reads none in
    record { read = read; few = few }

pub returns-clause-reads : goal.returns-clause-reads
returns-clause-reads g c =
    let none : length c.loop-rest.rest.now ≡ 0 = grind (arith, nat_tests) in
    λ pattern is. at-end (c.loop-rest.invariant.more pattern.parts.items is.read) none
