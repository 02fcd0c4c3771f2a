use Rattle.std.proofs.Common.{◌≡◌, ◌≤◌, length, arith}
use Rattle.std.proofs.lemmas.Bool.Decides.{nat_tests}
use Rattle.cql2_tokens.specs.Character.{is_character}
use Rattle.cql2_text.proofs.CharacterLemmas.{all-more, characters-more, last-character, next-character, pushed-character}
use Rattle.cql2_text.proofs.text.bytes_of.Goals as goal

pub returns-in_default-clause-reads : goal.returns-in_default-clause-reads
returns-in_default-clause-reads g c =
    let some : 1 ≤ length c.loop-rest.rest.now = grind (arith, nat_tests) in
    λ bytes has.
    let next = next-character c.loop-rest.bytes.items c.loop-rest.rest.now bytes (c.loop-rest.invariant.reads bytes has) some in
    absurd (c.in_default.ensures.only next.byte next.after next.is)

pub loop-rest-preserved : goal.loop-rest-preserved
loop-rest-preserved g c =
    let some : 1 ≤ length c.loop-rest.rest.now = grind (arith, nat_tests) in
    let is = c.in-Some.ensures.is in
    let made = c.loop-rest.invariant in
    let so_far = c.loop-rest.bytes.items in
    record {
      spelled = rw c.in_ok-push.ensures.items (characters-more _ so_far _ _ _ made.spelled is);
      characters = rw c.in_ok-push.ensures.items (all-more is_character so_far c.in-Some.byte made.characters is.is_one);
      reads = λ bytes has.
          let next = next-character so_far c.loop-rest.rest.now bytes (made.reads bytes has) some in
          let same = c.in-Some.ensures.only next.byte next.after next.is in
          pushed-character next same.0 same.1 c.in_ok-push.ensures.items;
    }

pub returns-clause-reads : goal.returns-clause-reads
returns-clause-reads g c =
    let none : length c.loop-rest.rest.now ≡ 0 = grind (arith, nat_tests) in
    λ bytes has. last-character _ c.loop-rest.rest.now bytes (c.loop-rest.invariant.reads bytes has) none
