use Rattle.std.proofs.Common.{rules, ◌≡◌, [], arith}
use Rattle.std.proofs.lemmas.List.{nil_from_length}
use Rattle.std.specs.Str.Iter.{chars_rest}
use Rattle.geocode.proofs.Latin1Lemmas.{all-encoded, none-encoded, one-more, other-character, room}
use Rattle.geocode.proofs.latin_1.latin_1.Goals as goal

pub loop-character-init : goal.loop-character-init
loop-character-init c =
    let none : c.new-bytes.result.items ≡ [] = search rules in
    rw none (none-encoded c.args.text.now (chars_rest c.into_iter-character-iterator.result) c.utf8.text (search rules))

pub push-requires : goal.push-requires
push-requires c = (
  omega arith,
  room c.args.text.now c.loop-character.bytes.items (chars_rest c.loop-character.character-iterator) (chars_rest c.next.new.self)
      c.in-Some.character c.loop-character.invariant c.in-Some.ensures.steps.0 c.requires,
)

pub loop-character-preserved : goal.loop-character-preserved
loop-character-preserved c =
    let small = c.in-Ok.ensures in
    rw (c.push.ensures.items, small.1) (one-more c.args.text.now c.loop-character.bytes.items (chars_rest c.loop-character.character-iterator)
    (chars_rest c.next.new.self) c.in-Some.character c.loop-character.invariant c.in-Some.ensures.steps.0 small.0)

pub returns-in-Err : goal.returns-in-Err
returns-in-Err c =
    let large = c.in-Err.ensures in
    other-character c.args.text.now c.loop-character.bytes.items (chars_rest c.loop-character.character-iterator)
    (chars_rest c.next.new.self) c.in-Some.character c.loop-character.invariant c.in-Some.ensures.steps.0 (omega (arith, large))

pub returns : goal.returns
returns c =
    let steps = c.in-None.ensures.steps in
    all-encoded c.args.text.now c.loop-character.bytes.items (chars_rest c.loop-character.character-iterator) c.loop-character.invariant
    (nil_from_length (chars_rest c.loop-character.character-iterator) steps.0.0)
