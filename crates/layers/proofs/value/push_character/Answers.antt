use Rattle.std.proofs.Common.{append_assoc}
use Rattle.layers.proofs.Utf8Lemmas.{encode_latin_1}
use Rattle.layers.proofs.value.push_character.Goals as goal

pub returns-else-byte-lt128-clause-value : goal.returns-else-byte-lt128-clause-value
returns-else-byte-lt128-clause-value c =
    rw (
      c.push-else-byte-lt128-2.ensures.items,
      c.push-else-byte-lt128.ensures.items,
      encode_latin_1 c.args.byte c.if-byte-lt128.false c.ranges.byte.fits,
    ) (append_assoc c.args.text.now.items _ _)
