use Rattle.std.specs.Str.Iter.{chars_rest}
use Rattle.geocode.proofs.Latin1Lemmas.{IsEncoded}
use Rattle.geocode.proofs.latin_1.latin_1.Given as goal

abbrev pub invariant-loop-character : goal.invariant-loop-character
invariant-loop-character l = IsEncoded l.text l.bytes.items (chars_rest l.character-iterator)
