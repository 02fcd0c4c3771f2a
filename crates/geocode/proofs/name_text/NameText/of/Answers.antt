use Rattle.std.proofs.Common.{◌∙◌, Some, ap, sym}
use Rattle.geocode.proofs.Latin1Lemmas.{right-length, some-bytes, wrong-length}
use Rattle.geocode.proofs.name_text.NameText.of.Goals as goal

pub returns-then-length-eq0 : goal.returns-then-length-eq0
returns-then-length-eq0 c = wrong-length c.args.text.now c.characters-length.result c.characters-length.ensures c.then-length-eq0.either

pub latin_1-bytes-requires : goal.latin_1-bytes-requires
latin_1-bytes-requires c = rw c.characters-length.ensures at c.if-length-gt-NAME_LENGTH.false

pub invariant_of-result : goal.invariant_of-result
invariant_of-result c =
    some-bytes (λ bytes. bytes.items) c.latin_1-bytes.result c.args.text.now c.latin_1-bytes.ensures
    (rw c.characters-length.ensures at c.if-length-eq0.false)

pub returns : goal.returns
returns c =
    ap Some c.latin_1-bytes.ensures
    ∙ sym (right-length c.args.text.now c.characters-length.result c.characters-length.ensures c.if-length-eq0.false c.if-length-gt-NAME_LENGTH.false)
