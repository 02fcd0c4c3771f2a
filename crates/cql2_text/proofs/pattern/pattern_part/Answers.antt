use Rattle.std.proofs.Common.{◌≡◌, ℕ, List, false, ap, ◌∙◌, subst, sym, arith}
use Rattle.std.proofs.lemmas.Bool.Decides.{nat_tests}
use Rattle.cql2_tokens.specs.Character.{IsCharacter}
use Rattle.cql2_text.specs.Pattern.{character_pattern, is_special}
use Rattle.cql2_text.proofs.PatternLemmas.{is-escaped, is-ordinary, part-escaped, part-many, part-one, part-ordinary, view}
use Rattle.cql2_text.proofs.pattern.pattern_part.Goals as goal

pub returns-in_default-clause-only : goal.returns-in_default-clause-only
returns-in_default-clause-only c =
    λ part rest is.
    let v = view c.args.folding c.args.text.now part rest is in
    c.in_default.ensures.only v.byte v.after v.is

pub returns-in-37-clause-part : goal.returns-in-37-clause-part
returns-in-37-clause-part c = part-many c.in-Some.ensures.is c.in-37.is c.after_percents.ensures.value

pub returns-in-95-clause-part : goal.returns-in-95-clause-part
returns-in-95-clause-part c = part-one c.in-Some.ensures.is c.in-95.is

pub returns-in-Some-character-clause-part : goal.returns-in-Some-character-clause-part
returns-in-Some-character-clause-part c =
    part-escaped c.in-Some.ensures.is c.in-92.is c.in-Some-character.ensures.is c.character_pattern.ensures.wanted

pub returns-in-Some-character-clause-only : goal.returns-in-Some-character-clause-only
returns-in-Some-character-clause-only c =
    λ part rest is.
    let v = view c.args.folding c.args.text.now part rest is in
    let same = c.in-Some.ensures.only v.byte v.after v.is in
    let means = is-escaped v (sym same.0 ∙ c.in-92.is) in
    let next = subst (λ (t : List ℕ). IsCharacter t means.0 rest) (sym same.1) means.1 in
    let following = c.in-Some-character.ensures.only means.0 rest next in
    (c.character_pattern.ensures.wanted ∙ ap (character_pattern c.args.folding) following.0 ∙ sym means.2, following.1)

pub returns-in_default-byte-clause-part : goal.returns-in_default-byte-clause-part
returns-in_default-byte-clause-part c =
    let plain : is_special c.in-Some.byte ≡ false = grind (arith, nat_tests) in
    part-ordinary c.in-Some.ensures.is plain c.character_pattern-in_default-byte.ensures.wanted

pub returns-in_default-byte-clause-only : goal.returns-in_default-byte-clause-only
returns-in_default-byte-clause-only c =
    let plain : is_special c.in-Some.byte ≡ false = grind (arith, nat_tests) in
    λ part rest is.
    let v = view c.args.folding c.args.text.now part rest is in
    let same = c.in-Some.ensures.only v.byte v.after v.is in
    let means = is-ordinary v (ap is_special (sym same.0) ∙ plain) in
    (c.character_pattern-in_default-byte.ensures.wanted ∙ ap (character_pattern c.args.folding) same.0 ∙ sym means.0, same.1 ∙ means.1)
