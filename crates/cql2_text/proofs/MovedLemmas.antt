-- Tokens that differ only in where their bytes are in memory spell the same filter.
use Rattle.std.proofs.Common.{ℕ, List, [], ◌∷◌, refl, sym, ◌∙◌}
use Rattle.cql2.specs.declared.filter.Filter.{Filter}
use Rattle.cql2_text.specs.Spelled.{SpellsPredicate, false_literal, function, relation, true_literal}
use Rattle.cql2_text.specs.Spelled.{Production, Spells, one_term, either, one_factor, both, one_primary, not_primary, grouped, predicate}
use Rattle.cql2_tokens.specs.Alike.{AreLike, next, same}
use Rattle.cql2_tokens.specs.declared.token.Keyword.TheVariants as word
use Rattle.cql2_tokens.specs.declared.token.Token.{Token}
use Rattle.cql2_tokens.specs.declared.token.Token.TheVariants.{Close, Keyword, Open}
use Rattle.cql2_text.proofs.AlikeLemmas.{Moved, moved-after, moved-at, moved-relation, none-like, opens-like, same-first}
use Rattle.cql2_text.proofs.FunctionLemmas.{moved-function}

module _ {A : Type 0} where
  moved-predicate : (words others rest : List Token) (made : Filter A) → AreLike words others → SpellsPredicate words rest made
      → Moved (λ w r. SpellsPredicate w r made) others rest
  moved-predicate _ others rest _ alike true_literal =
      let first = same-first (Keyword word.True) rest others refl alike in
      moved-at _ others _ rest first.is
      (record { after = first.later; alike = first.alike; is = true_literal })
  moved-predicate _ others rest _ alike false_literal =
      let first = same-first (Keyword word.False) rest others refl alike in
      moved-at _ others _ rest first.is
      (record { after = first.later; alike = first.alike; is = false_literal })
  moved-predicate _ others rest made alike (function {name = n} {words = words} is) =
      moved-after (Keyword (word.Function n)) words others rest refl alike (λ later also. moved-function n words later rest made also is)
      (λ w r it. function it)
  moved-predicate words others rest made alike (relation is) =
      let moved = moved-relation words others rest made alike is in
      record { after = moved.after; alike = moved.alike; is = relation moved.is }

  pub moved-spells : (depth : ℕ) (production : Production) (words others rest : List Token) (made : Filter A) → AreLike words others
      → Spells depth production words rest made → Moved (λ w r. Spells depth production w r made) others rest
  moved-spells depth _ words others rest made alike (one_term is) =
      let inner = moved-spells depth _ words others rest made alike is in
      record { after = inner.after; alike = inner.alike; is = one_term inner.is }
  moved-spells depth _ words others rest made alike (either {middle = middle} {first = first} {second = second} left right joined) =
      let before = moved-spells depth _ words others (Keyword word.Or ∷ middle) first alike left in
      let between = same-first (Keyword word.Or) middle before.after refl before.alike in
      let inner = moved-spells depth _ middle between.later rest second between.alike right in
      record { after = inner.after; alike = inner.alike; is = either (rw between.is at before.is) inner.is joined }
  moved-spells depth _ words others rest made alike (one_factor is) =
      let inner = moved-spells depth _ words others rest made alike is in
      record { after = inner.after; alike = inner.alike; is = one_factor inner.is }
  moved-spells depth _ words others rest made alike (both {middle = middle} {first = first} {second = second} left right joined) =
      let before = moved-spells depth _ words others (Keyword word.And ∷ middle) first alike left in
      let between = same-first (Keyword word.And) middle before.after refl before.alike in
      let inner = moved-spells depth _ middle between.later rest second between.alike right in
      record { after = inner.after; alike = inner.alike; is = both (rw between.is at before.is) inner.is joined }
  moved-spells depth _ words others rest made alike (one_primary is) =
      let inner = moved-spells depth _ words others rest made alike is in
      record { after = inner.after; alike = inner.alike; is = one_primary inner.is }
  moved-spells depth _ _ others rest made alike (not_primary {words = words} {inner = inner} is inverted) =
      moved-after (Keyword word.Not) words others rest refl alike (λ later also. moved-spells depth _ words later rest inner also is)
      (λ w r it. not_primary it inverted)
  moved-spells _ _ _ others rest made alike (grouped {depth = depth} {words = words} opens is) =
      let first = same-first Open words others refl alike in
      let opens_too = sym (opens-like (Open ∷ words) (Open ∷ first.later) (next Open Open words first.later (same Open) first.alike)) ∙ opens in
      let inner = moved-spells depth _ words first.later (Close ∷ rest) made first.alike is in
      let closed = same-first Close rest inner.after refl inner.alike in
      moved-at _ others _ rest first.is
      (record { after = closed.later; alike = closed.alike; is = grouped opens_too (rw closed.is at inner.is) })
  moved-spells depth _ words others rest made alike (predicate opens is) =
      let inner = moved-predicate words others rest made alike is in
      record { after = inner.after; alike = inner.alike; is = predicate (sym (opens-like words others alike) ∙ opens) inner.is }

  -- the same for all tokens
  pub all-moved : (depth : ℕ) (production : Production) (words others : List Token) (made : Filter A) → AreLike words others
      → Spells depth production words [] made → Spells depth production others [] made
  all-moved depth production words others made alike is =
      let moved = moved-spells depth production words others [] made alike is in
      rw (none-like moved.after moved.alike) at moved.is
