-- Parts with a token between them: a definition that recurses on the left, read from the first part on.
use Rattle.std.proofs.Common.{◌≡◌, ◌≢◌, ℕ, List, ◌∷◌, refl, ap, ◌∙◌}
use Rattle.cql2.specs.declared.filter.Filter.{Filter}
use Rattle.cql2_text.specs.Content.{content}
use Rattle.cql2_text.specs.Connective.{IsBoth, IsEither}
use Rattle.cql2_text.specs.Predicate.{SpellsList, one, more}
use Rattle.cql2_text.specs.Read.{IsNotNext}
use Rattle.cql2_text.specs.Spelled.{Expression, Factor, Spells, Term, both, either, one_factor, one_term}
use Rattle.cql2_tokens.specs.declared.token.Keyword.TheVariants as word
use Rattle.cql2_tokens.specs.declared.token.Token.{Token}
use Rattle.cql2_tokens.specs.declared.token.Token.TheVariants.{Comma, Keyword}

-- a chain from a filter and the tokens after it to the filter of all parts and the tokens after them
pub data Chain {A : Type 0} (between : Token) (Part : List Token → List Token → Filter A → Type 0)
    (Joins : Filter A → Filter A → Filter A → Type 0) : List Token → Filter A → List Token → Filter A → Type 0 where
  ends : {words : List Token} {made : Filter A} → Chain between Part Joins words made words made
  continues : {middle after rest : List Token} {first second joined made : Filter A} → Part middle after second → Joins first second joined
      → Chain between Part Joins after joined rest made → Chain between Part Joins (between ∷ middle) first rest made

-- the same, from a filter with the same content as the first one
pub record ReadChain {A : Type 0} (between : Token) (Part : List Token → List Token → Filter A → Type 0)
    (Joins : Filter A → Filter A → Filter A
    → Type 0) (words : List Token) (read : Filter A) (rest : List Token) (made : Filter A) : Type 0 where
  pub first : Filter A
  pub same : content read ≡ content first
  pub chain : Chain between Part Joins words first rest made

-- a first part and the chain after it
pub record FirstPart {A : Type 0} (between : Token) (Part : List Token → List Token → Filter A → Type 0)
    (Joins : Filter A → Filter A → Filter A → Type 0) (words rest : List Token) (made : Filter A) : Type 0 where
  pub first : Filter A
  pub after : List Token
  pub part : Part words after first
  pub chain : Chain between Part Joins after first rest made

-- a next part, joined with the parts before it, and the chain after it
pub record NextPart {A : Type 0} (between : Token) (Part : List Token → List Token → Filter A → Type 0)
    (Joins : Filter A → Filter A → Filter A
    → Type 0) (words : List Token) (first : Filter A) (rest : List Token) (made : Filter A) : Type 0 where
  pub second : Filter A
  pub joined : Filter A
  pub after : List Token
  pub part : Part words after second
  pub joins : Joins first second joined
  pub chain : Chain between Part Joins after joined rest made

module _ {A : Type 0} {between : Token} {Part : List Token → List Token → Filter A → Type 0} {Joins : Filter A → Filter A → Filter A
    → Type 0} where
  extended : {words middle rest : List Token} {first before second made : Filter A}
      → Chain between Part Joins words first (between ∷ middle) before → Part middle rest second → Joins before second made
      → Chain between Part Joins words first rest made
  extended ends is joins = continues is joins ends
  extended (continues part joined chain) is joins = continues part joined (extended chain is joins)

  pub later-part : {words middle rest : List Token} {before second made : Filter A}
      → FirstPart between Part Joins words (between ∷ middle) before → Part middle rest second → Joins before second made
      → FirstPart between Part Joins words rest made
  later-part are is joins =
      record { first = are.first; after = are.after; part = are.part; chain = extended are.chain is joins }

  pub next-part : {words after rest : List Token} {first made : Filter A} → Chain between Part Joins words first rest made
      → words ≡ between ∷ after → ((w : List Token) → rest ≢ between ∷ w) → NextPart between Part Joins after first rest made
  next-part ends is stops = absurd (stops _ is)
  next-part {after = after} (continues {middle = middle} {after = later} {second = second} {joined = joined} part joins chain) is stops =
      let e : middle ≡ after = cc in
      record { second = second; joined = joined; after = later; part = rw e at part; joins = joins; chain = chain }

  pub no-part : {words rest : List Token} {first made : Filter A} → Chain between Part Joins words first rest made
      → ((w : List Token) → words ≢ between ∷ w) → (words ≡ rest) × (first ≡ made)
  no-part ends stops = (refl, refl)
  no-part (continues part joins chain) stops = absurd (stops _ refl)

module _ {A : Type 0} {between : Token} {Part : List Token → List Token → Filter A → Type 0} {Joins : Filter A → Filter A → Filter A
    → Type 0} where
  pub chain-first : {words after rest : List Token} {read first made : Filter A} → words ≡ after → content read ≡ content first
      → Chain between Part Joins after first rest made → ReadChain between Part Joins words read rest made
  chain-first {first = first} starts same chain = record { first = first; same = same; chain = rw starts chain }

  pub chain-next : {words after rest : List Token} {read made : Filter A} (so_far : ReadChain between Part Joins words read rest made)
      → words ≡ between ∷ after → ((w : List Token) → rest ≢ between ∷ w) → NextPart between Part Joins after so_far.first rest made
  chain-next so_far is stops = next-part so_far.chain is stops

  pub chain-last : {words rest : List Token} {read made : Filter A} → ReadChain between Part Joins words read rest made
      → ((w : List Token) → words ≢ between ∷ w) → (words ≡ rest) × (content read ≡ content made)
  chain-last so_far stops =
      let last = no-part so_far.chain stops in (last.0, so_far.same ∙ ap content last.1)

module _ {A : Type 0} where
  pub list-parts : {Item : List Token → List Token → Filter A → Type 0} {words rest : List Token} {made : Filter A}
      → SpellsList Item words rest made → FirstPart Comma Item IsEither words rest made
  list-parts {rest = rest} (one {made = made} is) = record { first = made; after = rest; part = is; chain = ends }
  list-parts (more before is joins) = later-part (list-parts before) is joins

  pub term-parts : {depth : ℕ} {words rest : List Token} {made : Filter A} → Spells depth Term words rest made
      → FirstPart (Keyword word.And) (Spells depth Factor) IsBoth words rest made
  term-parts {rest = rest} (one_factor {made = made} is) = record { first = made; after = rest; part = is; chain = ends }
  term-parts (both before is joins) = later-part (term-parts before) is joins

  pub expression-parts : {depth : ℕ} {words rest : List Token} {made : Filter A} → Spells depth Expression words rest made
      → FirstPart (Keyword word.Or) (Spells depth Term) IsEither words rest made
  expression-parts {rest = rest} (one_term {made = made} is) = record { first = made; after = rest; part = is; chain = ends }
  expression-parts (either before is joins) = later-part (expression-parts before) is joins

-- AND is not next after a term
module _ {A : Type 0} {Part : List Token → List Token → Filter A → Type 0} {Joins : Filter A → Filter A → Filter A → Type 0} where
  pub and-not-next : {words rest : List Token} {first made : Filter A} → Chain (Keyword word.Or) Part Joins words first rest made
      → IsNotNext word.And rest → IsNotNext word.And words
  and-not-next ends not_next = not_next
  and-not-next (continues part joins chain) not_next = λ w e. cc
