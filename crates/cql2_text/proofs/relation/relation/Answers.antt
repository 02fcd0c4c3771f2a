use Rattle.std.proofs.Common.{◌≡◌, List, false, sym, ◌∙◌, rules}
use Rattle.cql2_text.specs.Predicate.{IsSubject, IsTextLiteral, of_subject}
use Rattle.cql2_text.specs.Scan.{begins_operand}
use Rattle.cql2_text.specs.declared.predicate.CharacterExpression.{CharacterExpression}
use Rattle.cql2_text.specs.declared.syntax_fault.SyntaxFault.TheVariants.{Memory}
use Rattle.cql2_tokens.specs.declared.token.Token.{Token}
use Rattle.cql2_text.proofs.RelationLemmas.{relation-subject, relation-text}
use Rattle.cql2_text.proofs.SpelledLemmas.{of-at}
use Rattle.cql2_text.proofs.relation.relation.Goals as goal

pub returns-then-begins_text-clause-reads : goal.returns-then-begins_text-clause-reads
returns-then-begins_text-clause-reads g c =
    let words = c.args.words.now in
    let stop : begins_operand words ≡ false = sym c.begins_operand.ensures ∙ c.if-begins_operand.false in
    let none : (s : CharacterExpression) (middle : List Token) → IsSubject s words middle → ⊥ =
    λ s middle known. let e = sym (c.begins_text.ensures.subject s middle known) ∙ c.if-begins_text.true in cc e in
    λ rest made spelled.
    let is = relation-text words rest made stop none spelled in
    c.text_first.ensures.reads is.middle rest made is.literal is.is_of

pub returns-clause-ok : goal.returns-clause-ok
returns-clause-ok g c = of_subject c.in_ok-subject.ensures.ok c.in_ok-filter.ensures.ok

pub returns-in_err-subject-clause-reads : goal.returns-in_err-subject-clause-reads
returns-in_err-subject-clause-reads g c =
    let words = c.args.words.now in
    let stop : begins_operand words ≡ false = sym c.begins_operand.ensures ∙ c.if-begins_operand.false in
    let none : (after : List Token) → IsTextLiteral words after → ⊥ =
    λ after literal. let e = sym (c.begins_text.ensures.text after literal) ∙ c.if-begins_text.false in cc e in
    λ rest made spelled.
    let is = relation-subject words rest made stop none spelled in
    absurd (c.in_err-subject.ensures.reads is.s is.middle is.is_subject)

pub returns-in_err-filter-clause-reads : goal.returns-in_err-filter-clause-reads
returns-in_err-filter-clause-reads g c =
    let words = c.args.words.now in
    let stop : begins_operand words ≡ false = sym c.begins_operand.ensures ∙ c.if-begins_operand.false in
    let none : (after : List Token) → IsTextLiteral words after → ⊥ =
    λ after literal. let e = sym (c.begins_text.ensures.text after literal) ∙ c.if-begins_text.false in cc e in
    λ rest made spelled.
    let is = relation-subject words rest made stop none spelled in
    let first = c.in_ok-subject.ensures.reads is.s is.middle is.is_subject in
    let of = of-at first.0 first.1 is.is_of in
    let memory : c.in_err-filter.field-0.0 ≡ Memory = c.in_err-filter.ensures.reads rest made of in
    search rules

pub returns-clause-reads : goal.returns-clause-reads
returns-clause-reads g c =
    let words = c.args.words.now in
    let stop : begins_operand words ≡ false = sym c.begins_operand.ensures ∙ c.if-begins_operand.false in
    let none : (after : List Token) → IsTextLiteral words after → ⊥ =
    λ after literal. let e = sym (c.begins_text.ensures.text after literal) ∙ c.if-begins_text.false in cc e in
    λ rest made spelled.
    let is = relation-subject words rest made stop none spelled in
    let first = c.in_ok-subject.ensures.reads is.s is.middle is.is_subject in
    let of = of-at first.0 first.1 is.is_of in
    c.in_ok-filter.ensures.reads rest made of
