use Rattle.std.proofs.Common.{◌≡◌, ◌∙◌, refl, sym, rules}
use Rattle.cql2_text.specs.Predicate.{IsLikeColumn}
use Rattle.cql2_text.specs.declared.syntax_fault.SyntaxFault.TheVariants.{Memory}
use Rattle.cql2_text.proofs.ClauseLemmas.{closed-same, read-inside, text-begins}
use Rattle.cql2_text.proofs.SpelledLemmas.{same-like}
use Rattle.cql2_text.proofs.predicate.folded_like.Goals as goal

pub returns-clause-ok : goal.returns-clause-ok
returns-clause-ok g c = (
  c.in_ok-pattern.pattern,
  record {
    depth = c.in_ok-depth.depth;
    inner = c.in_ok-depth.words.now;
    opened = c.in_ok-depth.ensures.ok;
    inside = rw c.in_ok-rest.ensures at c.in_ok-pattern.ensures.ok;
  },
  refl,
)

pub returns-in_err-depth-clause-reads : goal.returns-in_err-depth-clause-reads
returns-in_err-depth-clause-reads g c =
    λ rest made is. absurd (c.in_err-depth.ensures.reads _ _ is.1.opened (text-begins _ _ _ is.1.inside.spelled))

pub returns-in_err-pattern-clause-reads : goal.returns-in_err-pattern-clause-reads
returns-in_err-pattern-clause-reads g c =
    λ rest made is.
    let opened = c.in_ok-depth.ensures.reads _ _ is.1.opened (text-begins _ _ _ is.1.inside.spelled) in
    let inside = read-inside (λ w r. IsLikeColumn c.args.column c.args.folding w r is.0) is.1 _ _ opened.0 opened.1 in
    let memory : c.in_err-pattern.field-0.0 ≡ Memory = c.in_err-pattern.ensures.reads _ is.0 inside in
    search rules

pub returns-in_err-rest-clause-reads : goal.returns-in_err-rest-clause-reads
returns-in_err-rest-clause-reads g c =
    λ rest made is.
    let opened = c.in_ok-depth.ensures.reads _ _ is.1.opened (text-begins _ _ _ is.1.inside.spelled) in
    let inside = read-inside (λ w r. IsLikeColumn c.args.column c.args.folding w r is.0) is.1 _ _ opened.0 opened.1 in
    let read = c.in_ok-pattern.ensures.reads _ is.0 inside in
    absurd (c.in_err-rest.ensures rest read.0)

pub returns-clause-reads : goal.returns-clause-reads
returns-clause-reads g c =
    λ rest made is.
    let opened = c.in_ok-depth.ensures.reads _ _ is.1.opened (text-begins _ _ _ is.1.inside.spelled) in
    let inside = read-inside (λ w r. IsLikeColumn c.args.column c.args.folding w r is.0) is.1 _ _ opened.0 opened.1 in
    let read = c.in_ok-pattern.ensures.reads _ is.0 inside in
    let rest_same = closed-same c.in_ok-depth.depth c.in_ok-rest.rest.now rest (sym c.in_ok-rest.ensures ∙ read.0) in
    (rest_same, same-like c.args.column c.in_ok-pattern.pattern is.0 made read.1 is.2)
