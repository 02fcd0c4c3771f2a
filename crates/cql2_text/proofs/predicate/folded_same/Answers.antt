use Rattle.std.proofs.Common.{◌≡◌, ◌∙◌, map, refl, sym, ap, rules}
use Rattle.cql2_text.specs.Pattern.{character_pattern}
use Rattle.cql2_text.specs.Predicate.{IsFoldedText, IsText, width_of}
use Rattle.cql2_text.specs.declared.syntax_fault.SyntaxFault.TheVariants.{Memory}
use Rattle.cql2_text.proofs.ClauseLemmas.{closed-same, read-inside, text-begins}
use Rattle.cql2_text.proofs.SpelledLemmas.{same-like, text-at}
use Rattle.cql2_text.proofs.predicate.folded_same.Goals as goal

pub returns-in-Ok-clause-ok : goal.returns-in-Ok-clause-ok
returns-in-Ok-clause-ok g c =
    let spelled : IsFoldedText c.args.folding c.args.column c.args.words.now c.in_ok-rest.rest.now c.in-Ok.pattern = record {
      text = c.in_ok-text.text;
      clause = record {
        depth = c.in_ok-depth.depth;
        inner = c.in_ok-depth.words.now;
        opened = c.in_ok-depth.ensures.ok;
        inside = rw (c.width.ensures.value, c.in_ok-rest.ensures) at c.in_ok-text.ensures.ok;
      };
      letters = c.in-Ok.ensures.letters ∙ ap (map (character_pattern c.args.folding)) c.deref.ensures.value;
    } in
    (c.in-Ok.pattern, spelled, refl)

pub returns-in_err-depth-clause-reads : goal.returns-in_err-depth-clause-reads
returns-in_err-depth-clause-reads g c =
    λ rest made is. absurd (c.in_err-depth.ensures.reads _ _ is.1.clause.opened (text-begins _ _ _ is.1.clause.inside.spelled))

pub returns-in_err-text-clause-reads : goal.returns-in_err-text-clause-reads
returns-in_err-text-clause-reads g c =
    λ rest made is.
    let opened = c.in_ok-depth.ensures.reads _ _ is.1.clause.opened (text-begins _ _ _ is.1.clause.inside.spelled) in
    let inside = read-inside (λ w r. IsText (width_of c.args.column) w r is.1.text) is.1.clause _ _ opened.0 opened.1 in
    let text = text-at c.in_ok-depth.words.now _ is.1.text _ _ c.width.ensures.value refl inside in
    let memory : c.in_err-text.field-0.0 ≡ Memory = c.in_err-text.ensures.reads _ is.1.text text in
    search rules

pub returns-in_err-rest-clause-reads : goal.returns-in_err-rest-clause-reads
returns-in_err-rest-clause-reads g c =
    λ rest made is.
    let opened = c.in_ok-depth.ensures.reads _ _ is.1.clause.opened (text-begins _ _ _ is.1.clause.inside.spelled) in
    let inside = read-inside (λ w r. IsText (width_of c.args.column) w r is.1.text) is.1.clause _ _ opened.0 opened.1 in
    let text = text-at c.in_ok-depth.words.now _ is.1.text _ _ c.width.ensures.value refl inside in
    let read = c.in_ok-text.ensures.reads _ is.1.text text in
    absurd (c.in_err-rest.ensures rest read.0)

pub returns-in-Ok-clause-reads : goal.returns-in-Ok-clause-reads
returns-in-Ok-clause-reads g c =
    λ rest made is.
    let opened = c.in_ok-depth.ensures.reads _ _ is.1.clause.opened (text-begins _ _ _ is.1.clause.inside.spelled) in
    let inside = read-inside (λ w r. IsText (width_of c.args.column) w r is.1.text) is.1.clause _ _ opened.0 opened.1 in
    let text = text-at c.in_ok-depth.words.now _ is.1.text _ _ c.width.ensures.value refl inside in
    let read = c.in_ok-text.ensures.reads _ is.1.text text in
    let rest_same = closed-same c.in_ok-depth.depth c.in_ok-rest.rest.now rest (sym c.in_ok-rest.ensures ∙ read.0) in
    let letters = c.in-Ok.ensures.letters ∙ ap (map (character_pattern c.args.folding)) (c.deref.ensures.value ∙ read.1) in
    (rest_same, same-like c.args.column c.in-Ok.pattern is.0 made (letters ∙ sym is.1.letters) is.2)

pub returns-clause-reads : goal.returns-clause-reads
returns-clause-reads g c =
    λ rest made is. c.in_text.ensures.memory c.in-Err.ensures.memory
