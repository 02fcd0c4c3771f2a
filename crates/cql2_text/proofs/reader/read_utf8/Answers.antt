use Rattle.std.proofs.Common.{◌≡◌, List, sym, subst}
use Rattle.cql2_tokens.specs.Alike.{AreLike}
use Rattle.cql2_text.specs.Spelled.{Expression}
use Rattle.cql2_text.specs.declared.syntax_fault.SyntaxFault.TheVariants.{Memory}
use Rattle.cql2_tokens.specs.declared.token.Token.{Token}
use Rattle.cql2_text.proofs.MovedLemmas.{all-moved}
use Rattle.cql2_text.proofs.PlaceLemmas.{placed_after}
use Rattle.cql2_text.proofs.reader.read_utf8.Goals as goal

pub returns-then-is_empty-clause-reads : goal.returns-then-is_empty-clause-reads
returns-then-is_empty-clause-reads g c =
    λ filter is.
    let lexed = c.in_ok-tokens.ensures.reads is.tokens is.lexed in
    let alike = subst (λ (l : List Token). AreLike is.tokens l) (sym c.deref.ensures.value) lexed.1 in
    c.in-Ok.ensures.reads filter (all-moved 64 Expression is.tokens c.deref.result.now filter alike is.spelled)

pub returns-in-Err-At-clause-reads : goal.returns-in-Err-At-clause-reads
returns-in-Err-At-clause-reads g c =
    λ filter is.
    let lexed = c.in_ok-tokens.ensures.reads is.tokens is.lexed in
    let alike = subst (λ (l : List Token). AreLike is.tokens l) (sym c.deref.ensures.value) lexed.1 in
    let memory = c.in-Err-At.ensures.reads filter (all-moved 64 Expression is.tokens c.deref.result.now filter alike is.spelled) in
    let e : c.in-Err-At.field-0 ≡ Memory = memory in
    cc (e, c.in-Err-At.field-0-is)

pub returns-in-Ok-clause-err : goal.returns-in-Ok-clause-err
returns-in-Ok-clause-err g c = placed_after c.args.text.now c.front.result.now _ _ _ c.front.ensures c.fault_after.ensures

pub returns-in-Err-At-clause-err : goal.returns-in-Err-At-clause-err
returns-in-Err-At-clause-err g c =
    placed_after c.args.text.now c.front-in-Err-At.result.now _ _ _ c.front-in-Err-At.ensures c.fault_after-in-Err-At.ensures
