use Rattle.std.proofs.Common.{ℕ, Err, List, subst}
use Rattle.bpf_explain.specs.Explanation.{ListsFault}
use Rattle.bpf_explain.proofs.ExplanationLemmas.{of_code, of_fault, safe_is_accepted}
use Rattle.listing_lines.specs.SourceLines.{SourceLine, parts_of}
use Rattle.bpf_explain.proofs.explanation.explain.Goals as goal

pub returns-in_ok-explanation-in-Ok-clause-only : goal.returns-in_ok-explanation-in-Ok-clause-only
returns-in_ok-explanation-in-Ok-clause-only g c = λ code safe.
    let explanation = c.in_ok-explanation-in-Ok.explanation in
    safe_is_accepted c.args.program.now c.args.places.now explanation.text.items code explanation.verdict safe
    (of_code c.args.program.now c.args.places.now explanation.text.items explanation.verdict (record {
      code = c.in-Ok.flow.code;
      is_code = c.in-Ok.ensures.ok;
      forward = c.in-Ok.ensures.forward;
      lines = parts_of c.in_ok-lines-in-Ok.lines;
      are_lines = c.in_ok-lines-in-Ok.ensures;
      explained = c.in_ok-explanation-in-Ok.ensures;
    }))

pub returns-in_ok-text-in-Err-clause-only : goal.returns-in_ok-text-in-Err-clause-only
returns-in_ok-text-in-Err-clause-only g c = λ code safe.
    let fault = c.in-Err.fault in
    let text : List ℕ = c.in_ok-text-in-Err.text.items in
    safe_is_accepted c.args.program.now c.args.places.now text code (Err fault) safe
    (of_fault c.args.program.now c.args.places.now text fault c.in-Err.ensures.err
    (subst (λ (lines : List SourceLine). ListsFault c.args.program.now lines fault text) c.or_none.ensures c.in_ok-text-in-Err.ensures))
