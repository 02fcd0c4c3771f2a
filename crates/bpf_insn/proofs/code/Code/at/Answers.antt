use Rattle.std.proofs.Common.{◌≡◌, ◌∙◌, sym, ap, is_some, get_or, arith}
use Rattle.bpf_insn.specs.Code.{word_count}
use Rattle.bpf_insn.proofs.PlaceLemmas.{found_at, nothing_at, instruction_within}
use Rattle.bpf_insn.proofs.code.Code.at.Goals as goal

pub returns-in_err-index-clause-value : goal.returns-in_err-index-clause-value
returns-in_err-index-clause-value g c = c.from_residual.ensures ∙ nothing_at c.args.self.now c.args.place c.in_err-index.ensures.value

pub returns-clause-value : goal.returns-clause-value
returns-clause-value g c =
    let same : c.self.inside.built ≡ c.args.self.now = c.self.view_is in
    found_at c.args.self.now c.args.place c.in_ok-index.index c.index.result.now c.in_ok-index.ensures.value c.in_ok-index.ensures.within
    (c.index.ensures ∙ ap (λ code. get_or code c.in_ok-index.index c.index.result.now) (ap (λ s. s.built) c.self-inside.view_is ∙ same))

pub returns-clause-within : goal.returns-clause-within
returns-clause-within g c =
    λ some.
    let there = instruction_within c.args.self.now c.args.place (ap is_some (sym (returns-clause-value g c))) in
    let seen : word_count c.self.inside.built ≡ word_count c.args.self.now = ap word_count c.self.view_is in
    let size = c.self.invariant.1 in omega arith
