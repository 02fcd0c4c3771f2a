use Rattle.std.proofs.Common.{◌≡◌, ◌+◌, Some, sym, ap, ◌∙◌, subst, arith}
use Rattle.bpf_insn.specs.Code.{instruction_at}
use Rattle.bpf_insn.proofs.SpanLemmas.{ends_within}
use Rattle.bpf_verify.specs.Pass.{PassState, pending, state_of, pass_state, states_in, waiting_at}
use Rattle.bpf_verify.specs.LiftedState.{Reached, Unreached}
use Rattle.bpf_verify.proofs.WorklistLemmas.{found_proper, here_is, pending_proper, others_unchanged, advanced_is_proper, waits, waits_after}
use Rattle.bpf_verify.proofs.PassLemmas.{join-bottom}
use Rattle.bpf_verify.proofs.worklist.Worklist.pop.Goals as goal

pub overflow_add-self : goal.overflow_add-self
overflow_add-self g c =
    let at = ap (λ (a : PassState). a.place) c.self.view_is in
    let ends = ends_within c.args.self.now.code c.args.self.now.place c.args.insn c.requires.is_insn in
    let sized = c.requires.sized.1 in omega (arith, at)

pub join_into-requires-clause-there : goal.join_into-requires-clause-there
join_into-requires-clause-there g c = found_proper c.self.inside.waiting.entries c.self.inside.place c.remove-there.result
    c.self.invariant.proper c.remove-there.ensures.value

pub invariant_of-self : goal.invariant_of-self
invariant_of-self g c =
    let is_insn = subst (λ (a : PassState). instruction_at a.code a.place ≡ Some c.args.insn) (sym c.self.view_is) c.requires.is_insn in
    rw (c.take.ensures.after) (advanced_is_proper _ (states_in c.remove-there.new.self.entries)
    (c.self.inside.place + c.words.result) c.args.insn c.self.invariant is_insn (ap (λ n. c.self.inside.place + n) c.words.ensures)
    (waits_after c.self.inside.waiting c.remove-there.new.self c.self.inside.place _ c.remove-there.ensures.updates))

pub returns-in_default-clause-value : goal.returns-in_default-clause-value
returns-in_default-clause-value g c =
    sym (join-bottom (state_of c.remove-there.result))
    ∙ here_is (pass_state c.self.inside.flow.now.code c.self.inside.place c.self.inside.straight c.self.inside.waiting.entries)
    (state_of c.remove-there.result) Unreached (ap state_of c.remove-there.ensures.value
    ∙ sym (waits c.self.inside.waiting.entries c.self.inside.place))
    (sym (ap state_of c.in_default.is) ∙ ap state_of c.take.ensures.value)
    ∙ ap (λ (a : PassState). pending a a.place) c.self.view_is

pub returns-in_default-clause-proper : goal.returns-in_default-clause-proper
returns-in_default-clause-proper g c = found_proper c.self.inside.waiting.entries c.self.inside.place c.remove-there.result
    c.self.invariant.proper c.remove-there.ensures.value

pub returns-in_default-clause-proper_states : goal.returns-in_default-clause-proper_states
returns-in_default-clause-proper_states g c = pending_proper _ (invariant_of-self g c)

pub returns-in_default-clause-waiting : goal.returns-in_default-clause-waiting
returns-in_default-clause-waiting g c = λ other past.
    let at = ap (λ (a : PassState). a.place) c.self.view_is in
    others_unchanged _ _ c.self.inside.place other (waits_after c.self.inside.waiting c.remove-there.new.self c.self.inside.place _
    c.remove-there.ensures.updates) (omega (arith, at))
    ∙ ap (λ (a : PassState). waiting_at a.waiting other) c.self.view_is

pub invariant_of-self-2 : goal.invariant_of-self-2
invariant_of-self-2 g c =
    let is_insn = subst (λ (a : PassState). instruction_at a.code a.place ≡ Some c.args.insn) (sym c.self.view_is) c.requires.is_insn in
    rw (c.take.ensures.after) (advanced_is_proper _ (states_in c.remove-there.new.self.entries)
    (c.self.inside.place + c.words.result) c.args.insn c.self.invariant is_insn (ap (λ n. c.self.inside.place + n) c.words.ensures)
    (waits_after c.self.inside.waiting c.remove-there.new.self c.self.inside.place _ c.remove-there.ensures.updates))

pub returns-clause-value : goal.returns-clause-value
returns-clause-value g c =
    c.join_into.ensures.value
    ∙ here_is (pass_state c.self.inside.flow.now.code c.self.inside.place c.self.inside.straight c.self.inside.waiting.entries)
    (state_of c.remove-there.result) (Reached c.in-Some.known.value)
    (ap state_of c.remove-there.ensures.value ∙ sym (waits c.self.inside.waiting.entries c.self.inside.place))
    (sym (ap state_of c.in-Some.is) ∙ ap state_of c.take.ensures.value)
    ∙ ap (λ (a : PassState). pending a a.place) c.self.view_is

pub returns-clause-proper_states : goal.returns-clause-proper_states
returns-clause-proper_states g c = pending_proper _ (invariant_of-self-2 g c)

pub returns-clause-waiting : goal.returns-clause-waiting
returns-clause-waiting g c = λ other past.
    let at = ap (λ (a : PassState). a.place) c.self.view_is in
    others_unchanged _ _ c.self.inside.place other (waits_after c.self.inside.waiting c.remove-there.new.self c.self.inside.place _
    c.remove-there.ensures.updates) (omega (arith, at))
    ∙ ap (λ (a : PassState). waiting_at a.waiting other) c.self.view_is
