use Rattle.std.proofs.Common.{◌≡◌, ℕ, List, Option, Some, IfSome, IsSome, refl, sym, ap, ◌∙◌, subst}
use Rattle.std.specs.BTreeMap.{BTreeMap, Updates}
use Rattle.std.specs.Box.{with_value}
use Rattle.std.specs.Ordering.{nat_cmp}
use Rattle.std.specs.declared.boxed.Box.{Box}
use Rattle.bpf_verify.specs.Pass.{PassState, IsProperPass, AreProper, IsTargetAhead, joined, joined_if, state_of, pass_state, states_in, waiting_at}
use Rattle.bpf_verify.specs.LiftedState.{IsProper, IsProperState, Reached, join}
use Rattle.bpf_verify.specs.declared.abstract_state.AbstractState.{AbstractState}
use Rattle.bpf_verify.proofs.WorklistLemmas.{found_proper, joined_is_proper, pending_proper, waits_joined}
use Rattle.bpf_verify.proofs.PassLemmas.{joined_proper}
use Rattle.bpf_verify.proofs.worklist.Worklist.push_edges.Given.{Over}
use Rattle.bpf_verify.proofs.worklist.Worklist.push_edges.Goals as goal
use Rattle.bpf_verify.proofs.worklist.Worklist.push_edges.Goals.{After-get_mut}

-- the state on the edge to the target is joined into those that wait
abbrev IsJoined : (g : Over) → After-get_mut g → List (ℕ × Box AbstractState g.row.A.Denot) → Type 0
IsJoined g c entries =
    (other : ℕ) → waiting_at (states_in entries) other
    ≡ joined (waiting_at (states_in c.self.inside.waiting.entries)) c.in-Some.target (Reached c.in-Some-target.known.value) other

-- the states stay ahead with that state joined in
joined_waits : (g : Over) (c : After-get_mut g) (entries : List (ℕ × Box AbstractState g.row.A.Denot)) → IsJoined g c entries
    → IsProperPass (pass_state c.self.inside.flow.now.code c.self.inside.place c.args.edges.next entries)
joined_waits g c entries joined =
    let target = c.in-Some.target in
    let worklist = subst (λ (a : PassState). IsTargetAhead a.code a.place target) (sym c.self.view_is)
    (subst (λ (o : Option ℕ). IfSome o (IsTargetAhead c.args.self.now.code c.args.self.now.place)) c.in-Some.is c.requires.target) in
    joined_is_proper (states_in entries) (record { next = state_of c.args.edges.next; target = Reached c.in-Some-target.known.value })
    c.self.invariant
    (record {
      next = c.requires.proper.next;
      target = subst (λ (k : Option (Box AbstractState _)). IsProper (state_of k)) c.in-Some-target.is c.requires.proper.target;
    })
    worklist joined

-- the same, said of the arguments
are_joined : (g : Over) (c : After-get_mut g) (entries : List (ℕ × Box AbstractState g.row.A.Denot)) → IsJoined g c entries → (other : ℕ)
    → waiting_at (states_in entries) other
    ≡ joined_if (waiting_at c.args.self.now.waiting) c.args.target (state_of c.args.edges.target) other
are_joined g c entries is other =
    let known = Reached c.in-Some-target.known.value in
    is other
    ∙ ap (λ (a : PassState). joined (waiting_at a.waiting) c.in-Some.target known other) c.self.view_is
    ∙ ap (λ (o : Option ℕ). joined_if (waiting_at c.args.self.now.waiting) o known other) (sym c.in-Some.is)
    ∙ ap (λ (k : Option (Box AbstractState _)). joined_if (waiting_at c.args.self.now.waiting) c.args.target (state_of k) other)
    (sym c.in-Some-target.is)

pub returns-in_default-clause-proper_states : goal.returns-in_default-clause-proper_states
returns-in_default-clause-proper_states g c = joined_proper _ c.self.inside.place
    (state_of c.args.edges.next) c.self.invariant.proper c.requires.proper.next

pub returns-in_default-target-clause-proper_states : goal.returns-in_default-target-clause-proper_states
returns-in_default-target-clause-proper_states g c = joined_proper _ c.self.inside.place (state_of c.args.edges.next)
    c.self.invariant.proper c.requires.proper.next

pub join_with-requires-clause-proper : goal.join_with-requires-clause-proper
join_with-requires-clause-proper g c = subst IsProperState (sym c.deref_mut.ensures.value)
    (found_proper c.self.inside.waiting.entries c.in-Some.target (Some c.in-Some-get_mut.waiting.now) c.self.invariant.proper
    c.in-Some-get_mut.ensures.value)

-- the state that waits at the target is joined in place
in_place : (g : Over) (c : goal.After-drop-known g)
    → IsJoined g (goal.at.invariant_of-self-in-Some-get_mut g c).After-get_mut
    (c.get_mut.follows.lender (with_value c.in-Some-get_mut.waiting.now c.join_with.new.self)).entries
in_place g c =
    let waiting = c.in-Some-get_mut.waiting.now in
    let known = Reached c.in-Some-target.known.value in
    let joined_state = with_value waiting c.join_with.new.self in
    let joins = c.join_with.ensures.value in
    let borrowed = c.deref_mut.ensures.value in
    let other = subst (λ (k : Box AbstractState _). c.deref.result.now ≡ k.value) c.in-Some-target.known-is c.deref.ensures in
    let value : Reached joined_state.value ≡ join (Reached waiting.value) known = cc in
    let updates = (c.get_mut.follows.holds joined_state).3 (subst IsSome c.in-Some-get_mut.ensures.value refl) in
    waits_joined c.self.inside.waiting (c.get_mut.follows.lender joined_state) c.in-Some.target known updates c.in-Some-get_mut.ensures.value value

-- if no state waits at the target, the one on the edge is inserted
put_there : (g : Over) (c : goal.Joined-branch-2 g) → IsJoined g (goal.at.invariant_of-self-2 g c).After-get_mut c.insert.new.self.entries
put_there g c =
    let target = c.in-Some.target in
    let updates = subst (λ (m : BTreeMap ℕ (Box AbstractState _)). Updates nat_cmp m c.insert.new.self target (Some c.in-Some-target.known))
    c.get_mut.follows.holds-at-none (subst (λ (k : Box AbstractState _). Updates nat_cmp c.get_mut.follows.lender-at-none c.insert.new.self
    target (Some k)) c.in-Some-target.known-is c.in_ok-insert.ensures.updates) in
    waits_joined c.self.inside.waiting c.insert.new.self target (Reached c.in-Some-target.known.value) updates
    c.in_default-get_mut.ensures.value refl

pub invariant_of-self-in-Some-get_mut : goal.invariant_of-self-in-Some-get_mut
invariant_of-self-in-Some-get_mut g c = joined_waits g (goal.at.invariant_of-self-in-Some-get_mut g c).After-get_mut _ (in_place g c)

pub returns-in-Some-get_mut-clause-proper_states : goal.returns-in-Some-get_mut-clause-proper_states
returns-in-Some-get_mut-clause-proper_states g c = pending_proper _ (invariant_of-self-in-Some-get_mut g c)

pub returns-in-Some-get_mut-clause-waiting : goal.returns-in-Some-get_mut-clause-waiting
returns-in-Some-get_mut-clause-waiting g c = are_joined g (goal.at.invariant_of-self-in-Some-get_mut g c).After-get_mut _ (in_place g c)

pub returns-in_err-insert-clause-proper_states : goal.returns-in_err-insert-clause-proper_states
returns-in_err-insert-clause-proper_states g c = joined_proper _ c.self.inside.place (state_of c.args.edges.next)
    (subst (λ entries. AreProper (waiting_at (states_in entries)))
    (sym (c.in_err-insert.ensures.err ∙ ap (λ (m : BTreeMap ℕ (Box AbstractState _)). m.entries) c.get_mut.follows.holds-at-none))
    c.self.invariant.proper) c.requires.proper.next

pub invariant_of-self-2 : goal.invariant_of-self-2
invariant_of-self-2 g c = joined_waits g (goal.at.invariant_of-self-2 g c).After-get_mut _ (put_there g c)

pub returns-clause-proper_states : goal.returns-clause-proper_states
returns-clause-proper_states g c = pending_proper _ (invariant_of-self-2 g c)

pub returns-clause-waiting : goal.returns-clause-waiting
returns-clause-waiting g c = are_joined g (goal.at.invariant_of-self-2 g c).After-get_mut _ (put_there g c)
