-- The states ahead of the pass wait at targets of jumps that were passed.
use Rattle.std.proofs.Common.{◌≡◌, ◌≢◌, ℕ, pos, ◌+◌, ◌<◌, ◌≤◌, ◌==◌, Bool, cond, if◌then◌else◌, true, false, List, [], ◌∷◌, length, Option}
use Rattle.std.proofs.Common.{Some, None, IfSome, IsSome, refl, sym, ap, ◌∙◌, subst, arith, inl, inr}
use Rattle.std.proofs.lemmas.Bool.{cases_lt, false≢true}
use Rattle.std.proofs.lemmas.Bool.Decides.{nat_tests}
use Rattle.std.specs.BTreeMap.{BTreeMap, Updates, is_at}
use Rattle.std.specs.Map.{lookup}
use Rattle.std.specs.Option.{unwrap_or}
use Rattle.std.specs.Ordering.{nat_cmp}
use Rattle.std.specs.declared.boxed.Box.{Box}
use Rattle.bpf_insn.proofs.CodeLemmas.{length-spelling_positive}
use Rattle.bpf_insn.proofs.SpanLemmas.{nothing_within}
use Rattle.bpf_insn.specs.Code.{instruction_at, spelling}
use Rattle.bpf_insn.specs.declared.instruction.Insn.{Insn}
use Rattle.bpf_flow.specs.Flow.{IsForward}
use Rattle.bpf_verify.specs.Pass.{PassState, IsProperPass, AreProper, IsTargetAhead, initial, joined, joined_if, pending, propagated, state_of}
use Rattle.bpf_verify.specs.Pass.{states_in, waiting_at}
use Rattle.bpf_verify.specs.LiftedState.{LiftedState, Unreached, Reached, Edges, join, IsProper, IsProperState, AreProperEdges}
use Rattle.bpf_verify.specs.declared.abstract_state.AbstractState.{AbstractState}
use Rattle.bpf_verify.proofs.PassLemmas.{entry_is_proper, is_found_proper, joined-here, joined-other, joined-same, joined_each}
use Rattle.bpf_verify.proofs.PassLemmas.{joined_if-same, joined_proper, same_place}

-- targets of jumps that were passed

-- an instruction that begins after another one's first word begins after all of its words
next_not_after : (code : List Insn) (place : ℕ) (insn : Insn) (to : ℕ) → instruction_at code place ≡ Some insn
    → IsSome (instruction_at code to) → place < to → place + length (spelling insn) ≤ to
next_not_after code place insn to is_insn begins past = elim (cases_lt to (place + length (spelling insn))) as
    (λ _. place + length (spelling insn) ≤ to) [
      | inl inside ↦ absurd (none-is_some (instruction_at code to) (nothing_within code place insn to is_insn past inside) begins)
      | inr beyond ↦ beyond
    ]
  where
    none-is_some : (found : Option Insn) → found ≡ None → IsSome found → ⊥
    none-is_some None is some = false≢true some
    none-is_some (Some insn) is some = absurd (let no : ⊥ = cc in no)

-- the place after the instruction at a place
record IsNext (code : List Insn) (place next : ℕ) : Type 0 where
  insn : Insn
  is_insn : instruction_at code place ≡ Some insn
  next_is : next ≡ place + length (spelling insn)

-- a target ahead, other than the place itself, is still ahead after the instruction there
target_still_ahead : {code : List Insn} {place next : ℕ} → IsForward code → IsNext code place next → {to : ℕ} → to ≢ place
    → IsTargetAhead code place to → IsTargetAhead code next to
target_still_ahead {code} {place} forward is_next {to} apart target =
    let on = forward.jumps target.jump target.jumps.insn target.distance target.jumps.is_insn target.jumps.jumps in
    let same : on.target ≡ to = (let both : pos on.target ≡ pos to = sym on.is_target ∙ target.leads in cc) in
    let long = length-spelling_positive is_next.insn in
    let next_is = is_next.next_is in
    let from = target.not_before in
    let past : place < to = grind (arith, from, apart) in
    record {
      jump = target.jump;
      passed = (let passed = target.passed in omega (arith, next_is));
      distance = target.distance;
      jumps = target.jumps;
      leads = target.leads;
      not_before = (let behind = next_not_after code place is_next.insn to is_next.is_insn
          (subst (λ (p : ℕ). IsSome (instruction_at code p)) same on.begins) past in omega (arith, next_is));
    }

-- at the start

pub initial_is_proper : (code : List Insn) → IsForward code → IsProperPass (initial code)
initial_is_proper code forward = record {
  forward = forward;
  straight = entry_is_proper;
  proper = λ place. tt;
  wait =
      λ to waits. absurd (waits refl);
}

-- what waits, as found in the map

test_is : (place other : ℕ) → is_at (nat_cmp place) other ≡ (place == other)
test_is place other = grind (arith, nat_tests)

pub waits : {A : Type 0} (entries : List (ℕ × Box AbstractState A)) (place : ℕ)
    → waiting_at (states_in entries) place ≡ state_of (lookup (is_at (nat_cmp place)) entries)
waits [] place = refl
waits {A} (known ∷ others) place = by (waits others place) (place == known.0) (is_at (nat_cmp place) known.0) (sym (test_is place known.0))
  where
    by : waiting_at (states_in others) place ≡ state_of (lookup (is_at (nat_cmp place)) others) → (here test : Bool) → here ≡ test
        → unwrap_or (cond here (Some (Reached known.1.value)) (lookup (λ at. place == at) (states_in others))) Unreached ≡ state_of
        (cond test (Some known.1) (lookup (is_at (nat_cmp place)) others))
    by rest true true same = refl
    by rest false false same = rest
    by rest true false same = absurd (let no : ⊥ = cc in no)
    by rest false true same = absurd (let no : ⊥ = cc in no)

-- a map with one entry changed or removed
pub waits_after : {A : Type 0} (old new : BTreeMap ℕ (Box AbstractState A)) (place : ℕ) (put : Option (Box AbstractState A))
    → Updates nat_cmp old new place put → (other : ℕ)
    → waiting_at (states_in new.entries) other ≡ (if other == place then state_of put else waiting_at (states_in old.entries) other)
waits_after {A} old new place put updates other = waits new.entries other ∙ ap state_of (updates.0 other)
    ∙ by (other == place) (is_at (nat_cmp place) other) refl (test_is place other)
  where
    by : (here test : Bool) → (other == place) ≡ here → test ≡ (place == other)
        → state_of (cond test put (lookup (is_at (nat_cmp other)) old.entries)) ≡ (if here then state_of put else waiting_at
        (states_in old.entries) other)
    by true true here test = refl
    by false false here test = sym (waits old.entries other)
    by true false here test = absurd (grind (arith, nat_tests))
    by false true here test = absurd (grind (arith, nat_tests))

-- what is found at a place
pub found_proper : {A : Type 0} (entries : List (ℕ × Box AbstractState A)) (place : ℕ) (found : Option (Box AbstractState A))
    → AreProper (waiting_at (states_in entries)) → found ≡ lookup (is_at (nat_cmp place)) entries
    → IfSome found (λ known. IsProperState known.value)
found_proper entries place found proper is = is_found_proper found
    (subst IsProper (waits entries place ∙ sym (ap state_of is)) (proper place))

-- what is found at a place is joined with another state
pub waits_joined : {A : Type 0} (old new : BTreeMap ℕ (Box AbstractState A)) (place : ℕ) {there : Option (Box AbstractState A)} {joined_state : Box AbstractState A}
    (state : LiftedState) → Updates nat_cmp old new place (Some joined_state) → there ≡ lookup (is_at (nat_cmp place)) old.entries
    → Reached joined_state.value ≡ join (state_of there) state → (other : ℕ)
    → waiting_at (states_in new.entries) other ≡ joined (waiting_at (states_in old.entries)) place state other
waits_joined old new place {joined_state} state updates found value = λ other.
    waits_after old new place (Some joined_state) updates other ∙ by other (other == place) refl
  where
    by : (other : ℕ) (test : Bool) → (other == place) ≡ test
        → (if test then Reached joined_state.value else waiting_at (states_in old.entries) other)
        ≡ (if test then join (waiting_at (states_in old.entries) other) state else waiting_at (states_in old.entries) other)
    by other true is =
        subst (λ (p : ℕ). Reached joined_state.value ≡ join (waiting_at (states_in old.entries) p) state) (same_place other place is)
        (value ∙ ap (λ (s : LiftedState). join s state) (ap state_of found ∙ sym (waits old.entries place)))
    by other false is = refl

-- states with one taken

abbrev pub IsTaken : List (ℕ × LiftedState) → List (ℕ × LiftedState) → ℕ → Type 0
IsTaken old new place = (other : ℕ) → waiting_at new other ≡ (if other == place then Unreached else waiting_at old other)

-- each state that is left was there before
left_each : (P : ℕ → LiftedState → Type 0) (old new : List (ℕ × LiftedState)) (place : ℕ) → IsTaken old new place
    → ((other : ℕ) → P other Unreached) → ((other : ℕ) → other ≢ place → P other (waiting_at old other)) → (other : ℕ)
    → P other (waiting_at new other)
left_each P old new place taken bottom others other = subst (P other) (sym (taken other)) (by (other == place) refl)
  where
    by : (test : Bool) → (other == place) ≡ test → P other (if test then Unreached else waiting_at old other)
    by true is = bottom other
    by false is = others other (λ same. grind (arith, nat_tests))

-- the states that are kept stay ahead

pub pending_proper : (worklist : PassState) → IsProperPass worklist → AreProper (pending worklist)
pending_proper worklist are = joined_proper (waiting_at worklist.waiting) worklist.place worklist.straight are.proper are.straight

abbrev with_states : PassState → LiftedState → List (ℕ × LiftedState) → PassState
with_states worklist straight waiting = record { code = worklist.code; place = worklist.place; straight = straight; waiting = waiting }

-- the state on the edge to the target of a jump that was passed is joined into those that wait
pub joined_is_proper : {worklist : PassState} (waiting : List (ℕ × LiftedState)) {to : ℕ} (edges : Edges) → IsProperPass worklist → AreProperEdges edges
    → IsTargetAhead worklist.code worklist.place to
    → ((other : ℕ) → waiting_at waiting other ≡ joined (waiting_at worklist.waiting) to edges.target other)
    → IsProperPass (with_states worklist edges.next waiting)
joined_is_proper {worklist} waiting {to} edges are proper target is = record {
  forward = are.forward;
  straight = proper.next;
  proper = λ other. subst IsProper (sym (is other)) (joined_proper (waiting_at worklist.waiting) to edges.target are.proper proper.target other);
  wait = λ other.
      subst (λ (s : LiftedState). s ≢ Unreached → IsTargetAhead worklist.code worklist.place other) (sym (is other))
      (joined_each (λ p s. s ≢ Unreached → IsTargetAhead worklist.code worklist.place p) (waiting_at worklist.waiting) to edges.target
      (λ waits. target) are.wait other);
}

-- the state at the place was taken, and the pass moves on past the instruction there
pub advanced_is_proper : (worklist : PassState) (waiting : List (ℕ × LiftedState)) (next : ℕ) (insn : Insn) → IsProperPass worklist
    → instruction_at worklist.code worklist.place ≡ Some insn → next ≡ worklist.place + length (spelling insn)
    → IsTaken worklist.waiting waiting worklist.place
    → IsProperPass (record { code = worklist.code; place = next; straight = Unreached; waiting = waiting })
advanced_is_proper worklist waiting next insn are is_insn next_is taken = record {
  forward = are.forward;
  straight = tt;
  proper = left_each (λ other. IsProper) worklist.waiting waiting worklist.place taken (λ other. tt) (λ other apart. are.proper other);
  wait = left_each (λ other s. s ≢ Unreached → IsTargetAhead worklist.code next other) worklist.waiting waiting worklist.place taken
      (λ other waits. absurd (waits refl))
      (λ other apart waits. target_still_ahead are.forward (record { insn = insn; is_insn = is_insn; next_is = next_is }) apart (are.wait other waits));
}

-- past the place, they wait as before
pub others_unchanged : (old new : List (ℕ × LiftedState)) (place other : ℕ) → IsTaken old new place → place < other
    → waiting_at new other ≡ waiting_at old other
others_unchanged old new place other taken past =
    let apart : (other == place) ≡ false = grind (arith, nat_tests) in
    taken other ∙ ap (λ (test : Bool). if test then Unreached else waiting_at old other) apart

-- the state at the current place of the pass
pub here_is : (worklist : PassState) (there straight : LiftedState) → there ≡ waiting_at worklist.waiting worklist.place → straight ≡ worklist.straight
    → join there straight ≡ pending worklist worklist.place
here_is worklist there straight waits edge =
    ap (λ (s : LiftedState). join s straight) waits ∙ ap (join (waiting_at worklist.waiting worklist.place)) edge
    ∙ sym (joined-here (waiting_at worklist.waiting) worklist.place worklist.straight)

-- after a visit

at_other : (worklist : PassState) (other : ℕ) → worklist.place < other → waiting_at worklist.waiting other ≡ pending worklist other
at_other worklist other past = sym (joined-other (waiting_at worklist.waiting) worklist.place worklist.straight other (λ same. absurd (omega arith)))

-- past the place, the states are those from before, with the states on the edges propagated
abbrev pub ArePropagated : PassState → PassState → Option ℕ → Edges → Type 0
ArePropagated before after target edges =
    (other : ℕ) → before.place < other → pending after other ≡ propagated (pending before) after.place target edges other

-- the state at the place was taken, and the states on the edges were propagated
pub visited_states : (before middle after : PassState) (target : Option ℕ) (edges : Edges)
    → ((other : ℕ) → before.place < other → waiting_at middle.waiting other ≡ waiting_at before.waiting other)
    → ((other : ℕ) → waiting_at after.waiting other ≡ joined_if (waiting_at middle.waiting) target edges.target other)
    → after.straight ≡ edges.next → ArePropagated before after target edges
visited_states before middle after target edges left waits straight = λ other past.
    ap (λ (s : LiftedState). joined (waiting_at after.waiting) after.place s other) straight
    ∙ joined-same (waiting_at after.waiting) (joined_if (pending before) target edges.target) after.place edges.next other
    (waits other ∙ joined_if-same (waiting_at middle.waiting) (pending before) target edges.target other
    (left other past ∙ at_other before other past))
