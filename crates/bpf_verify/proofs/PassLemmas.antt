-- The pass: the states that it keeps are an annotation that is good up to its current place.
use Rattle.std.proofs.Common.{◌≡◌, ℕ, ℤ, pos, ◌≢◌, zero, suc, ◌+◌, ◌+ℤ◌, ◌<◌, ◌≤◌, ◌==◌, Bool, List, [], ◌∷◌, ◌++◌, length, Option}
use Rattle.std.proofs.Common.{Some, None, option_map, IfSome, Result, Ok, Err, nat_le, true, false, if◌then◌else◌, refl, sym, ap, ◌∙◌}
use Rattle.std.proofs.Common.{take, subst, arith, rules, inl, inr}
use Rattle.std.proofs.lemmas.Bool.{cases_lt}
use Rattle.std.proofs.lemmas.Bool.Decides.{nat_tests}
use Rattle.std.proofs.lemmas.Int.{ints}
use Rattle.std.proofs.lemmas.Option.{none-some}
use Rattle.std.specs.Prelude.{FitsSigned}
use Rattle.std.specs.Int.{w16}
use Rattle.std.specs.declared.boxed.Box.{Box}
use Rattle.bpf_insn.proofs.CodeLemmas.{length-spelling_positive}
use Rattle.bpf_insn.proofs.PlaceLemmas.{word_count-append, word_count-one}
use Rattle.bpf_insn.proofs.SpanLemmas.{nothing_within}
use Rattle.bpf_insn.specs.Code.{instruction_at, spelling, word_count}
use Rattle.bpf_insn.specs.Jump.{jump_distance}
use Rattle.bpf_insn.specs.declared.instruction.Insn.{Insn}
use Rattle.bpf_insn.specs.declared.memory.TheConstants.{FRAME_LENGTH}
use Rattle.bpf_flow.specs.Flow.{IsForward, target_of}
use Rattle.bpf_frame.proofs.ProperLemmas.{unwritten_is_proper}
use Rattle.bpf_kinds.specs.Kind as kind
use Rattle.bpf_kinds.specs.Offsets as offsets
use Rattle.bpf_insn.specs.declared.value.Area.{Area}
use Rattle.bpf_verify.specs.Annotation.{Annotation, PassesAt, IsGoodUpTo, IsLeastUpTo, Fails, IsAccepted, IsRefusedAt, IsVerifyFault}
use Rattle.bpf_verify.specs.Annotation.{area_of, areas_from}
use Rattle.bpf_verify.specs.Pass.{PassState, AreProper, IsRefusedVisit, IsVisitFault, Visits, initial, joined, joined_if, pending, propagated, state_of}
use Rattle.bpf_verify.specs.Pass.{visit_of, waiting_at}
use Rattle.bpf_verify.specs.Visit.{IsShown, IsShownRefusal, IsShownUpTo, Visit, visited_all, visits_from}
use Rattle.bpf_meaning.specs.declared.cause.Cause.{Cause}
use Rattle.bpf_verify.specs.LiftedState.{LiftedState, Unreached, Reached, Edges, AreEdgesWithin, entry, join, kind_of, IsProper}
use Rattle.bpf_verify.specs.LiftedState.{IsProperState, IsWithin}
use Rattle.bpf_verify.specs.Transfer.{transfer}
use Rattle.bpf_verify.specs.declared.fault.VerifyFault.{VerifyFault}
use Rattle.bpf_verify.specs.declared.fault.VerifyFault.TheVariants.{Refused, Memory}
use Rattle.bpf_verify.specs.declared.abstract_state.AbstractState.{AbstractState}
use Rattle.bpf_verify.proofs.AreaLemmas.{areas_from-more, areas_from-same, length-areas_from}
use Rattle.bpf_verify.proofs.VisitLemmas.{visited_all-more, visit-parts, visits_from-more, visits_from-same}
use Rattle.bpf_verify.proofs.MonotoneInstructions.{same_edges, upward}
use Rattle.bpf_verify.proofs.StateLaws as laws

-- the bottom changes nothing

pub join-bottom : (state : LiftedState) → join state Unreached ≡ state
join-bottom Unreached = refl
join-bottom (Reached known) = refl

pub is_found_proper : {A : Type 0} (found : Option (Box AbstractState A)) → IsProper (state_of found)
    → IfSome found (λ known. IsProperState known.value)
is_found_proper None proper = tt
is_found_proper (Some known) proper = proper

-- states with another one joined into one of them

pub same_place : (other place : ℕ) → (other == place) ≡ true → place ≡ other
same_place other place is = grind (arith, nat_tests)

pub joined_each : (P : ℕ → LiftedState → Type 0) (states : Annotation) (place : ℕ) (state : LiftedState)
    → P place (join (states place) state) → ((other : ℕ) → P other (states other)) → (other : ℕ) → P other (joined states place state other)
joined_each P states place state here others other = by (other == place) refl
  where
    by : (test : Bool) → (other == place) ≡ test → P other (if test then join (states other) state else states other)
    by true is = subst (λ (p : ℕ). P p (join (states p) state)) (same_place other place is) here
    by false is = others other

pub joined-here : (states : Annotation) (place : ℕ) (state : LiftedState) → joined states place state place ≡ join (states place) state
joined-here states place state = let same : (place == place) ≡ true = grind (arith, nat_tests) in rw same refl

pub joined-other : (states : Annotation) (place : ℕ) (state : LiftedState) (other : ℕ) → other ≢ place
    → joined states place state other ≡ states other
joined-other states place state other apart = let not : (other == place) ≡ false = grind (arith, nat_tests, apart) in rw not refl

pub joined-bottom : (states : Annotation) (place other : ℕ) → joined states place Unreached other ≡ states other
joined-bottom states place other = joined_each (λ other state. state ≡ states other) states place Unreached (join-bottom (states place))
    (λ other. refl) other

pub joined_if-bottom : (states : Annotation) (place : Option ℕ) (other : ℕ) → joined_if states place Unreached other ≡ states other
joined_if-bottom states None other = refl
joined_if-bottom states (Some place) other = joined-bottom states place other

-- if two annotations agree at a place, they still agree there after a join
pub joined-same : (states others : Annotation) (place : ℕ) (state : LiftedState) (other : ℕ) → states other ≡ others other
    → joined states place state other ≡ joined others place state other
joined-same states others place state other same = ap (λ (s : LiftedState). if other == place then join s state else s) same

pub joined_if-same : (states others : Annotation) (place : Option ℕ) (state : LiftedState) (other : ℕ) → states other ≡ others other
    → joined_if states place state other ≡ joined_if others place state other
joined_if-same states others None state other same = same
joined_if-same states others (Some place) state other same = joined-same states others place state other same

pub joined_proper : (states : Annotation) (place : ℕ) (state : LiftedState) → AreProper states → IsProper state
    → AreProper (joined states place state)
joined_proper states place state proper proper-state = joined_each (λ other. IsProper) states place state
    (laws.join_is_proper (states place) state (proper place) proper-state) proper

-- states with another one joined into them: they grow, and it is below the one at its place
record Takes (before after : Annotation) (place : Option ℕ) (state : LiftedState) : Type 0 where
  proper : AreProper after
  more : (other : ℕ) → IsWithin (before other) (after other)
  holds : (to : ℕ) → place ≡ Some to → IsWithin state (after to)
  least : (bound : LiftedState) (other : ℕ) → IsWithin (before other) bound → (place ≡ Some other → IsWithin state bound)
      → IsWithin (after other) bound

joined_takes : (states : Annotation) (place : Option ℕ) (state : LiftedState) → AreProper states → IsProper state
    → Takes states (joined_if states place state) place state
joined_takes states None state proper proper-state =
    record {
      proper = proper;
      more = λ other. laws.reflexive (states other);
      holds = λ to is. absurd (none-some to is);
      least =
          λ bound other below lower. below;
    }
joined_takes states (Some place) state proper proper-state = record {
  proper = joined_proper states place state proper proper-state;
  more = joined_each (λ other. IsWithin (states other)) states place state
      (laws.left_is_within_join (states place) state (proper place) proper-state) (λ other. laws.reflexive (states other));
  holds = λ to is.
      let same : place ≡ to = cc in
      subst (λ (p : ℕ). IsWithin state (joined states place state p)) same
      (subst (IsWithin state) (sym (joined-here states place state))
      (laws.right_is_within_join (states place) state (proper place) proper-state));
  least = λ bound other below lower. joined_each (λ at (pending : LiftedState). at ≡ other → IsWithin pending bound) states place state
      (λ same. laws.join_is_least (states place) state bound (proper place) proper-state
      (subst (λ (at : ℕ). IsWithin (states at) bound) (sym same) below) (lower (ap Some same)))
      (λ at same. subst (λ (at : ℕ). IsWithin (states at) bound) (sym same) below) other refl;
}

-- as the pass advances

-- an annotation is good up to the place after the instructions passed so far, and lies below every other such annotation; from there on it equals
-- the kept states, and the areas found are those of these instructions
pub record IsAnnotatedUpTo (code passed : List Insn) (worklist : PassState) (areas : List (Option Area)) (visits : List Visit) : Type 0 where
  pub of_code : worklist.code ≡ code
  pub at : worklist.place ≡ word_count passed
  pub proper : AreProper (pending worklist)
  pub annotation : Annotation
  pub good : IsGoodUpTo code worklist.place annotation
  pub least : (other : Annotation) → IsGoodUpTo code worklist.place other → (at : ℕ) → IsWithin (annotation at) (other at)
  pub is_pending : (other : ℕ) → worklist.place ≤ other → annotation other ≡ pending worklist other
  pub found : areas ≡ areas_from annotation 0 passed
  pub shown : visits ≡ visits_from annotation 0 passed

pub length-found : {code passed : List Insn} {worklist : PassState} {areas : List (Option Area)} {visits : List Visit}
    → IsAnnotatedUpTo code passed worklist areas visits → length areas ≡ length passed
length-found {passed = passed} progress = ap length progress.found ∙ length-areas_from progress.annotation 0 passed

pub not_both : (edges : Edges) (cause : Cause) (found : Result Edges Cause) → found ≡ Ok edges → found ≡ Err cause → ⊥
not_both edges cause found passes fails = cc

-- an instruction that passes its checks still does when other states grow
passes_more : (old new : Annotation) (place : ℕ) (insn : Insn) → new place ≡ old place → ((at : ℕ) → IsWithin (old at) (new at))
    → PassesAt old place insn → PassesAt new place insn
passes_more old new place insn same more passes = record {
  edges = passes.edges;
  passes = ap (λ (state : LiftedState). transfer state insn) same ∙ passes.passes;
  next = laws.transitive passes.edges.next (old (place + length (spelling insn))) (new (place + length (spelling insn))) passes.next
      (more (place + length (spelling insn)));
  target = λ distance to jumps leads. laws.transitive passes.edges.target (old to) (new to) (passes.target distance to jumps leads)
      (more to);
}

-- one annotation up to a place, and another one after it
abbrev spliced : Annotation → ℕ → Annotation → Annotation
spliced old place new other = if nat_le other place then old other else new other

spliced-old : (old new : Annotation) (place other : ℕ) → other ≤ place → spliced old place new other ≡ old other
spliced-old old new place other up = let is : nat_le other place ≡ true = grind (arith, nat_tests) in rw is refl

spliced-new : (old new : Annotation) (place other : ℕ) → place < other → spliced old place new other ≡ new other
spliced-new old new place other past = let is : nat_le other place ≡ false = grind (arith, nat_tests) in rw is refl

-- the target of a jump that leads on
target_is : (place to : ℕ) (target : Option ℕ) (distance : ℤ) (jump : Option ℤ) → option_map pos target ≡ option_map (target_of place) jump
    → jump ≡ Some distance → pos (place + 1) +ℤ distance ≡ pos to → target ≡ Some to
target_is place to target distance None same is leads = absurd (none-some distance is)
target_is place to None distance (Some by) same is leads = cc
target_is place to (Some found) distance (Some by) same is leads =
    let by_distance : by ≡ distance = cc in
    let there : pos found ≡ target_of place by = cc in
    let at : pos found ≡ pos to = there ∙ ap (target_of place) by_distance ∙ leads in
    let equal : found ≡ to = cc in ap Some equal

-- and the jump with this target
pub jump_of : (place to : ℕ) (target : Option ℕ) (jump : Option ℤ) → option_map pos target ≡ option_map (target_of place) jump
    → target ≡ Some to → (distance : ℤ) × (jump ≡ Some distance) × (pos (place + 1) +ℤ distance ≡ pos to)
jump_of place to None jump same is = absurd (none-some to is)
jump_of place to (Some found) None same is = absurd (let no : ⊥ = cc in no)
jump_of place to (Some found) (Some distance) same is =
    let here : found ≡ to = cc in
    let there : pos found ≡ target_of place distance = cc in
    (distance, refl, sym there ∙ ap pos here)

module _ (code passed : List Insn) (insn : Insn) (before after : PassState) (areas : List (Option Area)) (earlier : List Visit) (forward : IsForward code)
    (is_insn : instruction_at code before.place ≡ Some insn) (progress : IsAnnotatedUpTo code passed before areas earlier)
    (all_proper : AreProper (pending after)) (visits : Visits insn before after) where
  abbrev place : ℕ
  place = before.place

  abbrev next : ℕ
  next = after.place

  -- the next place
  next_is : next ≡ place + length (spelling insn)
  next_is = visits.place

  abbrev states : Annotation
  states = pending before

  abbrev middle : Annotation
  middle = joined_if states visits.target visits.edges.target

  first_edge : Takes states middle visits.target visits.edges.target
  first_edge = joined_takes states visits.target visits.edges.target progress.proper visits.proper.target

  second_edge : Takes middle (propagated states next visits.target visits.edges) (Some next) visits.edges.next
  second_edge = joined_takes middle (Some next) visits.edges.next first_edge.proper visits.proper.next

  abbrev annotation : Annotation
  annotation = spliced progress.annotation place (pending after)

  spliced_after : (other : ℕ) → place < other → annotation other ≡ propagated states next visits.target visits.edges other
  spliced_after other past = spliced-new progress.annotation (pending after) place other past ∙ visits.states other past

  -- past the place, the kept states have grown
  more : (other : ℕ) → IsWithin (progress.annotation other) (annotation other)
  more other = elim (cases_lt place other) as (λ _. IsWithin (progress.annotation other) (annotation other)) [
    | inl past ↦
        subst (λ (s : LiftedState). IsWithin s (annotation other)) (sym (progress.is_pending other (omega arith)))
        (subst (IsWithin (states other)) (sym (spliced_after other past))
        (laws.transitive (states other) (middle other) _ (first_edge.more other) (second_edge.more other)))
    | inr up ↦ subst (IsWithin (progress.annotation other)) (sym (spliced-old progress.annotation (pending after) place other up))
        (laws.reflexive (progress.annotation other))
  ]

  pending_here : annotation place ≡ states place
  pending_here = spliced-old progress.annotation (pending after) place place (omega arith) ∙ progress.is_pending place (omega arith)

  passes_here : PassesAt annotation place insn
  passes_here = record {
    edges = visits.edges;
    passes = ap (λ (state : LiftedState). transfer state insn) pending_here ∙ visits.passes;
    next =
        let long = length-spelling_positive insn in
        let later : place < next = omega (arith, next_is) in
        subst (λ (p : ℕ). IsWithin visits.edges.next (annotation p)) next_is
        (subst (IsWithin visits.edges.next) (sym (spliced_after next later)) (second_edge.holds next refl));
    target = λ distance to jumps leads.
        let on = forward.jumps place insn distance is_insn jumps in
        let same : on.target ≡ to = (let both : pos on.target ≡ pos to = sym on.is_target ∙ leads in cc) in
        let later : place < to = omega (arith, on.later) in
        subst (IsWithin visits.edges.target) (sym (spliced_after to later))
        (laws.transitive visits.edges.target (middle to) _
        (first_edge.holds to (target_is place to visits.target distance (jump_distance insn) visits.leads jumps leads))
        (second_edge.more to));
  }

  passes_up_to : (at : ℕ) (found : Insn) → at < next → instruction_at code at ≡ Some found → PassesAt annotation at found
  passes_up_to at found below is = elim (cases_lt at place) as (λ _. PassesAt annotation at found) [
    | inl earlier ↦ passes_more progress.annotation annotation at found (spliced-old progress.annotation (pending after) place at (omega arith)) more
        (progress.good.passes at found earlier is)
    | inr from ↦ elim (cases_lt place at) as (λ _. PassesAt annotation at found) [
      | inl inside ↦ absurd (none-some found (sym (nothing_within code place insn at is_insn inside (let end = next_is in omega arith)) ∙ is))
      | inr here ↦
          let same : place ≡ at = omega arith in
          let both : Some insn ≡ Some found = sym is_insn ∙ ap (instruction_at code) same ∙ is in
          let one : insn ≡ found = cc in
          subst (λ (p : ℕ). PassesAt annotation p found) same (subst (PassesAt annotation place) one passes_here)
    ]
  ]

  proper_everywhere : (other : ℕ) → IsProper (annotation other)
  proper_everywhere other = elim (cases_lt place other) as (λ _. IsProper (annotation other)) [
    | inl past ↦ subst IsProper (sym (spliced-new progress.annotation (pending after) place other past)) (all_proper other)
    | inr up ↦ subst IsProper (sym (spliced-old progress.annotation (pending after) place other up)) (progress.good.proper other)
  ]

  area_here : area_of (annotation (0 + word_count passed)) insn ≡ area_of (states place) insn
  area_here =
      let here : 0 + word_count passed ≡ place = omega (arith, progress.at) in
      ap (λ (p : ℕ). area_of (annotation p) insn) here ∙ ap (λ (state : LiftedState). area_of state insn) pending_here

  found_more : areas ++ area_of (states place) insn ∷ [] ≡ areas_from annotation 0 (passed ++ insn ∷ [])
  found_more =
      let earlier = areas_from-same progress.annotation annotation place 0 passed (spliced-old progress.annotation (pending after) place)
      (let at = progress.at in omega arith) in
      ap (λ (found : List (Option Area)). found ++ area_of (states place) insn ∷ []) (progress.found ∙ sym earlier)
      ∙ ap (λ (area : Option Area). areas_from annotation 0 passed ++ area ∷ []) (sym area_here)
      ∙ sym (areas_from-more annotation 0 passed insn)

  visit_here : (0 + word_count passed ≡ place) × (annotation (0 + word_count passed) ≡ states place)
  visit_here =
      let here : 0 + word_count passed ≡ place = omega (arith, progress.at) in
      (here, ap annotation here ∙ pending_here)

  shown_more : earlier ++ visit_of before insn ∷ [] ≡ visits_from annotation 0 (passed ++ insn ∷ [])
  shown_more =
      let same = visits_from-same progress.annotation annotation place 0 passed (spliced-old progress.annotation (pending after) place)
      (let at = progress.at in omega arith) in
      ap (λ (visits : List Visit). visits ++ visit_of before insn ∷ []) (progress.shown ∙ sym same)
      ∙ ap (λ (visit : Visit). visits_from annotation 0 passed ++ visit ∷ []) (visit-parts _ insn _ (sym visit_here.0) (sym visit_here.1))
      ∙ sym (visits_from-more annotation 0 passed insn)

  -- It lies below every other annotation that is good so far: the other state here is above ours, and so are its edges, so the kept states that the
  -- edges lead to stay below it.
  module _ (other : Annotation) (good : IsGoodUpTo code next other) where
    good_before : IsGoodUpTo code place other
    good_before = record {
      proper = good.proper;
      entry = good.entry;
      passes =
          λ earlier found below is. good.passes earlier found (let end = next_is in omega arith) is;
    }

    passes : PassesAt other place insn
    passes = good.passes place insn (let long = length-spelling_positive insn in let end = next_is in omega arith) is_insn

    here_below : IsWithin (states place) (other place)
    here_below = subst (λ (s : LiftedState). IsWithin s (other place)) (progress.is_pending place (omega arith))
        (progress.least other good_before place)

    edges_below : AreEdgesWithin visits.edges passes.edges
    edges_below =
        let lower = upward insn (states place) (other place) passes.edges (progress.proper place) (good.proper place) here_below passes.passes in
        subst (λ (edges : Edges). AreEdgesWithin edges passes.edges)
        (same_edges lower.0 visits.edges (transfer (states place) insn) lower.1 visits.passes) lower.2

    pending_below : (at : ℕ) → place < at → IsWithin (states at) (other at)
    pending_below at past = subst (λ (s : LiftedState). IsWithin s (other at)) (progress.is_pending at (omega arith))
        (progress.least other good_before at)

    target_below : (at : ℕ) → visits.target ≡ Some at → IsWithin visits.edges.target (other at)
    target_below at is =
        let jump = jump_of place at visits.target (jump_distance insn) visits.leads is in
        laws.transitive visits.edges.target passes.edges.target (other at) edges_below.target (passes.target jump.0 at jump.1 jump.2)

    next_below : (at : ℕ) → Some next ≡ Some at → IsWithin visits.edges.next (other at)
    next_below at is =
        let same : place + length (spelling insn) ≡ at = (let both : next ≡ at = cc in sym next_is ∙ both) in
        subst (λ (p : ℕ). IsWithin visits.edges.next (other p)) same
        (laws.transitive visits.edges.next passes.edges.next (other (place + length (spelling insn))) edges_below.next passes.next)

    least_here : (at : ℕ) → IsWithin (annotation at) (other at)
    least_here at = elim (cases_lt place at) as (λ _. IsWithin (annotation at) (other at)) [
      | inl past ↦
          subst (λ (s : LiftedState). IsWithin s (other at)) (sym (spliced_after at past))
          (second_edge.least (other at) at (first_edge.least (other at) at (pending_below at past) (target_below at)) (next_below at))
      | inr up ↦ subst (λ (s : LiftedState). IsWithin s (other at)) (sym (spliced-old progress.annotation (pending after) place at up))
          (progress.least other good_before at)
    ]

  -- one more instruction
  pub continues : IsAnnotatedUpTo code (passed ++ insn ∷ []) after (areas ++ area_of (states place) insn ∷ []) (earlier ++ visit_of before insn ∷ [])
  continues = record {
    of_code = visits.code ∙ progress.of_code;
    at = let more = word_count-append passed (insn ∷ []) in let one = word_count-one insn in let at = progress.at in let end = next_is in
        omega arith;
    proper = all_proper;
    annotation = annotation;
    good = record {
      proper = proper_everywhere;
      entry = laws.transitive (Reached entry) (progress.annotation 0) (annotation 0) progress.good.entry (more 0);
      passes = passes_up_to;
    };
    least = least_here;
    is_pending = λ other past. let long = length-spelling_positive insn in
        spliced-new progress.annotation (pending after) place other (let end = next_is in omega arith);
    found = found_more;
    shown = shown_more;
  }

-- If a check fails in a state, some check fails in every state above it, because if none fails, none fails below.
fails_above : (insn : Insn) (lower higher : LiftedState) (cause : Cause) → IsProper lower → IsProper higher → IsWithin lower higher
    → transfer lower insn ≡ Err cause → Fails higher insn
fails_above insn lower higher cause proper above within fails = by_result (transfer higher insn) refl
  where
    by_result : (found : Result Edges Cause) → transfer higher insn ≡ found → (why : Cause) × (transfer higher insn ≡ Err why)
    by_result (Err why) found = (why, found)
    by_result (Ok edges) found =
        let passes = upward insn lower higher edges proper above within found in
        absurd (not_both passes.0 cause (transfer lower insn) passes.1 fails)

-- a visit that is refused
pub refuses : {code passed : List Insn} {insn : Insn} {worklist : PassState} {areas : List (Option Area)} {visits : List Visit} (fault : VerifyFault)
    → instruction_at code worklist.place ≡ Some insn → IsAnnotatedUpTo code passed worklist areas visits → IsVisitFault worklist insn fault
    → IsVerifyFault code fault
refuses Memory is_insn progress fault = tt
refuses {code} {insn} {worklist} (Refused at cause) is_insn progress fault =
    subst (λ (p : ℕ). IsRefusedAt code p cause) (sym fault.0)
    (record {
      annotation = progress.annotation;
      is_least = record { good = progress.good; least = λ other good at before. progress.least other good at };
      insn = insn;
      is_insn = is_insn;
      fails = here;
      always = λ other good. fails_above insn (progress.annotation worklist.place) (other worklist.place) cause (progress.good.proper worklist.place)
          (good.proper worklist.place) (progress.least other good worklist.place) here;
    })
  where
    here : transfer (progress.annotation worklist.place) insn ≡ Err cause
    here = ap (λ (state : LiftedState). transfer state insn) (progress.is_pending worklist.place (omega arith) ∙ ap (pending worklist) (sym fault.0))
        ∙ fault.1

-- at the start

at_proper : (offset : ℤ) → FitsSigned w16 offset → offsets.IsProper (offsets.between offset offset)
at_proper offset fits = record { ordered = omega (arith, ints); low = fits; high = fits }

entry_kinds : (register : ℕ) → kind.IsProper (kind_of entry register)
entry_kinds (suc zero) = at_proper (pos 0) (search rules)
entry_kinds (suc (suc (suc (suc (suc (suc (suc (suc (suc (suc zero)))))))))) = at_proper (pos FRAME_LENGTH) (search rules)
entry_kinds register = tt

pub entry_is_proper : IsProperState entry
entry_is_proper = record { count = refl; kinds = entry_kinds; frame = unwritten_is_proper }

-- at the start, only place 0 is reached

pub initial_states_are_proper : (code : List Insn) → AreProper (pending (initial code))
initial_states_are_proper code = joined_proper (waiting_at []) 0 (Reached entry) (λ place. tt) entry_is_proper

initial_states_are_least : (code : List Insn) (other : Annotation) → IsWithin (Reached entry) (other 0) → (at : ℕ)
    → IsWithin (pending (initial code) at) (other at)
initial_states_are_least code other entered = joined_each (λ at state. IsWithin state (other at)) (waiting_at []) 0 (Reached entry) entered
    (λ at. tt)

pub starts : (code : List Insn) (worklist : PassState) → worklist ≡ initial code → IsAnnotatedUpTo code [] worklist [] []
starts code worklist is = subst (λ (worklist : PassState). IsAnnotatedUpTo code [] worklist [] []) (sym is) (record {
  of_code = refl;
  at = refl;
  proper = initial_states_are_proper code;
  annotation = pending (initial code);
  good = record {
    proper = initial_states_are_proper code;
    entry = laws.reflexive (Reached entry);
    passes = λ place insn before is_insn. absurd (omega arith);
  };
  least = λ other good. initial_states_are_least code other good.entry;
  is_pending = λ other past. refl;
  found = refl;
  shown = refl;
})

-- at the end

pub accepts : (code passed : List Insn) (worklist : PassState) (areas : List (Option Area)) {visits : List Visit} → passed ≡ code
    → IsAnnotatedUpTo code passed worklist areas visits → IsAccepted code areas
accepts code passed worklist areas all progress = record {
  annotation = progress.annotation;
  is_least = subst (λ (p : ℕ). IsLeastUpTo code p progress.annotation) (progress.at ∙ ap word_count all)
      (record { good = progress.good; least = λ other good at before. progress.least other good at });
  are = progress.found ∙ ap (areas_from progress.annotation 0) all;
}

-- what a visitor was shown

-- of all instructions
pub shows : {V : Type 0} (visited : V → Visit → V) {code passed : List Insn} {worklist : PassState} {areas : List (Option Area)}
    {visits : List Visit} (old new : V) → passed ≡ code → IsAnnotatedUpTo code passed worklist areas visits → new ≡ visited_all visited old visits
    → IsShown visited code old new
shows visited {code} old new all progress shown = record {
  annotation = progress.annotation;
  is_least = subst (λ (p : ℕ). IsLeastUpTo code p progress.annotation) (progress.at ∙ ap word_count all)
      (record { good = progress.good; least = λ other good at before. progress.least other good at });
  shown = shown ∙ ap (visited_all visited old) (progress.shown ∙ ap (visits_from progress.annotation 0) all);
}

-- the instructions before an index were visited
module _ {V : Type 0} (visited : V → Visit → V) {code : List Insn} (index : ℕ) {worklist : PassState} {areas : List (Option Area)}
    {visits : List Visit} (old : V) {now : V} (progress : IsAnnotatedUpTo code (take index code) worklist areas visits)
    (so_far : now ≡ visited_all visited old visits) (insn : Insn) (one_more : take (index + 1) code ≡ take index code ++ insn ∷ []) where
  -- and so was one more
  shows_one_more : visited now (visit_of worklist insn) ≡ visited_all visited old (visits_from progress.annotation 0 (take (index + 1) code))
  shows_one_more =
      let here : worklist.place ≡ 0 + word_count (take index code) = omega (arith, progress.at) in
      let state : pending worklist worklist.place ≡ progress.annotation (0 + word_count (take index code)) =
      sym (progress.is_pending worklist.place (omega arith)) ∙ ap progress.annotation here in
      ap (λ visitor. visited visitor (visit_of worklist insn)) so_far ∙ visited_all-more visited old visits (visit_of worklist insn)
      ∙ ap (λ visits. visited_all visited old (visits ++ visit_of worklist insn ∷ [])) progress.shown
      ∙ ap (λ visit. visited_all visited old (visits_from progress.annotation 0 (take index code) ++ visit ∷ []))
      (visit-parts worklist.place insn (pending worklist worklist.place) here state)
      ∙ ap (visited_all visited old) (sym (visits_from-more progress.annotation 0 (take index code) insn))
      ∙ ap (λ passed. visited_all visited old (visits_from progress.annotation 0 passed)) (sym one_more)

  -- whose check failed
  pub shows_refusal : (new : V) (fault : VerifyFault) → IsVisitFault worklist insn fault
      → IsRefusedVisit visited (visit_of worklist insn) fault now new → IsShownRefusal visited code fault old new
  shows_refusal new Memory fails last = tt
  shows_refusal new (Refused at cause) fails last =
      subst (λ (p : ℕ). IsShownUpTo visited code p old new) (sym fails.0)
      (record {
        annotation = progress.annotation;
        is_least = record { good = progress.good; least = λ other good at before. progress.least other good at };
        index = index;
        at = progress.at;
        shown = last ∙ shows_one_more;
      })
