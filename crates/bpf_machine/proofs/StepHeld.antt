-- A step of the bare machine on the words of a state that a run reaches: what it requires, and what it does.
use Rattle.std.proofs.Common.{◌≡◌, ℕ, ◌+◌, ◌<◌, List, length, get_or, Option, Some, None, IfSome, Result, Ok, Err, refl, sym, ap, ◌∙◌}
use Rattle.std.proofs.Common.{subst}
use Rattle.std.specs.Int.{cast_unsigned, w32}
use Rattle.bpf_insn.specs.Code.{index_at, instruction_at, place_of, spelling}
use Rattle.bpf_insn.specs.declared.instruction.Insn.{Insn}
use Rattle.bpf_insn.specs.declared.instruction.Insn.TheVariants.{Call, Load}
use Rattle.bpf_insn.specs.declared.value.Area.{Area}
use Rattle.bpf_insn.specs.declared.value.Area.TheVariants.{Frame}
use Rattle.bpf_insn.specs.declared.value.Value.{Value}
use Rattle.bpf_insn.specs.declared.value.Value.TheVariants as value
use Rattle.bpf_insn.proofs.SpanLemmas.{place_of-more}
use Rattle.bpf_helpers.specs.Call.{MeetsSignature}
use Rattle.bpf_helpers.specs.Helper.{by_number, signature}
use Rattle.bpf_helpers.specs.declared.helper.Helper.{Helper}
use Rattle.bpf_flat_insn.specs.Flat.{JumpsTo, KeepsArea, area_of, insn_of, target_of}
use Rattle.bpf_flat_insn.specs.declared.flat.FlatInsn.{FlatInsn}
use Rattle.tl_segments.specs.Segment.{SegmentParts, IsSegment}
use Rattle.bpf_meaning.specs.Checks.{◌>>=◌, Sound}
use Rattle.bpf_meaning.specs.Effect as effect
use Rattle.bpf_meaning.specs.State.{register_value}
use Rattle.bpf_meaning.specs.Step.{Configuration, Running, Exited, after, apply, next_of as next_configuration}
use Rattle.bpf_meaning.specs.declared.cause.Cause.{Cause}
use Rattle.bpf_meaning.specs.declared.effect.Effect.{Effect}
use Rattle.bpf_meaning.specs.declared.state.State.{State}
use Rattle.bpf_meaning.proofs.CallLemmas.{IfPasses}
use Rattle.bpf_meaning.proofs.WellFormedLemmas.{run_bytes, run_well_formed}
use Rattle.bpf_verify.specs.Verified.{AreVerified, IsPointerInto}
use Rattle.bpf_machine.specs.Machine.{Does, HoldsState, IsReachable, IsReached, StepsTo}
use Rattle.bpf_machine.specs.Words.{Continues, Ends, Holds, HoldsEffect, HoldsNext, MeetsCall, Next, PointsOnlyInto, Words, argument_words}
use Rattle.bpf_machine.specs.Words.{next_of, next_words, words_of}
use Rattle.bpf_machine.specs.declared.bare.Answer.{Answer}
use Rattle.bpf_machine.specs.declared.bare.Bare.{Bare}
use Rattle.bpf_machine.proofs.EntryLemmas.{place_found, instruction_at-place_of, within_code}
use Rattle.bpf_machine.proofs.MachineLemmas.{is_never_stuck}
use Rattle.bpf_machine.proofs.WordCalls.{call_meets}
use Rattle.bpf_machine.proofs.WordWalk.{walk_held}

-- the areas that the registers of a state point into

abbrev pointed_into : Value → Area
pointed_into (value.Pointer pointer) = pointer.area
pointed_into other = Frame

points_there : (v : Value) → PointsOnlyInto v (pointed_into v)
points_there (value.Pointer pointer) = refl
points_there v = tt

abbrev areas_in : State → ℕ → Area
areas_in state register = pointed_into (register_value state register)

-- the base of a load points into the area that is known for it
abbrev KnowsBase : (ℕ → Area) → Insn → Option Area → Type 0
KnowsBase areas (Load format destination base offset) area = area ≡ Some (areas base.number)
KnowsBase areas insn area = Unit {0}

knows_base : (held : Value) (area : Option Area) → IsPointerInto held area → area ≡ Some (pointed_into held)
knows_base held area points = points.into ∙ ap (λ (v : Value). Some (pointed_into v)) (sym points.is)

-- the flat form of an instruction leads where the instruction does

module _ (segment : SegmentParts) (areas : ℕ → Area) (words : Words) (next target : ℕ) where
  flat_leads : (insn : Insn) (area : Option Area) (flat : FlatInsn) → KeepsArea insn area flat → KnowsBase areas insn area
      → next_words segment areas words next target insn ≡ next_words segment (λ register. area_of flat) words next target insn
  unfolding next_words
  flat_leads (Load format destination base offset) None flat keeps knows = absurd (let no : ⊥ = cc in no)
  flat_leads (Load format destination base offset) (Some area) flat keeps knows =
      let same : areas base.number ≡ area_of flat = cc in
      ap (λ (a : Area). next_words segment (λ register. a) words next target (Load format destination base offset)) same
  flat_leads insn area flat keeps knows = refl

-- what passes all checks

passes_first : {A B : Type 0} (Q : Type 0) (first : Result A Cause) (others : A → Result B Cause) (end : B) → IfPasses (λ x. Q) first
    → first >>= others ≡ Ok end → Q
passes_first Q (Ok x) others end all is = all
passes_first Q (Err cause) others end all is = absurd (let no : ⊥ = cc in no)

-- if calls pass their checks, their words meet the prototype
abbrev CallsMeet : State → Words → Type 0
CallsMeet state words =
    (helper : Helper)
    → IfPasses (λ change. MeetsSignature helper (argument_words words (signature helper).arguments)) (effect.call_helper state helper)

meets_call : (code : List Insn) (state : State) (words : Words) (next : ℕ) (found : Option Helper) {does : Effect}
    → CallsMeet state words → effect.call_change state found >>= effect.continue_with code next ≡ Ok does
    → IfSome found (λ helper. MeetsSignature helper (argument_words words (signature helper).arguments))
meets_call code state words next None meets is = tt
meets_call code state words next (Some helper) {does} meets is =
    passes_first _ (effect.call_helper state helper) (effect.continue_with code next) does (meets helper) is

calls_meet : (code : List Insn) (segment : SegmentParts) (state : State) (words : Words) (next : ℕ) (insn : Insn) {does : Effect}
    → CallsMeet state words → effect.instruction_effect code segment state next insn ≡ Ok does → MeetsCall words insn
calls_meet code segment state words next (Call immediate) meets is =
    meets_call code state words next (by_number (cast_unsigned w32 immediate)) meets is
calls_meet code segment state words next insn meets is = tt

sound_passes : {A B : Type 0} (Holds : A → B → Type 0) (result : Result A Cause) (other : Result B Cause) (x : A) → Sound Holds result other
    → result ≡ Ok x → (y : B) × (other ≡ Ok y) × Holds x y
sound_passes Holds (Ok first) (Ok y) x sound is = (y, refl, let same : first ≡ x = cc in subst (λ z. Holds z y) same sound)
sound_passes Holds (Ok first) (Err cause) x sound is = absurd sound
sound_passes Holds (Err cause) other x sound is = absurd (let no : ⊥ = cc in no)

module _ {code : List Insn} {areas : List (Option Area)} {flats : List FlatInsn} (verified : AreVerified code areas flats)
    (segment : SegmentParts) (is : IsSegment segment) where
  -- the instruction at the place of a state that a run reaches passes all its checks
  record IsExecuted (state : State) : Type 0 where
    insn : Insn
    is_insn : instruction_at code state.place ≡ Some insn
    does : Effect
    passes : effect.instruction_effect code segment state (state.place + length (spelling insn)) insn ≡ Ok does
    leads : after code segment state ≡ apply segment state does

  stuck : (state : State) → IsReached code segment state → (cause : Cause) → effect.effect code segment state ≡ Err cause → ⊥
  unfolding after
  stuck state reached cause fails =
      is_never_stuck code segment (length reached.run) state state.place cause (verified.safe.never_stuck segment is)
      (record { run = reached.run; is_run = reached.is_run; ends = reached.ends; long = refl })
      (sym (ap (next_configuration segment state) fails))

  written_with : (state : State) (does : Effect) → effect.effect code segment state ≡ Ok does → (found : Option Insn)
      → instruction_at code state.place ≡ found → effect.effect_of code segment state found ≡ Ok does → IsExecuted state
  unfolding after
  written_with state does all None is_insn passes = absurd (let no : ⊥ = cc in no)
  written_with state does all (Some insn) is_insn passes = record
      { insn = insn; is_insn = is_insn; does = does; passes = passes; leads = ap (next_configuration segment state) all }

  instruction_at_index : (state : State) → IsReached code segment state → IsExecuted state
  instruction_at_index state reached = by_result (effect.effect code segment state) refl
    where
      by_result : (result : Result Effect Cause) → effect.effect code segment state ≡ result → IsExecuted state
      by_result (Err cause) fails = absurd (stuck state reached cause fails)
      by_result (Ok does) all = written_with state does all (instruction_at code state.place) refl all

  abbrev leads_to : Bare → FlatInsn → Result Next Cause
  leads_to bare flat = next_words segment (λ register. area_of flat) (words_of bare) (bare.at + 1) (target_of flat) (insn_of flat)

  -- what the flat form at the machine's entry leads to
  pub record Leads (state : State) (bare : Bare) (flat : FlatInsn) : Type 0 where
    pub next : Next
    pub leads : leads_to bare flat ≡ Ok next
    pub holds : HoldsNext code (after code segment state) next
    pub meets : MeetsCall (words_of bare) (insn_of flat)

  base_known : (state : State) → IsReached code segment state → (index : ℕ) (insn : Insn) → index_at code state.place ≡ Some index
      → instruction_at code state.place ≡ Some insn → KnowsBase (areas_in state) insn (get_or areas index None)
  base_known state reached index (Load format destination base offset) at is_insn =
      knows_base _ _ (verified.bases.bases segment is reached.run reached.is_run state reached.ends index
      (Load format destination base offset) base.number at is_insn refl)
  base_known state reached index insn at is_insn = tt

  leads_with : (state : State) (bare : Bare) (flat : FlatInsn) → IsReached code segment state → HoldsState code state bare
      → flat ≡ get_or flats bare.at flat → IsExecuted state → Leads state bare flat
  leads_with state bare flat reached holds there is_insn =
      let begins = subst (λ (place : ℕ). instruction_at code place ≡ Some is_insn.insn) holds.at is_insn.is_insn in
      let within = within_code code bare.at is_insn.insn begins in
      let insn_is = instruction_at-place_of code bare.at is_insn.insn begins in
      let form = verified.forms.each bare.at is_insn.insn flat within insn_is there in
      let at = subst (λ (place : ℕ). index_at code place ≡ Some bare.at) (sym holds.at) (place_found code bare.at within) in
      let next_place = ap (λ (place : ℕ). place + length (spelling is_insn.insn)) holds.at
      ∙ sym (place_of-more code bare.at is_insn.insn within insn_is) in
      let whole = run_well_formed code segment reached.run state reached.is_run reached.ends in
      let bytes = run_bytes code segment reached.run state is reached.is_run reached.ends in
      let jumps = subst (λ (place : ℕ). JumpsTo code place is_insn.insn (target_of flat)) (sym holds.at) form.jumps in
      let sound =
      walk_held code segment state (words_of bare) holds.words (state.place + length (spelling is_insn.insn)) (bare.at + 1) (target_of flat)
      next_place (areas_in state) is_insn.insn is whole bytes form.immediates
      (λ register. points_there (register_value state register)) jumps in
      let found = sound_passes (HoldsEffect code segment state) _ _ is_insn.does sound is_insn.passes in
      let as_flat = flat_leads segment (areas_in state) (words_of bare) (bare.at + 1) (target_of flat) is_insn.insn
      (get_or areas bare.at None) flat form.keeps_area (base_known state reached bare.at is_insn.insn at is_insn.is_insn) in
      record {
        next = found.0;
        leads = ap (λ (insn : Insn). next_words segment (λ register. area_of flat) (words_of bare) (bare.at + 1) (target_of flat) insn)
            form.represents ∙ sym as_flat ∙ found.1;
        holds = subst (λ (configuration : Configuration). HoldsNext code configuration found.0) (sym is_insn.leads) found.2;
        meets = subst (MeetsCall (words_of bare)) (sym form.represents)
            (calls_meet code segment state (words_of bare) _ is_insn.insn
            (call_meets segment state (words_of bare) is whole holds.words) is_insn.passes);
      }

  pub forward_jump : {bare : Bare} (flat : FlatInsn) (reachable : IsReachable code segment bare) → flat ≡ get_or flats bare.at flat
      → Leads reachable.state bare flat
  forward_jump {bare} flat reachable there =
      leads_with reachable.state bare flat reachable.reached reachable.holds there (instruction_at_index reachable.state reachable.reached)

  pub within_on : {bare : Bare} → IsReachable code segment bare → bare.at < length code
  within_on {bare} reachable =
      let is_insn = instruction_at_index reachable.state reachable.reached in within_code code bare.at is_insn.insn
      (subst (λ (place : ℕ). instruction_at code place ≡ Some is_insn.insn) reachable.holds.at is_insn.is_insn)

-- the machine has gone on, or has ended

pub continues : (code : List Insn) (configuration : Configuration) (bare : Bare) (next : Next) → HoldsNext code configuration next
    → next ≡ Continues (words_of bare) bare.at → (old : Bare) → Does code configuration None old bare
continues code (Running state) bare (Continues words at) held same old = record {
  at = held.0 ∙ ap (place_of code) (let there : at ≡ bare.at = cc in there);
  words = subst (Holds state) (let there : words ≡ words_of bare = cc in there) held.1;
}
continues code ended bare (Continues words at) held same old = absurd held
continues code configuration bare (Ends r0 score) held same old = absurd (let no : ⊥ = cc in no)

pub ends : (code : List Insn) (configuration : Configuration) (answer : Answer) (next : Next) → HoldsNext code configuration next
    → next ≡ Ends answer.r0 answer.score → {old new : Bare} → new ≡ old → Does code configuration (Some answer) old new
ends code (Exited r0 score) answer (Ends word word_score) held same unchanged =
    (let there : answer.r0 ≡ word = cc in there ∙ held.0, let there : answer.score ≡ word_score = cc in there ∙ held.1, unchanged)
ends code configuration answer (Ends word word_score) held same unchanged = absurd held
ends code configuration answer (Continues words at) held same unchanged = absurd (let no : ⊥ = cc in no)

pub same_next : (first second : Result Next Cause) (one other : Next) → first ≡ Ok one → second ≡ Ok other → first ≡ second → one ≡ other
same_next first second one other is there same = let both : Ok one ≡ second = sym is ∙ same in cc

-- an instruction leads to an entry, or to the end, as the next configuration says
pub steps_to : (code : List Insn) (configuration : Configuration) (to : Option ℕ) (old new : Bare) {next : Next}
    → HoldsNext code configuration next → next ≡ next_of to (words_of new) → (to ≡ None → new ≡ old) → StepsTo code configuration to old new
steps_to code configuration (Some at) old new held is unchanged = continues code configuration (record new { at = at }) _ held is old
steps_to code configuration None old new held is unchanged = λ answer says.
    ends code configuration answer _ held (is ∙ sym says) (unchanged refl)
