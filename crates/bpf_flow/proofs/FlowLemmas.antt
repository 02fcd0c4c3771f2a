-- Jumps in order, and the faults of a code.
use Rattle.std.proofs.Common.{◌≡◌, ◌≢◌, ℕ, ◌+◌, ◌<◌, ◌≤◌, ℤ, pos, ◌<ℤ◌, ◌≤ℤ◌, List, [], ◌∷◌, ◌++◌, length, get_or, Option, Some, None}
use Rattle.std.proofs.Common.{IsSome, is_some, true, false, Result, Ok, Err, IsOk, IfErr, IfSome, option_map, FitsSigned, to_z, of_z, w32}
use Rattle.std.proofs.Common.{refl, sym, ap, ◌∙◌, subst, arith, inl, inr}
use Rattle.std.proofs.lemmas.Bool.{cases_lt, false≢true}
use Rattle.std.proofs.lemmas.Int.{ints, to_z-of_z}
use Rattle.std.proofs.lemmas.List.{length-append}
use Rattle.std.proofs.lemmas.Option.{none-some}
use Rattle.bpf_insn.specs.Form.{spelling}
use Rattle.bpf_insn.specs.Code.{word_count, instruction_at, place_of}
use Rattle.bpf_insn.specs.Jump.{jump_distance}
use Rattle.bpf_insn.specs.declared.instruction.Insn.{Insn}
use Rattle.bpf_insn.specs.declared.instruction.Insn.TheVariants.{Exit, WideLoad}
use Rattle.bpf_insn.proofs.PlaceLemmas.{instruction_within}
use Rattle.bpf_insn.proofs.SpanLemmas.{begins_at_its_place, place_of-more, nothing_within, ends_within, lies_within, next_begins}
use Rattle.bpf_flow.specs.Flow.{target_of, IsForwardJump, JumpsAreForward, JumpsAreForwardBefore, JumpsBy, IsSecondWord, LeadsIntoWide, IsFirstJump}
use Rattle.bpf_flow.specs.Flow.{EndsInExit, IsForward, IsFirstFault}
use Rattle.bpf_flow.specs.declared.fault.FlowFault.{FlowFault}
use Rattle.bpf_flow.specs.declared.fault.FlowFault.TheVariants.{BackwardJump, OutOfProgram, IntoWide, LastNotExit}

-- one more instruction, which leads on if it's a jump
pub lead_more : (code : List Insn) (place words : ℕ) (insn : Insn) → instruction_at code place ≡ Some insn → words ≡ length (spelling insn)
    → JumpsAreForwardBefore code place → ((distance : ℤ) → jump_distance insn ≡ Some distance → IsForwardJump code place distance)
    → JumpsAreForwardBefore code (place + words)
lead_more code place words insn is_insn long before here = λ earlier other distance below is jumps.
    elim (cases_lt earlier place) as (λ _. IsForwardJump code earlier distance) [
      | inl h ↦ before earlier other distance h is jumps
      | inr from ↦ elim (cases_lt place earlier) as (λ _. IsForwardJump code earlier distance) [
        | inl above ↦ absurd (none-some other (sym (nothing_within code place insn earlier is_insn above (omega arith)) ∙ is))
        | inr to ↦
            let same : earlier ≡ place = omega arith in
            let both : Some other ≡ Some insn = sym is ∙ ap (instruction_at code) same ∙ is_insn in
            let one : other ≡ insn = cc in
            subst (λ (p : ℕ). IsForwardJump code p distance) (sym same) (here distance (sym (ap jump_distance one) ∙ jumps))
      ]
    ]

-- all of them
pub all_jumps_forward : (code : List Insn) (end : ℕ) → word_count code ≤ end → JumpsAreForwardBefore code end → JumpsAreForward code
all_jumps_forward code end whole before = λ place insn distance is_insn jumps.
    let within = instruction_within code place (ap is_some is_insn) in before place insn distance (omega arith) is_insn jumps

-- a jump is within the code
pub jump_within : (code : List Insn) (place : ℕ) (distance : ℤ) → JumpsBy code place distance → place < word_count code
jump_within code place distance jump = instruction_within code place (ap is_some jump.is_insn)

-- a place within an instruction's words is the second one of a wide load
second_word : (code : List Insn) (place first : ℕ) (insn : Insn) → instruction_at code first ≡ Some insn → first < place
    → place < first + length (spelling insn) → IsSecondWord code place
second_word code place first (WideLoad destination immediate next_immediate) is_insn above below =
    record {
      first = first;
      destination = destination;
      immediate = immediate;
      next_immediate = next_immediate;
      is_insn = is_insn;
      follows =
          omega arith;
    }
second_word code place first insn is_insn above below = absurd (omega arith)

pub leads_into_wide : (code : List Insn) (place target : ℕ) (distance : ℤ) → target_of place distance ≡ pos target → place < target
    → target < word_count code → instruction_at code target ≡ None → LeadsIntoWide code place distance
leads_into_wide code place target distance is later within none =
    let around = lies_within code target within none in
    record {
      target = target;
      is_target = is;
      later = later;
      inside =
          second_word code target around.first around.insn around.is_insn around.above around.below;
    }

-- the next instruction begins after an instruction other than EXIT
pub continues : (code : List Insn) (place : ℕ) (insn : Insn) → EndsInExit code → instruction_at code place ≡ Some insn
    → instruction_at code place ≢ Some Exit → IsSome (instruction_at code (place + length (spelling insn)))
continues code place insn (before, ends) is_insn other =
    subst (λ (c : List Insn). IsSome (instruction_at c (place + length (spelling insn)))) (sym ends)
    (next_begins before Exit place insn (ap (λ (c : List Insn). instruction_at c place) (sym ends) ∙ is_insn)
    (λ e. other (is_insn ∙ ap Some e)))

-- A jump with a flaw doesn't lead on.

same_target : (a b : ℕ) (z : ℤ) → z ≡ pos a → z ≡ pos b → a ≡ b
same_target a b z is are = omega (arith, ints)

backward : (code : List Insn) (place : ℕ) (distance : ℤ) → IsForwardJump code place distance → distance <ℤ pos 0 → ⊥
backward code place distance leads below = let is = leads.is_target in let later = leads.later in absurd (omega (arith, ints))

out_of_program : (code : List Insn) (place : ℕ) (distance : ℤ) → IsForwardJump code place distance
    → pos (word_count code) ≤ℤ target_of place distance → ⊥
out_of_program code place distance leads past =
    let is = leads.is_target in let within = instruction_within code leads.target leads.begins in absurd (omega (arith, ints))

nothing_inside : (code : List Insn) (place : ℕ) → IsSecondWord code place → instruction_at code place ≡ None
nothing_inside code place wide =
    let follows = wide.follows in
    nothing_within code wide.first (WideLoad wide.destination wide.immediate wide.next_immediate) place wide.is_insn (omega arith)
    (omega arith)

into_wide : (code : List Insn) (place : ℕ) (distance : ℤ) → IsForwardJump code place distance → LeadsIntoWide code place distance → ⊥
into_wide code place distance leads wide =
    let same = same_target leads.target wide.target (target_of place distance) leads.is_target wide.is_target in
    let none = nothing_inside code wide.target wide.inside in
    let some : is_some (instruction_at code wide.target) ≡ true = subst (λ (t : ℕ). IsSome (instruction_at code t)) same leads.begins in
    false≢true (sym (ap is_some none) ∙ some)

-- flaws exclude each other

backward_is_within : (code : List Insn) (place : ℕ) (distance : ℤ) → JumpsBy code place distance → distance <ℤ pos 0
    → pos (word_count code) ≤ℤ target_of place distance → ⊥
backward_is_within code place distance jump below past = let within = jump_within code place distance jump in absurd (omega (arith, ints))

backward_is_not_later : (code : List Insn) (place : ℕ) (distance : ℤ) → distance <ℤ pos 0 → LeadsIntoWide code place distance → ⊥
backward_is_not_later code place distance below wide = let is = wide.is_target in let later = wide.later in absurd (omega (arith, ints))

wide_is_within : (code : List Insn) (place : ℕ) (distance : ℤ) → pos (word_count code) ≤ℤ target_of place distance
    → LeadsIntoWide code place distance → ⊥
wide_is_within code place distance past wide =
    let is = wide.is_target in
    let inside = wide.inside in
    let follows = inside.follows in
    let ends = ends_within code inside.first (WideLoad inside.destination inside.immediate inside.next_immediate) inside.is_insn in
    absurd (omega (arith, ints))

-- a forward code has no fault

forward_jump : (code : List Insn) (place : ℕ) (distance : ℤ) → JumpsAreForward code → JumpsBy code place distance → IsForwardJump code place distance
forward_jump code place distance leads jump = leads place jump.insn distance jump.is_insn jump.jumps

same_last : (xs ys : List Insn) (x y : Insn) → xs ++ x ∷ [] ≡ ys ++ y ∷ [] → (xs ≡ ys) × (x ≡ y)
same_last [] [] x y e = (refl, (let same : x ≡ y = cc in same))
same_last [] (b ∷ ys) x y e = let long = ap length e in let more = length-append ys (y ∷ []) in absurd (omega arith)
same_last (a ∷ xs) [] x y e = let long = ap length e in let more = length-append xs (x ∷ []) in absurd (omega arith)
same_last (a ∷ xs) (b ∷ ys) x y e =
    let first : a ≡ b = cc in
    let rest = same_last xs ys x y (let tails : xs ++ x ∷ [] ≡ ys ++ y ∷ [] = cc in tails) in
    ((let both : a ∷ xs ≡ b ∷ ys = ap (λ (z : Insn). z ∷ xs) first ∙ ap (λ (zs : List Insn). b ∷ zs) rest.0 in both), rest.1)

no_jump_fault : (code : List Insn) (place : ℕ) (Flaw : ℤ → Type 0) → ((distance : ℤ) → IsForwardJump code place distance → Flaw distance → ⊥)
    → JumpsAreForward code → IsFirstJump code place Flaw → ⊥
no_jump_fault code place Flaw excluded leads fault = excluded fault.distance (forward_jump code place fault.distance leads fault.jumps)
    fault.flaw

pub has_no_fault : (code : List Insn) (fault : FlowFault) → IsForward code → IsFirstFault code fault → ⊥
has_no_fault code (BackwardJump place) forward fault = no_jump_fault code place _ (backward code place) forward.jumps fault
has_no_fault code (OutOfProgram place) forward fault = no_jump_fault code place _ (out_of_program code place) forward.jumps fault
has_no_fault code (IntoWide place) forward fault = no_jump_fault code place _ (into_wide code place) forward.jumps fault
has_no_fault code (LastNotExit place) forward (leads, last) =
    last.no_exit (same_last last.before forward.last.0 last.last Exit (sym last.ends ∙ forward.last.1)).1

pub is_accepted : {T : Type 0} (code : List Insn) (result : Result T FlowFault) → IfErr result (IsFirstFault code) → IsForward code
    → IsOk result
is_accepted code (Ok flow) faulty forward = refl
is_accepted code (Err fault) faulty forward = absurd (has_no_fault code fault forward faulty)

-- Two first jumps with a flaw are at the same place and have the same distance, whatever the flaws.

-- a jump that leads on doesn't have the flaw
abbrev Excludes : List Insn → (ℕ → ℤ → Type 0) → Type 0
Excludes code Flaw = (place : ℕ) (distance : ℤ) → IsForwardJump code place distance → Flaw place distance → ⊥

not_earlier : {code : List Insn} {a b : ℕ} (F : ℕ → ℤ → Type 0) {G : ℤ → Type 0} → Excludes code F → IsFirstJump code a (F a)
    → IsFirstJump code b G → a < b → ⊥
not_earlier {a} F excluded first other below =
    let jump = first.jumps in excluded a first.distance (other.before a jump.insn first.distance below jump.is_insn jump.jumps) first.flaw

same_place : {code : List Insn} {a b : ℕ} (F G : ℕ → ℤ → Type 0) → Excludes code F → Excludes code G → IsFirstJump code a (F a)
    → IsFirstJump code b (G b) → a ≡ b
same_place {a} {b} F G no_f no_g first other = elim (cases_lt a b) as (λ _. a ≡ b) [
  | inl below ↦ absurd (not_earlier F no_f first other below)
  | inr from ↦ elim (cases_lt b a) as (λ _. a ≡ b) [
    | inl above ↦ absurd (not_earlier G no_g other first above)
    | inr to ↦ omega arith
  ]
]

same_distance : (code : List Insn) (place : ℕ) (x y : ℤ) → JumpsBy code place x → JumpsBy code place y → x ≡ y
same_distance code place x y jump other =
    let both : Some jump.insn ≡ Some other.insn = sym jump.is_insn ∙ other.is_insn in
    let one : jump.insn ≡ other.insn = cc in
    let distances : Some x ≡ Some y = sym jump.jumps ∙ ap jump_distance one ∙ other.jumps in
    cc

both_flaws : {code : List Insn} {a b : ℕ} (F G : ℕ → ℤ → Type 0) → Excludes code F → Excludes code G → (first : IsFirstJump code a (F a))
    → IsFirstJump code b (G b) → G a first.distance
both_flaws {code} {a} F G no_f no_g first other =
    let same = same_place F G no_f no_g first other in
    let here : JumpsBy code a other.distance = subst (λ (p : ℕ). JumpsBy code p other.distance) (sym same) other.jumps in
    let flaw : G a other.distance = subst (λ (p : ℕ). G p other.distance) (sym same) other.flaw in
    subst (G a) (same_distance code a other.distance first.distance here first.jumps) flaw

-- the flaws, by place and distance
abbrev Backward : List Insn → ℕ → ℤ → Type 0
Backward code place distance = distance <ℤ pos 0

abbrev Leaves : List Insn → ℕ → ℤ → Type 0
Leaves code place distance = pos (word_count code) ≤ℤ target_of place distance

abbrev EntersWide : List Insn → ℕ → ℤ → Type 0
EntersWide code place distance = LeadsIntoWide code place distance

-- a code has only one first fault
pub one_fault_lem : (code : List Insn) (a b : FlowFault) → IsFirstFault code a → IsFirstFault code b → a ≡ b
one_fault_lem code (BackwardJump a) (BackwardJump b) f g =
    ap BackwardJump (same_place (Backward code) (Backward code) (backward code) (backward code) f g)
one_fault_lem code (OutOfProgram a) (OutOfProgram b) f g =
    ap OutOfProgram (same_place (Leaves code) (Leaves code) (out_of_program code) (out_of_program code) f g)
one_fault_lem code (IntoWide a) (IntoWide b) f g =
    ap IntoWide (same_place (EntersWide code) (EntersWide code) (into_wide code) (into_wide code) f g)
one_fault_lem code (LastNotExit a) (LastNotExit b) (leads, last) (others, other) =
    let same = (same_last last.before other.before last.last other.last (sym last.ends ∙ other.ends)).0 in
    ap LastNotExit (last.at ∙ ap word_count same ∙ sym other.at)
one_fault_lem code (BackwardJump a) (OutOfProgram b) f g =
    absurd (backward_is_within code a f.distance f.jumps f.flaw
    (both_flaws (Backward code) (Leaves code) (backward code) (out_of_program code) f g))
one_fault_lem code (OutOfProgram a) (BackwardJump b) f g =
    absurd (backward_is_within code b g.distance g.jumps g.flaw
    (both_flaws (Backward code) (Leaves code) (backward code) (out_of_program code) g f))
one_fault_lem code (BackwardJump a) (IntoWide b) f g =
    absurd (backward_is_not_later code a f.distance f.flaw
    (both_flaws (Backward code) (EntersWide code) (backward code) (into_wide code) f g))
one_fault_lem code (IntoWide a) (BackwardJump b) f g =
    absurd (backward_is_not_later code b g.distance g.flaw
    (both_flaws (Backward code) (EntersWide code) (backward code) (into_wide code) g f))
one_fault_lem code (OutOfProgram a) (IntoWide b) f g =
    absurd (wide_is_within code a f.distance f.flaw (both_flaws (Leaves code) (EntersWide code) (out_of_program code) (into_wide code) f g))
one_fault_lem code (IntoWide a) (OutOfProgram b) f g =
    absurd (wide_is_within code b g.distance g.flaw (both_flaws (Leaves code) (EntersWide code) (out_of_program code) (into_wide code) g f))
one_fault_lem code (LastNotExit a) (BackwardJump b) (leads, last) g = absurd (no_jump_fault code b _ (backward code b) leads g)
one_fault_lem code (LastNotExit a) (OutOfProgram b) (leads, last) g = absurd (no_jump_fault code b _ (out_of_program code b) leads g)
one_fault_lem code (LastNotExit a) (IntoWide b) (leads, last) g = absurd (no_jump_fault code b _ (into_wide code b) leads g)
one_fault_lem code (BackwardJump a) (LastNotExit b) f (leads, last) = absurd (no_jump_fault code a _ (backward code a) leads f)
one_fault_lem code (OutOfProgram a) (LastNotExit b) f (leads, last) = absurd (no_jump_fault code a _ (out_of_program code a) leads f)
one_fault_lem code (IntoWide a) (LastNotExit b) f (leads, last) = absurd (no_jump_fault code a _ (into_wide code a) leads f)

-- What the code's steps find.

pub jumps_by : (code : List Insn) (place : ℕ) (insn : Insn) (distance : ℤ) → FitsSigned w32 distance → instruction_at code place ≡ Some insn
    → Some distance ≡ jump_distance insn → JumpsBy code place (to_z w32 (of_z w32 distance))
jumps_by code place insn distance fits is_insn jumps =
    subst (JumpsBy code place) (sym (to_z-of_z w32 distance fits)) (record { insn = insn; is_insn = is_insn; jumps = sym jumps })

pub jump_leads : (code : List Insn) (place : ℕ) (insn : Insn) (distance : ℤ) → IsForward code → Some insn ≡ instruction_at code place
    → Some distance ≡ jump_distance insn → IsForwardJump code place distance
jump_leads code place insn distance forward is jumps = forward.jumps place insn distance (sym is) (sym jumps)

pub is_forward : (code : List Insn) (place : ℕ) (distance : ℤ) → IsForwardJump code place distance → pos 0 ≤ℤ distance
is_forward code place distance leads = let is = leads.is_target in let later = leads.later in omega (arith, ints)

pub target_begins : (code : List Insn) (place target : ℕ) (distance : ℤ) → IsForwardJump code place distance
    → pos target ≡ target_of place distance → IsSome (instruction_at code target)
target_begins code place target distance leads is =
    subst (λ (t : ℕ). IsSome (instruction_at code t)) (same_target leads.target target (target_of place distance) leads.is_target (sym is))
    leads.begins

pub target_is : (code : List Insn) (place target : ℕ) (found : Insn) (distance : ℤ) → Some found ≡ instruction_at code place
    → Some distance ≡ jump_distance found → pos target ≡ target_of place distance
    → IfSome (instruction_at code place) (λ insn. option_map pos (Some target) ≡ option_map (target_of place) (jump_distance insn))
target_is code place target found distance is jumps at =
    subst (λ (o : Option Insn). IfSome o (λ insn. option_map pos (Some target) ≡ option_map (target_of place) (jump_distance insn))) is
    (ap Some at ∙ ap (option_map (target_of place)) jumps)

-- an instruction of a code, by its index in a list that is the code
pub record IsAtIndex (items code : List Insn) (index : ℕ) (insn : Insn) : Type 0 where
  pub same : items ≡ code
  pub within : index < length items
  pub is : insn ≡ get_or items index insn

-- it is at its place, and the next place is after it
pub instruction_at_index : {items code : List Insn} (index place : ℕ) {insn : Insn} → IsAtIndex items code index insn → place ≡ place_of code index
    → instruction_at code place ≡ Some insn
instruction_at_index {items} {code} index place {insn} item at =
    ap (instruction_at code) (at ∙ ap (λ (c : List Insn). place_of c index) (sym item.same))
    ∙ subst (λ (c : List Insn). instruction_at c (place_of items index) ≡ Some insn) item.same
    (begins_at_its_place items index insn item.within item.is)

pub next_place : {items code : List Insn} (index place words : ℕ) {insn : Insn} → IsAtIndex items code index insn
    → place ≡ place_of code index → words ≡ length (spelling insn) → place + words ≡ place_of code (index + 1)
next_place {items} index place words {insn} item at long =
    ap (λ (n : ℕ). n + words) (at ∙ ap (λ (c : List Insn). place_of c index) (sym item.same))
    ∙ ap (λ (n : ℕ). place_of items index + n) long ∙ sym (place_of-more items index insn item.within item.is)
    ∙ ap (λ (c : List Insn). place_of c (index + 1)) item.same

pub leads_by : {code : List Insn} {place : ℕ} (insn : Insn) {distance : ℤ} → FitsSigned w32 distance → Some distance ≡ jump_distance insn
    → IsForwardJump code place (to_z w32 (of_z w32 distance)) → (other : ℤ) → jump_distance insn ≡ Some other → IsForwardJump code place other
leads_by {code} {place} insn {distance} fits jumps leads = λ other is.
    let both : Some distance ≡ Some other = jumps ∙ is in
    let same : distance ≡ other = cc in
    subst (IsForwardJump code place) (to_z-of_z w32 distance fits ∙ same) leads

pub is_nothing : {X : Type 0} (o : Option X) → is_some o ≡ false → o ≡ None
is_nothing None none = refl
is_nothing (Some x) none = absurd (false≢true (sym none))
