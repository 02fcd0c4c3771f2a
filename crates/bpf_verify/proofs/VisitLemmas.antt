-- The visits of consecutive instructions.
use Rattle.std.proofs.Common.{◌≡◌, ℕ, ◌+◌, ◌≤◌, List, [], ◌∷◌, ◌++◌, length, refl, ap, ◌∙◌, arith}
use Rattle.bpf_insn.proofs.PlaceLemmas.{word_count-cons}
use Rattle.bpf_insn.specs.Code.{spelling, word_count}
use Rattle.bpf_insn.specs.declared.instruction.Insn.{Insn}
use Rattle.bpf_verify.specs.LiftedState.{LiftedState}
use Rattle.bpf_verify.specs.Annotation.{Annotation}
use Rattle.bpf_verify.specs.Visit.{Visit, visit_at, visited_all, visits_from}

-- a visit is determined by its parts
pub visit-parts : (place : ℕ) {there : ℕ} (insn : Insn) (state : LiftedState) {other : LiftedState} → place ≡ there → state ≡ other
    → ◌≡◌ {A = Visit} (record { place = place; insn = insn; state = state }) (record { place = there; insn = insn; state = other })
visit-parts place insn state same equal = cc

-- one more instruction
pub visits_from-more : (annotation : Annotation) (place : ℕ) (code : List Insn) (insn : Insn)
    → visits_from annotation place (code ++ insn ∷ [])
    ≡ visits_from annotation place code
    ++ visit_at annotation (place + word_count code) insn ∷ []
visits_from-more annotation place [] insn =
    ap (λ (p : ℕ). visit_at annotation p insn ∷ []) (omega arith)
visits_from-more annotation place (first ∷ code) insn =
    let rest = visits_from-more annotation (place + length (spelling first)) code insn in
    let sum : place + length (spelling first) + word_count code ≡ place + word_count (first ∷ code) =
    omega (arith, word_count-cons first code) in
    ap (λ (visits : List Visit). visit_at annotation place first ∷ visits)
    (rest ∙ ap (λ (p : ℕ). visits_from annotation (place + length (spelling first)) code
    ++ visit_at annotation p insn ∷ []) sum)

-- an annotation that agrees with another one up to their end
pub visits_from-same : (old new : Annotation) (end place : ℕ) (code : List Insn) → ((other : ℕ) → other ≤ end → new other ≡ old other)
    → place + word_count code ≤ end → visits_from new place code ≡ visits_from old place code
visits_from-same old new end place [] same ends = refl
visits_from-same old new end place (insn ∷ code) same ends =
    let sum = word_count-cons insn code in
    ap (λ (visit : Visit). visit ∷ visits_from new (place + length (spelling insn)) code)
    (visit-parts place insn (new place) refl (same place (omega arith)))
    ∙ ap (λ (visits : List Visit). visit_at old place insn ∷ visits)
    (visits_from-same old new end (place + length (spelling insn)) code same (omega arith))

-- a visitor after one more visit
pub visited_all-more : {V : Type 0} (visited : V → Visit → V) (visitor : V) (visits : List Visit) (visit : Visit)
    → visited (visited_all visited visitor visits) visit ≡ visited_all visited visitor (visits ++ visit ∷ [])
visited_all-more visited visitor [] visit = refl
visited_all-more visited visitor (first ∷ visits) visit = visited_all-more visited (visited visitor first) visits visit
