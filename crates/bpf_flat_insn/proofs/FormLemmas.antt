-- Jump targets as indices of instructions, and lists of flat forms that grow by one.
use Rattle.std.proofs.Common.{◌≡◌, ℕ, zero, suc, ◌+◌, ◌-◌, ◌<◌, ◌≤◌, ◌⊎◌, inl, inr, ℤ, pos, IfSome, IsSome, List, [], ◌∷◌, ◌++◌}
use Rattle.std.proofs.Common.{length, take, get_or, Option, Some, None, option_map, refl, sym, ap, ◌∙◌, subst, arith, length-append}
use Rattle.std.proofs.lemmas.Bool.{cases_lt}
use Rattle.std.proofs.lemmas.Grind.{common_steps}
use Rattle.std.proofs.lemmas.List.{ext_get_or, get_or-map, get_or_default, length-map}
use Rattle.std.proofs.lemmas.Option.{none-some}
use Rattle.bpf_insn.specs.Code.{index_at, instruction_at, place_of, spelling}
use Rattle.bpf_insn.specs.Immediates.{HasImmediates}
use Rattle.bpf_insn.specs.Jump.{jump_distance}
use Rattle.bpf_insn.specs.declared.instruction.Insn.{Insn}
use Rattle.bpf_insn.specs.declared.instruction.Insn.TheVariants as insn
use Rattle.bpf_insn.specs.declared.value.Area.{Area}
use Rattle.bpf_insn.proofs.PlaceLemmas.{index_at-after, index_at-inside, instruction_at-index, word_count-cons}
use Rattle.bpf_flow.specs.Flow.{target_of}
use Rattle.bpf_flat_insn.specs.Flat.{AreFlatForms, IsFlatForm, JumpsTo, KeepsArea, insn_of, instructions_in, target_of as flat_target}
use Rattle.bpf_flat_insn.specs.declared.flat.FlatInsn.{FlatInsn}
use Rattle.bpf_flat_insn.specs.declared.flat.FlatInsn.TheVariants as flat_form

-- the index found at a place is the index of the instruction there

mapped : (o : Option ℕ) (index : ℕ) → option_map (λ (i : ℕ). suc i) o ≡ Some index → (before : ℕ) × (o ≡ Some before) × (index ≡ suc before)
mapped None index is = absurd (none-some index is)
mapped (Some before) index is = (before, refl, cc)

found_place : (code : List Insn) (place index : ℕ) → index_at code place ≡ Some index → place_of code index ≡ place
found_place [] place index is = absurd (none-some index is)
found_place (insn ∷ code) zero index is = let first : index ≡ 0 = cc in ap (place_of (insn ∷ code)) first
found_place (insn ∷ code) (suc place) index is = elim (cases_lt (suc place) (length (spelling insn))) as
    (λ _. place_of (insn ∷ code) index ≡ suc place) [
      | inl below ↦ absurd (none-some index (sym (index_at-inside insn code (suc place) (omega arith) below) ∙ is))
      | inr past ↦
          let left : ℕ = suc place - length (spelling insn) in
          let found = mapped (index_at code left) index (sym (index_at-after insn code (suc place) past) ∙ is) in
          let rest = found_place code left found.0 found.1 in
          let sum = word_count-cons insn (take found.0 code) in
          let whole : place_of (insn ∷ code) (suc found.0) ≡ suc place = omega arith in
          ap (place_of (insn ∷ code)) found.2 ∙ whole
    ]

-- the target of the jump at a place

pub jumps_to : (code : List Insn) (place target index : ℕ) (found : Option Insn)
    → IfSome found (λ insn. option_map pos (Some target) ≡ option_map (target_of place) (jump_distance insn))
    → Some index ≡ index_at code target → IfSome found (λ insn. JumpsTo code place insn index)
jumps_to code place target index None leads at = tt
jumps_to code place target index (Some insn) leads at = λ distance jumps.
    let there = leads ∙ ap (option_map (target_of place)) jumps in
    let is : target_of place distance ≡ pos target = cc in
    is ∙ ap pos (sym (found_place code target index (sym at)))

pub nothing_found : (code : List Insn) (place : ℕ) → index_at code place ≡ None → IsSome (instruction_at code place) → ⊥
nothing_found code place none some =
    let is = instruction_at-index code place in let nothing : instruction_at code place ≡ None = cc in absurd (let no : ⊥ = cc in no)

-- the list with one more flat form

-- the flat form of the instruction at an index
pub record IsFormAt (code : List Insn) (areas : List (Option Area)) (index : ℕ) (flat : FlatInsn) : Type 0 where
  pub within : index < length code
  pub insn : Insn
  pub is_insn : insn ≡ get_or code index insn
  pub form : IsFlatForm code (place_of code index) insn (get_or areas index None) flat

module _ {code : List Insn} {areas : List (Option Area)} {count : ℕ} {flats more : List FlatInsn} {flat : FlatInsn}
    (are : AreFlatForms code areas count flats) (grown : more ≡ flats ++ flat ∷ []) (next : IsFormAt code areas count flat) where
  before : (index : ℕ) (last : FlatInsn) → index < count → get_or more index last ≡ get_or flats index last
  before index last below = let long = are.count_is in ap (λ (l : List FlatInsn). get_or l index last) grown ∙ grind (arith, common_steps)

  at_end : (last : FlatInsn) → get_or more count last ≡ flat
  at_end last = let long = are.count_is in ap (λ (l : List FlatInsn). get_or l count last) grown ∙ grind (arith, common_steps)

  same_insn : (other : Insn) → other ≡ get_or code count other → other ≡ next.insn
  same_insn other there = there ∙ get_or_default code count other next.insn next.within ∙ sym next.is_insn

  by_place : (index : ℕ) (other : Insn) (last : FlatInsn) → index < count + 1 → other ≡ get_or code index other
      → last ≡ get_or more index last → (index < count) ⊎ (count ≤ index)
      → IsFlatForm code (place_of code index) other (get_or areas index None) last
  by_place index other last below there is (inl less) = are.each index other last less there (is ∙ before index last less)
  by_place index other last below there is (inr past) =
      let same : index ≡ count = omega arith in
      subst (λ (i : ℕ). IsFlatForm code (place_of code i) other (get_or areas i None) last) (sym same)
      (subst (λ (x : Insn). IsFlatForm code (place_of code count) x (get_or areas count None) last)
      (sym (same_insn other (subst (λ (i : ℕ). other ≡ get_or code i other) same there)))
      (subst (λ (f : FlatInsn). IsFlatForm code (place_of code count) next.insn (get_or areas count None) f)
      (sym (subst (λ (i : ℕ). last ≡ get_or more i last) same is ∙ at_end last)) next.form))

  -- one more flat form
  pub forms_grow : AreFlatForms code areas (count + 1) more
  forms_grow = record {
    count_is = let long = are.count_is in ap length grown ∙ length-append flats (flat ∷ []) ∙ omega arith;
    each = λ index other last below there is. by_place index other last below there is (cases_lt index count);
  }

-- all flat forms of a code stand for it
pub instructions_of_forms : (code : List Insn) (areas : List (Option Area)) (flats : List FlatInsn) → AreFlatForms code areas (length code) flats
    → instructions_in flats ≡ code
instructions_of_forms code areas flats are =
    ext_get_or insn.Exit (instructions_in flats) code (length-map flats insn_of ∙ are.count_is) (λ index below.
    let count = are.count_is in
    let long = length-map flats insn_of in
    let within : index < length code = omega arith in
    let inside : index < length flats = omega arith in
    let last : FlatInsn = get_or flats index flat_form.Exit in
    let next : Insn = get_or code index insn.Exit in
    get_or-map insn_of flats index flat_form.Exit insn.Exit inside
    ∙ (are.each index next last within (get_or_default code index insn.Exit next within)
    (get_or_default flats index flat_form.Exit last inside)).represents)

-- the flat form of the instruction at a place
module _ {code : List Insn} {place : ℕ} (index target : ℕ) {insn : Insn} (at : place ≡ place_of code index)
    (is_insn : instruction_at code place ≡ Some insn) where
  pub form_at : {area : Option Area} {flat : FlatInsn} → IfSome (instruction_at code place) (λ insn. JumpsTo code place insn target)
      → insn_of flat ≡ insn → HasImmediates insn → IfSome (jump_distance insn) (λ distance. flat_target flat ≡ target) → KeepsArea insn area flat
      → IsFlatForm code (place_of code index) insn area flat
  form_at {flat = flat} jumps is immediates same keeps = record {
    represents = is;
    immediates = immediates;
    jumps = subst (λ (p : ℕ). JumpsTo code p insn (flat_target flat)) at (λ distance by_distance.
        subst (λ (o : Option Insn). IfSome o (λ insn. JumpsTo code place insn target)) is_insn jumps distance by_distance
        ∙ ap (λ (t : ℕ). pos (place_of code t))
        (sym (subst (λ (o : Option ℤ). IfSome o (λ distance. flat_target flat ≡ target)) by_distance same)));
    keeps_area = keeps;
  }
