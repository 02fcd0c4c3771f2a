-- Instructions that pass the verifier's checks, and jumps whose targets are instructions.
use Rattle.std.proofs.Common.{◌≡◌, ℕ, zero, suc, ◌+◌, ◌-◌, ◌<◌, ◌≤◌, ◌^◌, ℤ, pos, ◌+ℤ◌, Bool, true, false, is_some, List, [], ◌∷◌, ◌++◌}
use Rattle.std.proofs.Common.{length, Option, Some, None, Ok, ◌⊎◌, inl, inr, refl, sym, ap, ◌∙◌, subst, arith}
use Rattle.std.specs.Int.{w64}
use Rattle.std.specs.Prelude.{IfSome}
use Rattle.std.proofs.lemmas.Bool.{cases_lt}
use Rattle.bpf_frame.specs.FrameMap as map
use Rattle.bpf_frame.specs.FrameMap.{unwritten}
use Rattle.bpf_frame.specs.OrderLaws as maps
use Rattle.bpf_flow.specs.Flow.{IsForwardJump}
use Rattle.bpf_insn.specs.Arithmetic.{immediate_operand, low_bits}
use Rattle.bpf_insn.specs.Code.{instruction_at, spelling, word_count}
use Rattle.bpf_insn.specs.Jump.{jump_distance}
use Rattle.bpf_insn.specs.declared.instruction.Condition.{Condition}
use Rattle.bpf_insn.specs.declared.instruction.Insn.{Insn}
use Rattle.bpf_insn.specs.declared.instruction.Source.{Source}
use Rattle.bpf_insn.specs.declared.instruction.Source.TheVariants.{Immediate, Register}
use Rattle.bpf_insn.specs.declared.instruction.Width.TheVariants.{Bits64}
use Rattle.bpf_insn.proofs.PlaceLemmas.{instruction_at-after, instruction_at-inside, word_count-cons}
use Rattle.bpf_kinds.proofs.NarrowingLaws.{refined-within}
use Rattle.bpf_kinds.specs.Interval as interval
use Rattle.bpf_kinds.specs.Interval.{between, single}
use Rattle.bpf_kinds.specs.Narrowing.{refine}
use Rattle.bpf_kinds.specs.declared.kind.Kind.TheVariants.{Number}
use Rattle.bpf_kinds.specs.declared.narrowing.Narrowed.{Narrowed}
use Rattle.bpf_verify.proofs.StateLaws.{reflexive}
use Rattle.bpf_verify.specs.Annotation.{PassesAt}
use Rattle.bpf_verify.specs.LiftedState.{LiftedState, Unreached, Edges, IsWithin}
use Rattle.bpf_verify.specs.Transfer.{narrowed, on_edge, transfer}
use Rattle.cql2_code.specs.Layout.{jump, from_result, from_argument_1}
use Rattle.cql2_code.proofs.AbstractState.{Held, all_saved, annotation_of, answered, any_number, before, knows_more, nothing, registers_of, rests_after}
use Rattle.cql2_code.proofs.AbstractState.{resting, state_before}
use Rattle.cql2_code.proofs.Passes.{AllPass, Passes, needed_by}
use Rattle.cql2_code.proofs.Steps.{conditional_jump, field_is, HasAt}

not_some : {A : Type 0} {B : Type 0} (x : A) → None ≡ Some x → B
not_some x e = absurd cc

pub same_distance : (distance other : ℤ) → Some distance ≡ Some other → distance ≡ other
same_distance distance other e = cc

same_place : (place other : ℕ) → pos place ≡ pos other → place ≡ other
same_place place other e = cc

-- and to no other place
pub only_there : (place skip : ℕ) (distance : ℤ) (to : ℕ) → Some (pos skip) ≡ Some distance → pos (place + 1) +ℤ distance ≡ pos to
    → place + 1 + skip ≡ to
only_there place skip distance to jumps leads =
    let e = same_distance (pos skip) distance jumps in same_place (place + 1 + skip) to (ap (λ (d : ℤ). pos (place + 1) +ℤ d) e ∙ leads)

jump_leads : (skip : ℕ) (distance : ℤ) → jump_distance (jump (pos skip)) ≡ Some distance → Some (pos skip) ≡ Some distance
jump_leads skip distance jumps = ap (λ (d : ℤ). Some d) (sym (field_is (pos skip))) ∙ jumps

-- the state before a conditional jump: a number in register 0, and in register 1 if it is an operand
abbrev held_before : Source → Held
held_before (Immediate number) = record nothing { v0 = any_number }
held_before (Register register) = record nothing { v0 = any_number; v1 = any_number }

-- what the jump implies for its operands if it is taken, and if it isn't
unfoldable implied : Condition → Source → Bool → Option Narrowed
implied condition (Immediate number) taken =
    refine condition Bits64 (between 0 (2 ^ 64 - 1)) (single (low_bits w64 (immediate_operand number))) taken
implied condition (Register register) taken = refine condition Bits64 (between 0 (2 ^ 64 - 1)) (between 0 (2 ^ 64 - 1)) taken

-- the operand of a conditional jump is an immediate or register 1
pub data IsOperand : Source → Type 0 where
  is_immediate : (number : ℤ) → IsOperand (Immediate number)
  is_register : IsOperand (Register from_argument_1)

module _ (keeps : Bool) where
  -- an instruction at a place passes its checks, and its jump has a valid target
  pub record IsGoodAt (code : List Insn) (place : ℕ) (insn : Insn) : Type 0 where
    pub passes : PassesAt (annotation_of keeps code) place insn
    pub leads : (distance : ℤ) → jump_distance insn ≡ Some distance → IsForwardJump code place distance

  -- each instruction from a place on is good
  abbrev pub AreGoodAt : List Insn → ℕ → List Insn → Type 0
  AreGoodAt code place [] = Unit {0}
  AreGoodAt code place (insn ∷ rest) = IsGoodAt code place insn × AreGoodAt code (place + length (spelling insn)) rest

  pub good-append : (code : List Insn) (place : ℕ) (a b : List Insn) → AreGoodAt code place a → AreGoodAt code (place + word_count a) b
      → AreGoodAt code place (a ++ b)
  good-append code place [] b one two = let e : place + 0 ≡ place = omega arith in subst (λ (p : ℕ). AreGoodAt code p b) e two
  good-append code place (insn ∷ a) b one two =
      let count = word_count-cons insn a in
      let e : place + word_count (insn ∷ a) ≡ place + length (spelling insn) + word_count a = omega arith in
      (one.0, good-append code (place + length (spelling insn)) a b one.1 (subst (λ (p : ℕ). AreGoodAt code p b) e two))

  -- so the instruction at any place is good
  pub good_there : (code : List Insn) (base : ℕ) (rest : List Insn) → AreGoodAt code base rest → (place : ℕ) (insn : Insn)
      → instruction_at rest place ≡ Some insn → IsGoodAt code (base + place) insn
  good_there code base [] good place insn at = absurd cc
  good_there code base (first ∷ rest) good zero insn at =
      let e : base ≡ base + 0 = omega arith in
      let same : first ≡ insn = cc in
      subst (λ (p : ℕ). IsGoodAt code p insn) e (subst (IsGoodAt code base) same good.0)
  good_there code base (first ∷ rest) good (suc place) insn at =
      by_order (λ p there. good_there code (base + length (spelling first)) rest good.1 p insn there)
      (cases_lt (suc place) (length (spelling first)))
    where
      none_some : None ≡ Some insn → ⊥
      none_some e = cc

      by_order : ((p : ℕ) → instruction_at rest p ≡ Some insn → IsGoodAt code (base + length (spelling first) + p) insn)
          → (suc place < length (spelling first)) ⊎ (length (spelling first) ≤ suc place) → IsGoodAt code (base + suc place) insn
      by_order again (inl inside) = absurd (none_some (sym (instruction_at-inside first rest (suc place) (omega arith) inside) ∙ at))
      by_order again (inr past) =
          let e : base + length (spelling first) + (suc place - length (spelling first)) ≡ base + suc place = omega arith in
          subst (λ (p : ℕ). IsGoodAt code p insn) e
          (again (suc place - length (spelling first)) (sym (instruction_at-after first rest (suc place) past) ∙ at))

  -- the annotation's state at a place
  abbrev pub Needs : List Insn → ℕ → LiftedState → Type 0
  Needs code place state = annotation_of keeps code place ≡ state

  -- consecutive instructions need what the first one needs
  pub needs_at : (code : List Insn) (place : ℕ) (insns : List Insn) (end : LiftedState) → HasAt code place insns
      → Needs code (place + word_count insns) end → Needs code place (needed_by keeps insns end)
  needs_at code place [] end has is = let e : place + 0 ≡ place = omega arith in subst (λ (p : ℕ). Needs code p end) e is
  needs_at code place (insn ∷ rest) end has is = ap (state_before keeps) has.0

  -- an instruction that passes is good if the annotation holds the needed state after it
  pub good_passes : (code : List Insn) (place : ℕ) (insn : Insn) (needed : LiftedState) → instruction_at code place ≡ Some insn
      → Needs code (place + length (spelling insn)) needed → Passes keeps insn needed → IsGoodAt code place insn
  good_passes code place insn needed at is passes = record {
    passes = record {
      edges = record { next = passes.after; target = Unreached };
      passes = ap (λ (found : Option Insn). transfer (state_before keeps found) insn) at ∙ passes.passes;
      next = subst (IsWithin passes.after) (sym is) passes.within;
      target = λ distance to jumps leads. tt;
    };
    leads = λ distance jumps. not_some distance (sym passes.straight ∙ jumps);
  }

  pub all_good : (code : List Insn) (place : ℕ) (insns : List Insn) (end : LiftedState) → HasAt code place insns
      → Needs code (place + word_count insns) end → AllPass keeps insns end → AreGoodAt code place insns
  all_good code place [] end has is all = tt
  all_good code place (insn ∷ rest) end has is all =
      let count = word_count-cons insn rest in
      let e : place + word_count (insn ∷ rest) ≡ place + length (spelling insn) + word_count rest = omega arith in
      let more = subst (λ (p : ℕ). Needs code p end) e is in (
        good_passes code place insn _ has.0 (needs_at code (place + length (spelling insn)) rest end has.1 more) all.0,
        all_good code (place + length (spelling insn)) rest end has.1 more all.1,
      )

  -- jumps

  -- an instruction begins at a place, and needs only the record's pointer
  pub record Rests (code : List Insn) (place : ℕ) : Type 0 where
    pub begins : is_some (instruction_at code place) ≡ true
    pub needs : Needs code place (resting keeps)

  -- a jump leads to the place at its distance
  leads_there : (code : List Insn) (place skip : ℕ) (distance : ℤ) → Some (pos skip) ≡ Some distance
      → is_some (instruction_at code (place + 1 + skip)) ≡ true → IsForwardJump code place distance
  leads_there code place skip distance jumps begins =
      let e = same_distance (pos skip) distance jumps in
      record {
        target = place + 1 + skip;
        is_target = ap (λ (d : ℤ). pos (place + 1) +ℤ d) (sym e);
        later = omega arith;
        begins = begins;
      }

  pub good_jump : (code : List Insn) (place skip : ℕ) → instruction_at code place ≡ Some (jump (pos skip))
      → Rests code (place + 1 + skip) → IsGoodAt code place (jump (pos skip))
  good_jump code place skip at target = record {
    passes = record {
      edges = record { next = Unreached; target = resting keeps };
      passes = ap (λ (found : Option Insn). transfer (state_before keeps found) (jump (pos skip))) at;
      next = tt;
      target = λ distance to jumps leads.
          subst (λ (p : ℕ). IsWithin (resting keeps) (annotation_of keeps code p))
          (only_there place skip distance to (jump_leads skip distance jumps) leads)
          (subst (IsWithin (resting keeps)) (sym target.needs) (reflexive (resting keeps)));
    };
    leads = λ distance jumps. leads_there code place skip distance (jump_leads skip distance jumps) target.begins;
  }

  -- the state on an edge of the jump
  abbrev edge_by : Condition → Source → Option Narrowed → LiftedState
  edge_by condition source implied =
      on_edge (record { registers = registers_of (all_saved keeps) (held_before source); frame = unwritten })
      (record { condition = condition; width = Bits64; left = from_result; right = source }) (narrowed implied)

  abbrev edge : Condition → Source → Bool → LiftedState
  edge condition source taken = edge_by condition source (implied condition source taken)

  abbrev edges : Condition → Source → Edges
  edges condition source = record { next = edge condition source false; target = edge condition source true }

  -- the edges of the jump need only the record's pointer
  edge_rests : (condition : Condition) (source : Source) (implied : Option Narrowed) → IsOperand source
      → IsWithin (edge_by condition source implied) (resting keeps)
  edge_rests condition source None operand = tt
  edge_rests condition source (Some both) (is_immediate number) = rests_after keeps (record nothing { v0 = Number both.left })
  edge_rests condition source (Some both) is_register = rests_after keeps (record nothing { v0 = Number both.left; v1 = Number both.right })

  edge_leads : (code : List Insn) (place : ℕ) (condition : Condition) (source : Source) (taken : Bool) → IsOperand source → Rests code place
      → IsWithin (edge condition source taken) (annotation_of keeps code place)
  edge_leads code place condition source taken operand rests =
      subst (IsWithin (edge condition source taken)) (sym rests.needs) (edge_rests condition source (implied condition source taken) operand)

  branch_passes : (condition : Condition) (source : Source) (skip : ℕ) → IsOperand source
      → transfer (before keeps (conditional_jump condition source skip)) (conditional_jump condition source skip) ≡ Ok (edges condition source)
  unfolding implied
  branch_passes condition source skip (is_immediate number) = refl
  branch_passes condition source skip is_register = refl

  -- a conditional jump at a place, both of whose targets need nothing more
  pub record BranchAt (code : List Insn) (place : ℕ) (condition : Condition) (source : Source) (skip : ℕ) : Type 0 where
    pub at : instruction_at code place ≡ Some (conditional_jump condition source skip)
    pub next : Rests code (place + 1)
    pub target : Rests code (place + 1 + skip)

  pub good_branch : (code : List Insn) (place : ℕ) (condition : Condition) (source : Source) (skip : ℕ) → IsOperand source
      → BranchAt code place condition source skip → IsGoodAt code place (conditional_jump condition source skip)
  good_branch code place condition source skip operand branch = record {
    passes = record {
      edges = edges condition source;
      passes = ap (λ (found : Option Insn). transfer (state_before keeps found) (conditional_jump condition source skip)) branch.at
          ∙ branch_passes condition source skip operand;
      next = edge_leads code (place + 1) condition source false operand branch.next;
      target = λ distance to jumps leads.
          subst (λ (p : ℕ). IsWithin (edge condition source true) (annotation_of keeps code p)) (only_there place skip distance to jumps leads)
          (edge_leads code (place + 1 + skip) condition source true operand branch.target);
    };
    leads = λ distance jumps. leads_there code place skip distance jumps branch.target.begins;
  }

  -- an edge of a jump that compares register 0 with an immediate still has a number in it
  edge_answers : (condition : Condition) (number : ℤ) (taken : Bool) → IsWithin (edge condition (Immediate number) taken) (answered keeps)
  unfolding implied
  edge_answers condition number taken =
      by_result (refine condition Bits64 (between 0 (2 ^ 64 - 1)) (single (low_bits w64 (immediate_operand number))) taken)
      (refined-within condition Bits64 (between 0 (2 ^ 64 - 1)) (single (low_bits w64 (immediate_operand number))) taken _ refl)
    where
      by_result : (result : Option Narrowed)
          → IfSome result (λ both. interval.IsWithin both.left (between 0 (2 ^ 64 - 1))
          × interval.IsWithin both.right (single (low_bits w64 (immediate_operand number))))
          → IsWithin (edge_by condition (Immediate number) result) (answered keeps)
      by_result None within = tt
      by_result (Some both) within = knows_more keeps (record nothing { v0 = Number both.left }) (record nothing { v0 = any_number })
          (record { v0 = within.0; v1 = tt; v2 = tt; v3 = tt; frame = maps.reflexive map.unwritten })

  -- an instruction begins at a place, and needs at most a number in register 0
  pub record Asks (code : List Insn) (place : ℕ) : Type 0 where
    pub begins : is_some (instruction_at code place) ≡ true
    pub needs : Needs code place (resting keeps) ⊎ Needs code place (answered keeps)

  edge_asks : (code : List Insn) (place : ℕ) (condition : Condition) (number : ℤ) (taken : Bool) → Asks code place
      → IsWithin (edge condition (Immediate number) taken) (annotation_of keeps code place)
  edge_asks code place condition number taken asks = by_need asks.needs
    where
      by_need : Needs code place (resting keeps) ⊎ Needs code place (answered keeps)
          → IsWithin (edge condition (Immediate number) taken) (annotation_of keeps code place)
      by_need (inl rests) = edge_leads code place condition (Immediate number) taken (is_immediate number)
          (record { begins = asks.begins; needs = rests })
      by_need (inr needs) = subst (IsWithin (edge condition (Immediate number) taken)) (sym needs) (edge_answers condition number taken)

  -- a comparison with an immediate at a place, both of whose targets need at most the number that is compared
  pub record ChainAt (code : List Insn) (place : ℕ) (condition : Condition) (number : ℤ) (skip : ℕ) : Type 0 where
    pub at : instruction_at code place ≡ Some (conditional_jump condition (Immediate number) skip)
    pub next : Asks code (place + 1)
    pub target : Asks code (place + 1 + skip)

  pub good_chain : (code : List Insn) (place : ℕ) (condition : Condition) (number : ℤ) (skip : ℕ)
      → ChainAt code place condition number skip → IsGoodAt code place (conditional_jump condition (Immediate number) skip)
  good_chain code place condition number skip chain = record {
    passes = record {
      edges = edges condition (Immediate number);
      passes = ap (λ (found : Option Insn). transfer (state_before keeps found) (conditional_jump condition (Immediate number) skip)) chain.at
          ∙ branch_passes condition (Immediate number) skip (is_immediate number);
      next = edge_asks code (place + 1) condition number false chain.next;
      target = λ distance to jumps leads.
          subst (λ (p : ℕ). IsWithin (edge condition (Immediate number) true) (annotation_of keeps code p))
          (only_there place skip distance to jumps leads)
          (edge_asks code (place + 1 + skip) condition number true chain.target);
    };
    leads = λ distance jumps. leads_there code place skip distance jumps chain.target.begins;
  }
