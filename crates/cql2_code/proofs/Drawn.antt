-- The code of a shape passes the verifier's checks: numbers are known in all registers but that of the record's pointer, before and after each part.
use Rattle.std.proofs.Common.{◌≡◌, ℕ, zero, suc, ◌+◌, ℤ, pos, ◌+ℤ◌, true, is_some, List, [], ◌∷◌, ◌++◌, get_or, length}
use Rattle.std.proofs.Common.{Option, Some, Ok, refl, sym, ap, ◌∙◌, subst, arith}
use Rattle.bpf_frame.specs.FrameMap.{unwritten}
use Rattle.bpf_frame.specs.OrderLaws as maps
use Rattle.bpf_flow.specs.Flow.{IsForwardJump}
use Rattle.bpf_insn.specs.Code.{instruction_at, spelling, word_count}
use Rattle.bpf_insn.specs.declared.instruction.Insn.{Insn}
use Rattle.bpf_insn.specs.declared.memory.TheConstants.{FRAME_LENGTH}
use Rattle.bpf_insn.proofs.PlaceLemmas.{word_count-append, word_count-cons}
use Rattle.bpf_kinds.proofs.KindLemmas as kinds
use Rattle.bpf_kinds.specs.Kind as kind
use Rattle.bpf_kinds.specs.declared.kind.Kind.{Kind}
use Rattle.bpf_kinds.specs.declared.kind.Kind.TheVariants.{Nothing}
use Rattle.bpf_verify.specs.LiftedState.{Edges, IsWithin, LiftedState, Reached}
use Rattle.bpf_verify.specs.Transfer.{transfer}
use Rattle.bpf_verify.proofs.StateLaws.{reflexive}
use Rattle.cql2_code.specs.Skipping.{Compared, skip, turned, unless, unless_both}
use Rattle.cql2_code.proofs.AbstractState.{annotation_of, any_number, before, drawn, frame_at, state_before, to_record}
use Rattle.cql2_code.proofs.Good.{AreGoodAt, IsGoodAt, Needs, good-append, good_passes, only_there, same_distance}
use Rattle.cql2_code.proofs.Passes.{Passes, needed_by, needed_by-append}
use Rattle.cql2_code.proofs.Steps.{HasAt, has_back, has_front}

-- the contents of registers 0 to 5 and 7 to 9
pub record Nine : Type 0 where
  pub k0 : Kind
  pub k1 : Kind
  pub k2 : Kind
  pub k3 : Kind
  pub k4 : Kind
  pub k5 : Kind
  pub k7 : Kind
  pub k8 : Kind
  pub k9 : Kind

abbrev pub nine_numbers : Nine
nine_numbers = record {
  k0 = any_number;
  k1 = any_number;
  k2 = any_number;
  k3 = any_number;
  k4 = any_number;
  k5 = any_number;
  k7 = any_number;
  k8 = any_number;
  k9 = any_number;
}

abbrev pub nine_registers : Nine → List Kind
nine_registers nine =
    nine.k0 ∷ nine.k1 ∷ nine.k2 ∷ nine.k3 ∷ nine.k4 ∷ nine.k5 ∷ to_record ∷ nine.k7 ∷ nine.k8 ∷ nine.k9 ∷ frame_at FRAME_LENGTH ∷ []

abbrev pub holding : Nine → LiftedState
holding nine = Reached (record { registers = nine_registers nine; frame = unwritten })

-- a number is known in each
abbrev pub IsNumber : Kind → Type 0
IsNumber k = kind.IsWithin k any_number

pub record AreNumbers (nine : Nine) : Type 0 where
  pub k0 : IsNumber nine.k0
  pub k1 : IsNumber nine.k1
  pub k2 : IsNumber nine.k2
  pub k3 : IsNumber nine.k3
  pub k4 : IsNumber nine.k4
  pub k5 : IsNumber nine.k5
  pub k7 : IsNumber nine.k7
  pub k8 : IsNumber nine.k8
  pub k9 : IsNumber nine.k9

pub any_is : IsNumber any_number
any_is = kinds.reflexive any_number

-- the contents of one are within those of another, one by one
pub record AreWithin (nine other : Nine) : Type 0 where
  pub k0 : kind.IsWithin nine.k0 other.k0
  pub k1 : kind.IsWithin nine.k1 other.k1
  pub k2 : kind.IsWithin nine.k2 other.k2
  pub k3 : kind.IsWithin nine.k3 other.k3
  pub k4 : kind.IsWithin nine.k4 other.k4
  pub k5 : kind.IsWithin nine.k5 other.k5
  pub k7 : kind.IsWithin nine.k7 other.k7
  pub k8 : kind.IsWithin nine.k8 other.k8
  pub k9 : kind.IsWithin nine.k9 other.k9

pub nine_within : (nine other : Nine) → AreWithin nine other → IsWithin (holding nine) (holding other)
nine_within nine other are = record { registers = each; frame = maps.reflexive unwritten }
  where
    same : IsWithin (drawn true) (drawn true)
    same = reflexive (drawn true)

    each : (register : ℕ) → kind.IsWithin (get_or (nine_registers nine) register Nothing) (get_or (nine_registers other) register Nothing)
    each zero = are.k0
    each (suc zero) = are.k1
    each (suc (suc zero)) = are.k2
    each (suc (suc (suc zero))) = are.k3
    each (suc (suc (suc (suc zero)))) = are.k4
    each (suc (suc (suc (suc (suc zero))))) = are.k5
    each (suc (suc (suc (suc (suc (suc zero)))))) = same.registers 6
    each (suc (suc (suc (suc (suc (suc (suc zero))))))) = are.k7
    each (suc (suc (suc (suc (suc (suc (suc (suc zero)))))))) = are.k8
    each (suc (suc (suc (suc (suc (suc (suc (suc (suc zero))))))))) = are.k9
    each (suc (suc (suc (suc (suc (suc (suc (suc (suc (suc register)))))))))) =
        same.registers (suc (suc (suc (suc (suc (suc (suc (suc (suc (suc register))))))))))

pub numbers_within : (nine : Nine) → AreNumbers nine → IsWithin (holding nine) (drawn true)
numbers_within nine are = nine_within nine nine_numbers (record {
  k0 = are.k0;
  k1 = are.k1;
  k2 = are.k2;
  k3 = are.k3;
  k4 = are.k4;
  k5 = are.k5;
  k7 = are.k7;
  k8 = are.k8;
  k9 = are.k9;
})

-- an instruction begins at a place, before which numbers are known
pub record Continues (code : List Insn) (place : ℕ) : Type 0 where
  pub begins : is_some (instruction_at code place) ≡ true
  pub needs : Needs true code place (drawn true)

-- instructions need numbers, and are good if the instruction after them needs no more
pub record Draws (insns : List Insn) : Type 0 where
  pub needs : needed_by true insns (drawn true) ≡ drawn true
  pub good : (code : List Insn) (place : ℕ) → HasAt code place insns → Continues code (place + word_count insns)
      → AreGoodAt true code place insns

pub draws_none : Draws []
draws_none = record { needs = refl; good = λ code place has end. tt }

-- the place before instructions
pub continues_at : (code : List Insn) (place : ℕ) (insns : List Insn) → HasAt code place insns → Draws insns
    → Continues code (place + word_count insns) → Continues code place
continues_at code place [] has draws end = let e : place + 0 ≡ place = omega arith in subst (Continues code) e end
continues_at code place (insn ∷ rest) has draws end =
    record { begins = ap is_some has.0; needs = ap (state_before true) has.0 ∙ draws.needs }

pub draws_one : (insn : Insn) → before true insn ≡ drawn true → Passes true insn (drawn true) → Draws (insn ∷ [])
draws_one insn needs passes = record {
  needs = needs;
  good = λ code place has end.
      let count = word_count-cons insn [] in
      let e : place + word_count (insn ∷ []) ≡ place + length (spelling insn) = omega arith in
      (good_passes true code place insn (drawn true) has.0 (subst (λ (p : ℕ). Needs true code p (drawn true)) e end.needs) passes, tt);
}

pub draws_both : (a b : List Insn) → Draws a → Draws b → Draws (a ++ b)
draws_both a b one two = record {
  needs = needed_by-append true a b (drawn true) ∙ ap (needed_by true a) two.needs ∙ one.needs;
  good = λ code place has end.
      let count = word_count-append a b in
      let e : place + word_count (a ++ b) ≡ place + word_count a + word_count b = omega arith in
      let last = subst (Continues code) e end in
      let back = has_back code place a b has in
      good-append true code place a b
      (one.good code place (has_front code place a b has) (continues_at code (place + word_count a) b back two last))
      (two.good code (place + word_count a) back last);
}

-- Skipped parts

-- a comparison of numbers, which are known whether it holds or not
pub record Skips (compared : Compared) : Type 0 where
  pub needs : (words : ℕ) → before true (skip compared words) ≡ drawn true
  pub edges : Edges
  pub transfers : (words : ℕ) → transfer (drawn true) (skip compared words) ≡ Ok edges
  pub next : IsWithin edges.next (drawn true)
  pub target : IsWithin edges.target (drawn true)

leads_on : (code : List Insn) (place words : ℕ) (distance : ℤ) → Some (pos words) ≡ Some distance → Continues code (place + 1 + words)
    → IsForwardJump code place distance
leads_on code place words distance jumps target =
    let e = same_distance (pos words) distance jumps in
    record {
      target = place + 1 + words;
      is_target = ap (λ (d : ℤ). pos (place + 1) +ℤ d) (sym e);
      later = omega arith;
      begins = target.begins;
    }

skip_good : (code : List Insn) (place words : ℕ) (compared : Compared) → Skips compared → instruction_at code place ≡ Some (skip compared words)
    → Continues code (place + 1) → Continues code (place + 1 + words) → IsGoodAt true code place (skip compared words)
skip_good code place words compared skips at next target = record {
  passes = record {
    edges = skips.edges;
    passes = ap (λ (found : Option Insn). transfer (state_before true found) (skip compared words)) at
        ∙ ap (λ (state : LiftedState). transfer state (skip compared words)) (skips.needs words) ∙ skips.transfers words;
    next = subst (IsWithin skips.edges.next) (sym next.needs) skips.next;
    target = λ distance to jumps leads.
        subst (λ (p : ℕ). IsWithin skips.edges.target (annotation_of true code p)) (only_there place words distance to jumps leads)
        (subst (IsWithin skips.edges.target) (sym target.needs) skips.target);
  };
  leads = λ distance jumps. leads_on code place words distance jumps target;
}

pub draws_unless : (compared : Compared) (part : List Insn) → Skips compared → Draws part → Draws (unless compared part)
draws_unless compared part skips draws = record {
  needs = skips.needs (word_count part);
  good = λ code place has end.
      let count = word_count-cons (skip compared (word_count part)) part in
      let e : place + word_count (unless compared part) ≡ place + 1 + word_count part = omega arith in
      let last = subst (Continues code) e end in (
        skip_good code place (word_count part) compared skips has.0 (continues_at code (place + 1) part has.1 draws last) last,
        draws.good code (place + 1) has.1 last,
      );
}

pub draws_unless_both : (first second : Compared) (part : List Insn) → Skips (turned first) → Skips second → Draws part
    → Draws (unless_both first second part)
draws_unless_both first second part turns skips draws = record {
  needs = turns.needs 1;
  good = λ code place has end.
      let count = word_count-cons (skip (turned first) 1) (unless second part) in
      let more = word_count-cons (skip second (word_count part)) part in
      let e : place + word_count (unless_both first second part) ≡ place + 1 + word_count (unless second part) = omega arith in
      let f : place + 1 + word_count (unless second part) ≡ place + 1 + 1 + word_count part = omega arith in
      let last = subst (Continues code) e end in
      let inner = draws_unless second part skips draws in
      let start = continues_at code (place + 1 + 1) part has.1.1 draws (subst (Continues code) f last) in (
        skip_good code place 1 (turned first) turns has.0 (continues_at code (place + 1) (unless second part) has.1 inner last) start,
        inner.good code (place + 1) has.1 last,
      );
}
