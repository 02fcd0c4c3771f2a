-- Sound questions: their code is good wherever its exits need nothing more, and a run of a block's code reaches the exit for its answer.
use Rattle.std.proofs.Common.{◌≡◌, ℕ, ◌+◌, Bool, true, false, ◌||◌, List, ◌++◌, ap, ◌∙◌}
use Rattle.std.specs.List.{list_any}
use Rattle.std.proofs.lemmas.List.Folds.{list_any-append}
use Rattle.std.proofs.Math.Bool.{or-true}
use Rattle.bpf_insn.specs.Code.{word_count}
use Rattle.bpf_insn.specs.declared.instruction.Insn.{Insn}
use Rattle.tl_segments.specs.Segment.{IsSegment}
use Rattle.cql2_code.specs.Layout.{writes_saved}
use Rattle.cql2_code.specs.Question.{Block, IsSoundTest, Question, Decided, Holds, Opposite, Joined, Coded, if_asked}
use Rattle.cql2_code.proofs.AbstractState.{resting}
use Rattle.cql2_code.proofs.Codes.{Placed}
use Rattle.cql2_code.proofs.Good.{AreGoodAt, Rests}
use Rattle.cql2_code.proofs.Leads.{IsAt, Leads, exit_of}
use Rattle.cql2_code.proofs.Passes.{needed_by}
use Rattle.cql2_code.proofs.Steps.{Setting}

-- a code at a place, with two exits that need nothing more
abbrev pub Settled : Bool → List Insn → ℕ → List Insn → ℕ → Type 0
Settled keeps code place insns skip = Placed (Rests keeps code) code place insns skip

-- a program keeps numbers in registers 7 to 9 if these instructions write one of them
abbrev pub Keeps : Bool → List Insn → Type 0
Keeps keeps insns = list_any writes_saved insns ≡ true → keeps ≡ true

pub keeps_front : (keeps : Bool) (a b : List Insn) → Keeps keeps (a ++ b) → Keeps keeps a
keeps_front keeps a b saved writes =
    saved (list_any-append writes_saved a b ∙ ap (λ (found : Bool). found || list_any writes_saved b) writes)

pub keeps_back : (keeps : Bool) (a b : List Insn) → Keeps keeps (a ++ b) → Keeps keeps b
keeps_back keeps a b saved writes =
    saved (list_any-append writes_saved a b ∙ ap (λ (found : Bool). list_any writes_saved a || found) writes ∙ or-true (list_any writes_saved a))

-- a block's code needs only the record's pointer, each of its instructions is good, and a run reaches the exit for its answer
pub record IsSoundBlock (block : Block) : Type 0 where
  pub needs : (keeps falls : Bool) (skip : ℕ) → needed_by keeps (block.code falls skip) (resting keeps) ≡ resting keeps
  pub good : (keeps : Bool) (code : List Insn) (falls : Bool) (skip place : ℕ) → Keeps keeps (block.code falls skip)
      → Settled keeps code place (block.code falls skip) skip → AreGoodAt keeps code place (block.code falls skip)
  pub leads : (on : Setting) (falls : Bool) (skip place : ℕ) → IsSegment on.segment
      → IsAt on.code place (block.code falls skip) skip
      → Leads on place (exit_of falls (block.answer on.segment) (place + word_count (block.code falls skip)) skip)

-- each test and each block of the question is sound
abbrev pub IsSound : Question → Type 0
IsSound (Decided found) = Unit {0}
IsSound (Holds test) = IsSoundTest test
IsSound (Opposite question) = IsSound question
IsSound (Joined neutral first second) = IsSound first × IsSound second
IsSound (Coded block) = IsSoundBlock block

pub if_asked_sound : (question : Question) (asked : Bool) → IsSound question → IsSound (if_asked question asked)
if_asked_sound question true sound = sound
if_asked_sound question false sound = sound
