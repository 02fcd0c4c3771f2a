-- Runs from one place of a code to another, and the exits of a question's code.
use Rattle.std.proofs.Common.{◌≡◌, ℕ, ◌+◌, Bool, List, if◌then◌else◌}
use Rattle.std.specs.Bool.{beq}
use Rattle.bpf_insn.specs.declared.instruction.Insn.{Insn}
use Rattle.bpf_meaning.specs.Step.{Configuration, after}
use Rattle.cql2_code.proofs.Codes.{Placed}
use Rattle.cql2_code.proofs.Steps.{Begins, Reaches, Scratch, Setting, and_on, running, state, stays, steps_on}

-- a run that reaches a place, whatever the registers and the frame hold there
pub record Arrives (on : Setting) (from : Configuration) (place : ℕ) : Type 0 where
  pub scratch : Scratch
  pub reaches : Reaches on from (running on scratch place)

-- runs from a place reach another, whatever they hold at first
abbrev pub Leads : Setting → ℕ → ℕ → Type 0
Leads on from to = (scratch : Scratch) → Arrives on (running on scratch from) to

pub leads_on : (on : Setting) (from middle to : ℕ) → Leads on from middle → Leads on middle to → Leads on from to
leads_on on from middle to one two scratch =
    let there = one scratch in
    let further = two there.scratch in
    record { scratch = further.scratch; reaches = and_on on _ (running on there.scratch middle) _ there.reaches further.reaches }

-- a step reaches a place
pub arrives_by : (on : Setting) (from scratch : Scratch) (place to : ℕ) → running on scratch to ≡ after on.code on.segment (state on from place)
    → Arrives on (running on from place) to
arrives_by on from scratch place to is =
    record { scratch = scratch; reaches = steps_on on _ (running on scratch to) _ is (stays on (running on scratch to)) }

-- the exit that a question's code takes for this answer
abbrev pub exit_of : Bool → Bool → ℕ → ℕ → ℕ
exit_of falls answer end skip = if beq answer falls then end else end + skip

-- a code at a place, with two exits where instructions begin
abbrev pub IsAt : List Insn → ℕ → List Insn → ℕ → Type 0
IsAt code place insns skip = Placed (Begins code) code place insns skip
