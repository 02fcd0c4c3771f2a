-- What a run does at the instructions that set and read registers 7 to 9.
use Rattle.std.proofs.Common.{ℕ, zero, suc, pos, Bool, true, false, refl}
use Rattle.bpf_insn.specs.declared.value.Value.TheVariants as value
use Rattle.bpf_meaning.specs.declared.effect.Change.TheVariants.{SetRegister}
use Rattle.cql2_code.specs.Layout.{copy, from_result, into_saved, saved_code, move}
use Rattle.cql2_code.proofs.Steps.{with_0, Does, Runs, Scratch, Setting, changes, no_more, one_more}

-- the same, with a number in the register that keeps the numbers of a level
abbrev pub with_saved : ℕ → Scratch → ℕ → Scratch
with_saved zero scratch number = record scratch { v7 = value.Number number }
with_saved (suc zero) scratch number = record scratch { v8 = value.Number number }
with_saved (suc (suc level)) scratch number = record scratch { v9 = value.Number number }

pub moves_saved : (on : Setting) (level : ℕ) (from : Scratch) (number : ℕ)
    → Does on (move (into_saved level) (pos number)) from (with_saved level from number)
moves_saved on zero from number =
    changes on (move (into_saved 0) (pos number)) (SetRegister (into_saved 0) (value.Number number)) from (with_saved 0 from number)
    (λ place. refl) (λ place next. refl)
moves_saved on (suc zero) from number =
    changes on (move (into_saved 1) (pos number)) (SetRegister (into_saved 1) (value.Number number)) from (with_saved 1 from number)
    (λ place. refl) (λ place next. refl)
moves_saved on (suc (suc level)) from number =
    changes on (move (into_saved 2) (pos number)) (SetRegister (into_saved 2) (value.Number number)) from (with_saved 2 from number)
    (λ place. refl) (λ place next. refl)

-- register 0 is saved
pub copies_to_saved : (on : Setting) (level : ℕ) (from : Scratch) (number : ℕ)
    → Does on (copy (into_saved level) from_result) (with_0 from number) (with_saved level (with_0 from number) number)
copies_to_saved on zero from number =
    changes on (copy (into_saved 0) from_result) (SetRegister (into_saved 0) (value.Number number))
    (with_0 from number) (with_saved 0 (with_0 from number) number) (λ place. refl) (λ place next. refl)
copies_to_saved on (suc zero) from number =
    changes on (copy (into_saved 1) from_result) (SetRegister (into_saved 1) (value.Number number))
    (with_0 from number) (with_saved 1 (with_0 from number) number) (λ place. refl) (λ place next. refl)
copies_to_saved on (suc (suc level)) from number =
    changes on (copy (into_saved 2) from_result) (SetRegister (into_saved 2) (value.Number number))
    (with_0 from number) (with_saved 2 (with_0 from number) number) (λ place. refl) (λ place next. refl)

-- the registers and the frame after a program's first instructions
abbrev pub begun : Bool → Scratch → Scratch
begun true from = with_saved 2 (with_saved 1 (with_saved 0 from 0) 0) 0
begun false from = from

pub begins_saved : (on : Setting) (keeps : Bool) (from : Scratch) → Runs on (saved_code keeps) from (begun keeps from)
begins_saved on true from =
    one_more (moves_saved on 0 from 0)
    (one_more (moves_saved on 1 (with_saved 0 from 0) 0) (one_more (moves_saved on 2 (with_saved 1 (with_saved 0 from 0) 0) 0) no_more))
begins_saved on false from = no_more
