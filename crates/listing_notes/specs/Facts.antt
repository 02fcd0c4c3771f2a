-- An instruction's line: its place, the instruction, and a note that shows a part of what is known before it.
use Rattle.std.specs.Prelude.{ℕ, ◌+◌, ◌-◌, Bool, ◌||◌, not, List, [], ◌∷◌, ◌++◌, length, map, filter, replicate, codes, decimal}
use Rattle.std.specs.List.{flat_map}
use Rattle.std.specs.Str.{bytes_eq}
use Rattle.bpf_insn.specs.declared.instruction.Insn.{Insn}
use Rattle.bpf_meaning.specs.declared.state.TheConstants.{REGISTERS}
use Rattle.bpf_insn.specs.declared.memory.TheConstants.{SLOTS}
use Rattle.bpf_text.specs.CodeText.{line_text}
use Rattle.bpf_verify.specs.LiftedState.{LiftedState, Unreached, Reached}
use Rattle.bpf_verify.specs.declared.abstract_state.AbstractState.{AbstractState}
use Rattle.listing_notes.specs.Notation.{fact_text, part_text}
use Rattle.listing_notes.specs.Reads.{parts_from, reads}
use Rattle.listing_notes.specs.declared.notation.Part.{Part}
use Rattle.listing_notes.specs.declared.facts.TheConstants.{NOTE_COLUMN}

-- texts separated by commas
abbrev pub joined : List (List ℕ) → List ℕ
joined [] = []
joined (text ∷ texts) = text ++ flat_map (λ next. codes ", " ++ next) texts

-- the facts about parts
abbrev pub facts_text : AbstractState → List Part → List ℕ
facts_text known parts = joined (map (fact_text known) parts)

-- the text of what is known about a part differs from that in the last state
abbrev pub is_changed : AbstractState → AbstractState → Part → Bool
is_changed last known part = not (bytes_eq (part_text last part) (part_text known part))

-- a part is shown if the instruction reads it, or if it changed
abbrev pub is_shown : AbstractState → AbstractState → Insn → Part → Bool
is_shown last known insn part = reads known insn part || is_changed last known part

abbrev pub shown_parts : AbstractState → AbstractState → Insn → List Part
shown_parts last known insn = filter (is_shown last known insn) (parts_from 0 (REGISTERS + SLOTS))

-- the note of what is known before an instruction, given what was known last
abbrev pub note_text : AbstractState → LiftedState → Insn → List ℕ
note_text last Unreached insn = codes "unreached"
note_text last (Reached known) insn = facts_text known (shown_parts last known insn)

-- a place and its instruction
abbrev pub prefix_text : ℕ → Insn → List ℕ
prefix_text place insn = decimal place ++ codes ": " ++ line_text insn

-- a text and its note, which begins at a fixed column
abbrev pub noted : List ℕ → List ℕ → List ℕ
noted text [] = text
noted text (byte ∷ note) = text ++ replicate (NOTE_COLUMN - length text) 32 ++ codes "; " ++ byte ∷ note

abbrev pub instruction_line : AbstractState → ℕ → Insn → LiftedState → List ℕ
instruction_line last place insn state = noted (prefix_text place insn) (note_text last state insn) ++ codes "\n"
