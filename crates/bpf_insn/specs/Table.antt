-- What a code keeps in addition to its instructions, to find them by place and by index.
use Rattle.std.specs.Prelude.{ℕ, suc, ◌+◌, List, [], ◌∷◌, ◌++◌, length, map, Option, Some, None}
use Rattle.bpf_insn.specs.Form.{spelling}
use Rattle.bpf_insn.specs.declared.word.Word.{Word}
use Rattle.bpf_insn.specs.declared.instruction.Insn.{Insn}

-- the places of instructions, given the first one's
abbrev pub places_from : ℕ → List Insn → List ℕ
places_from place [] = []
places_from place (insn ∷ code) = place ∷ places_from (place + length (spelling insn)) code

-- an instruction's index at its first word, and nothing at the second one, if there is one
abbrev pub indexes_in : ℕ → List Word → List (Option ℕ)
indexes_in index [] = []
indexes_in index (first ∷ rest) = Some index ∷ map (λ _. None) rest

-- for each word, the index of the instruction that begins there, given the first one's
abbrev pub indexes_from : ℕ → List Insn → List (Option ℕ)
indexes_from index [] = []
indexes_from index (insn ∷ code) = indexes_in index (spelling insn) ++ indexes_from (suc index) code
