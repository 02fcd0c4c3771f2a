use Rattle.std.proofs.Common.{◌≡◌, List, map, drop}
use Rattle.bpf_assembler.specs.Statement.{Statement}
use Rattle.bpf_assembler.specs.Text.{code_of, code_from}
use Rattle.bpf_assembler.specs.Notes.{item_view, AreNotesOf, places_in}
use Rattle.bpf_assembler.proofs.NoteLemmas.{with_front}
use Rattle.bpf_assembler.proofs.assembler.Notes.code.Given as goal

-- the code so far, and that of the remaining items
abbrev pub invariant-loop-item : goal.invariant-loop-item
invariant-loop-item g l =
    (statements : List Statement) → AreNotesOf l.self.items.items (places_in l.self.labels) l.self.words statements
    → with_front l.builder (code_from statements (map item_view (drop l.item-index l.self.items.items))) ≡ code_of statements
