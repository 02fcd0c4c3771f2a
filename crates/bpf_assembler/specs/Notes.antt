-- The assembler's notes on the lines that it has read.
use Rattle.std.specs.Prelude.{◌≡◌, ℕ, ◌⊎◌, List, [], ◌∷◌, ◌++◌, length, map, Option, Some, None, Result, Ok, Err, MatchResult}
use denote.Ref.{Bor}
use Rattle.std.specs.BTreeMap.{BTreeMap, get_by}
use Rattle.std.specs.Cmp.Lexicographic.{slice_cmp}
use Rattle.std.specs.Ordering.{nat_cmp}
use Rattle.std.specs.Str.Lines.{lines}
use Rattle.bpf_insn.specs.declared.instruction.Insn.{Insn}
use Rattle.bpf_assembler.specs.declared.assembler.Item.{Item}
use Rattle.bpf_assembler.specs.declared.fault.TextFaultKind.{TextFaultKind}
use Rattle.bpf_assembler.specs.declared.fault.TextFault.{TextFault}
use Rattle.bpf_assembler.specs.declared.fault.TextFault.TheVariants.{InLine, Memory}
use Rattle.bpf_assembler.specs.Statement.{Statement, statement_in}
use Rattle.bpf_assembler.specs.View.{name_view}
use Rattle.bpf_assembler.specs.Text as text
use Rattle.bpf_assembler.specs.Text.{words_of, label_place, items_from, fault_after, refusal_after, FaultlessAfter, HasFirstFaultAt, HasStatements, resolve}

abbrev pub item_view : Item → text.Item
item_view item = text.item item.line item.place item.insn (name_view item.target)

-- these items, places of labels and number of words are those of the statements
pub record AreNotesOf (items : List Item) (labels : List ℕ → Option ℕ) (words : ℕ) (statements : List Statement) : Type 0 where
  pub items_are : map item_view items ≡ items_from 1 0 statements
  pub labels_are : (name : List ℕ) → labels name ≡ label_place name statements
  pub words_are : words ≡ words_of statements

-- a fault in the line that follows the statements, or a failed allocation
abbrev pub IsRefusal : ℕ → Option TextFaultKind → TextFault → Type 0
IsRefusal line refused fault = (fault ≡ Memory) ⊎ ((why : TextFaultKind) × (refused ≡ Some why) × (fault ≡ InLine line why))

-- an item's instruction was added, or it has a fault
abbrev pub PushesItem : List Statement → Item → List Insn → List Insn → Result (Unit {0}) TextFault → Type 0
PushesItem statements item old new result = MatchResult result
    (λ _. (insn : Insn) × (resolve statements (item_view item) ≡ Ok insn) × (new ≡ old ++ insn ∷ []))
    (λ fault. (fault ≡ Memory) ⊎ ((why : TextFaultKind) × (resolve statements (item_view item) ≡ Err why) × (fault ≡ InLine item.line why)))

-- the places of labels, by name
abbrev pub places_in : BTreeMap (Bor (List ℕ)) ℕ → List ℕ → Option ℕ
places_in labels name = get_by (λ key. slice_cmp nat_cmp name key.now) labels

-- One more line: the notes are of its statement too, after those before it, or it's refused.
abbrev pub NotesLine : List Statement → Result Statement TextFaultKind → ℕ → (List Statement → Type 0) → Result (Unit {0}) TextFault → Type 0
NotesLine before meaning line AreNotes result = MatchResult result
    (λ _. (statement : Statement) × (meaning ≡ Ok statement) × (fault_after before statement ≡ None) × AreNotes (before ++ statement ∷ []))
    (λ fault. IsRefusal line (refusal_after before meaning) fault)

-- The notes after the first `lines_read` lines; `rest` is the remaining text.
pub record HasRead (text rest : List ℕ) (lines_read : ℕ) (items : List Item) (labels : List ℕ → Option ℕ) (words : ℕ) : Type 0 where
  pub statements : List Statement
  pub front : List (List ℕ)
  pub split : lines text ≡ front ++ lines rest
  pub counted : lines_read ≡ length front
  pub meant : map statement_in front ≡ map Ok statements
  pub faultless : FaultlessAfter [] statements
  pub noted : AreNotesOf items labels words statements

-- the notes of a text, or the first fault of one of its lines
abbrev pub ReadsNotes : List ℕ → TextFault → Type 0
ReadsNotes text (InLine line fault) = HasFirstFaultAt text line fault
ReadsNotes text Memory = Unit {0}

-- the notes of a complete text
pub record HasNotes (text : List ℕ) (items : List Item) (labels : List ℕ → Option ℕ) (words : ℕ) : Type 0 where
  pub statements : List Statement
  pub has_statements : HasStatements text statements
  pub noted : AreNotesOf items labels words statements
