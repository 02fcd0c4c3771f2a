-- A grid of questions: rows of equally many columns. A path through it begins at the first cell. It goes down from a cell whose answer is yes, and
-- otherwise to the right. The grid's answer is yes if the path leaves the last row, and no if it leaves the last column.
use Rattle.std.specs.Prelude.{◌≡◌, ℕ, zero, suc, ◌+◌, ◌-◌, Bool, true, false, List, [], ◌∷◌, ◌++◌, replicate, MatchResult, Result, if◌then◌else◌}
use Rattle.tl_segments.specs.Segment.{SegmentParts}
use Rattle.bpf_insn.specs.Code.{word_count}
use Rattle.bpf_insn.specs.declared.instruction.Insn.{Insn}
use Rattle.cql2_code.specs.Layout.{MayBeRefused, first_skip, question_code}
use Rattle.cql2_code.specs.declared.fault.CompileFault.{CompileFault}
use Rattle.cql2_code.specs.Question.{Block, Decided, Question, answer}

-- Rows are given by their question in each column. The path from a column, with this number of columns left, leaves the last row.
abbrev pub finds : List (ℕ → Question) → ℕ → ℕ → SegmentParts → Bool
finds [] at left segment = true
finds (row ∷ rows) at zero segment = false
finds (row ∷ rows) at (suc left) segment =
    if answer (row at) segment then finds rows at (suc left) segment else finds (row ∷ rows) (at + 1) left segment

-- a code that begins with cells of a row, and for each of these the number of words from it to the end
pub record Laid : Type 0 where
  pub code : List Insn
  pub starts : List ℕ

-- the code of a cell before that of the cells to its right: it falls through to them on no, and jumps to the cell below on yes
abbrev pub lay_cell : Question → ℕ → Laid → Laid
lay_cell cell below others =
    let code = question_code cell false (word_count others.code - below) ++ others.code in
    record { code = code; starts = word_count code ∷ others.starts }

-- a row's code before the rows below, where its cells lead to: after the last one the answer is no
unfoldable pub lay_row : (ℕ → Question) → ℕ → List ℕ → ℕ → List Insn → Laid
lay_row row at [] skip rest = record { code = question_code (Decided false) true skip ++ rest; starts = [] }
lay_row row at (below ∷ others) skip rest = lay_cell (row at) below (lay_row row (at + 1) others skip rest)

-- the code of rows before the code below them, and with it a code of this many words after the grid
unfoldable pub lay_rows : List (ℕ → Question) → Bool → ℕ → ℕ → Laid → Laid
lay_rows [] falls skip words below = below
lay_rows (row ∷ rows) falls skip words below =
    let rest = lay_rows rows falls skip words below in
    lay_row row 0 rest.starts (first_skip falls true (word_count rest.code - words) skip) rest.code

-- after the last row the answer is yes
abbrev pub lay_end : ℕ → Bool → ℕ → List Insn → Laid
lay_end columns falls skip old =
    let code = question_code (Decided true) falls skip ++ old in record { code = code; starts = replicate columns (word_count code) }

abbrev pub lay : List (ℕ → Question) → ℕ → Bool → ℕ → List Insn → Laid
lay rows columns falls skip old = lay_rows rows falls skip (word_count old) (lay_end columns falls skip old)

abbrev pub grid : List (ℕ → Question) → ℕ → Block
grid rows columns = record { code = λ falls skip. (lay rows columns falls skip []).code; answer = finds rows 0 columns }

-- a code and the starts of its first cells are written
pub record Lays (laid : Laid) (new : List Insn) (cells : List ℕ) : Type 0 where
  pub code : new ≡ laid.code
  pub starts : cells ≡ laid.starts

-- they are written, or the code is refused
abbrev pub IsLaid : {T : Type 0} → Result T CompileFault → Laid → List Insn → List ℕ → Type 0
IsLaid result laid new cells = MatchResult result (λ _. Lays laid new cells) (MayBeRefused laid.code)
