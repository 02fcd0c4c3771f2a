-- The code of a grid as it is written, back to front.
use Rattle.std.proofs.Common.{◌≡◌, ℕ, zero, suc, ◌+◌, ◌-◌, ◌≤◌, Bool, true, false, List, [], ◌∷◌, ◌++◌, length, map, replicate}
use Rattle.std.proofs.Common.{refl, sym, ap, ◌∙◌, subst, arith, append_assoc}
use Rattle.std.specs.Prelude.{Err, IsErrAnd, Ok, Result}
use Rattle.std.proofs.lemmas.Result.{MatchResult-weaker}
use Rattle.bpf_insn.specs.Code.{word_count}
use Rattle.bpf_insn.specs.declared.instruction.Insn.{Insn}
use Rattle.bpf_insn.proofs.PlaceLemmas.{word_count-append}
use Rattle.cql2_code.specs.Grid.{IsLaid, Laid, Lays, grid, lay, lay_end, lay_row, lay_rows}
use Rattle.cql2_code.specs.Layout.{IsBefore, IsTooLong, MayBeRefused, Prepends, Refuses, Writes, first_skip, question_code}
use Rattle.cql2_code.specs.Question.{Coded, Decided, Question}
use Rattle.cql2_code.specs.declared.fault.CompileFault.{CompileFault}
use Rattle.cql2_code.specs.declared.question.Exits.{Exits}
use Rattle.cql2_code.proofs.GridLemmas.{row_ends, row_words}
use Rattle.cql2_code.proofs.Refused.{longer}

-- a call is refused with the fault of a call that it makes
pub laid_refused : {T : Type 0} {fault : CompileFault} (laid : Laid) (result : Result T CompileFault) (new : List Insn) (cells : List ℕ)
    → IsErrAnd result (λ same. same ≡ fault) → MayBeRefused laid.code fault → IsLaid result laid new cells
laid_refused laid (Err same) new cells is refused = subst (MayBeRefused laid.code) (sym is) refused
laid_refused laid (Ok none) new cells is refused = absurd is

longer_refused : {fault : CompileFault} (front : List Insn) {code all : List Insn} → all ≡ front ++ code → MayBeRefused code fault → MayBeRefused all fault
longer_refused front is refused = record { too_long = λ too_long. subst IsTooLong (sym is) (longer front (refused.too_long too_long)) }

-- Rows

-- after the last cell, with the row's exit on no
pub record IsRowEnd (starts : List ℕ) (past : Exits) : Type 0 where
  pub none : length starts ≡ 0
  pub falls : past.falls ≡ true

pub cells_none : {T : Type 0} (row : ℕ → Question) (at : ℕ) (starts : List ℕ) (past : Exits) (old new : List Insn) (result : Result T CompileFault)
    → IsRowEnd starts past → Prepends result (Decided false) past old new → IsLaid result (lay_row row at starts past.skip old) new starts
unfolding lay_row
cells_none row at [] past old new result last puts =
    let same = ap (λ (b : Bool). question_code (Decided false) b past.skip ++ old) last.falls in
    MatchResult-weaker result puts (λ _ written. record { code = written.code ∙ same; starts = refl })
    (λ fault refused. record { too_long = λ too_long. subst IsTooLong same (refused.too_long too_long) })
cells_none row at (start ∷ starts) past old new result last puts = let none = last.none in absurd (omega arith)

-- a cell's exits, by the start of the cell below
pub record IsCell (start : ℕ) (exits : Exits) (middle : List Insn) : Type 0 where
  pub falls : exits.falls ≡ false
  pub over : exits.skip ≡ word_count middle - start

-- a cell before those to its right
module _ (row : ℕ → Question) (at start : ℕ) (starts others : List ℕ) (skip : ℕ) (old : List Insn) (is : starts ≡ start ∷ others) where
  pub cells_more_refused : {fault : CompileFault} → MayBeRefused (lay_row row (at + 1) others skip old).code fault
      → MayBeRefused (lay_row row at starts skip old).code fault
  unfolding lay_row
  cells_more_refused refused = rw is (longer_refused
      (question_code (row at) false (word_count (lay_row row (at + 1) others skip old).code - start)) refl refused)

  cell_code : (exits : Exits) (middle : List Insn) → IsCell start exits middle → middle ≡ (lay_row row (at + 1) others skip old).code
      → question_code (row at) exits.falls exits.skip ++ middle ≡ (lay_row row at starts skip old).code
  unfolding lay_row
  cell_code exits middle cell same = rw is
      (ap (λ (b : Bool). question_code (row at) b exits.skip ++ middle) cell.falls
      ∙ ap (λ (n : ℕ). question_code (row at) false n ++ middle) cell.over
      ∙ ap (λ (insns : List Insn). question_code (row at) false (word_count insns - start) ++ insns) same)

  pub cell_refused : {fault : CompileFault} (exits : Exits) (middle : List Insn) (cells : List ℕ) → IsCell start exits middle
      → Lays (lay_row row (at + 1) others skip old) middle cells → Refuses (row at) exits middle fault
      → MayBeRefused (lay_row row at starts skip old).code fault
  cell_refused exits middle cells cell lays refused =
      record { too_long = λ too_long. subst IsTooLong (cell_code exits middle cell lays.code) (refused.too_long too_long) }

  cell_starts : (cells : List ℕ) (words : ℕ) → cells ≡ (lay_row row (at + 1) others skip old).starts
      → words ≡ word_count (lay_row row at starts skip old).code → words ∷ cells ≡ (lay_row row at starts skip old).starts
  unfolding lay_row
  cell_starts cells words same counted = rw is
      (ap (λ (starts : List ℕ). words ∷ starts) same
      ∙ ap (λ (n : ℕ). n ∷ (lay_row row (at + 1) others skip old).starts)
      (counted ∙ ap (λ (starts : List ℕ). word_count (lay_row row at starts skip old).code) is))

  pub cell_laid : (exits : Exits) (middle new : List Insn) (cells : List ℕ) (words : ℕ) → IsCell start exits middle
      → Lays (lay_row row (at + 1) others skip old) middle cells → Writes (row at) exits middle new → words ≡ word_count new
      → Lays (lay_row row at starts skip old) new (words ∷ cells)
  cell_laid exits middle new cells words cell lays written counted =
      let code = written.code ∙ cell_code exits middle cell lays.code in
      record { code = code; starts = cell_starts cells words lays.starts (counted ∙ ap word_count code) }

-- Several rows

pub rows_words : (rows : List (ℕ → Question)) (falls : Bool) (skip words : ℕ) (below : Laid)
    → word_count below.code ≤ word_count (lay_rows rows falls skip words below).code
unfolding lay_rows
rows_words [] falls skip words below = omega arith
rows_words (row ∷ rows) falls skip words below =
    let rest = lay_rows rows falls skip words below in
    let fewer = rows_words rows falls skip words below in
    let more = row_words row 0 rest.starts (first_skip falls true (word_count rest.code - words) skip) rest.code in
    omega arith

pub rows_none : (falls : Bool) (skip words : ℕ) (code : List Insn) (starts : List ℕ)
    → Lays (lay_rows [] falls skip words (record { code = code; starts = starts })) code starts
unfolding lay_rows
rows_none falls skip words code starts = record { code = refl; starts = refl }

module _ (row : ℕ → Question) (rows : List (ℕ → Question)) (falls : Bool) (skip words : ℕ) (below : Laid) where
  pub rows_refused : {fault : CompileFault} → MayBeRefused (lay_rows rows falls skip words below).code fault
      → MayBeRefused (lay_rows (row ∷ rows) falls skip words below).code fault
  unfolding lay_rows
  rows_refused refused =
      let rest = lay_rows rows falls skip words below in
      let ends = row_ends row 0 rest.starts (first_skip falls true (word_count rest.code - words) skip) rest.code in
      longer_refused ends.front ends.is refused

  row_laid : (middle : List Insn) (cells : List ℕ) (past : ℕ) → Lays (lay_rows rows falls skip words below) middle cells
      → past ≡ first_skip falls true (word_count middle - words) skip
      → lay_row row 0 cells past middle ≡ lay_rows (row ∷ rows) falls skip words below
  unfolding lay_rows
  row_laid middle cells past lays is =
      ap (λ (n : ℕ). lay_row row 0 cells n middle) is
      ∙ ap (λ (code : List Insn). lay_row row 0 cells (first_skip falls true (word_count code - words) skip) code) lays.code
      ∙ ap (λ (starts : List ℕ). lay_row row 0 starts
      (first_skip falls true (word_count (lay_rows rows falls skip words below).code - words) skip) (lay_rows rows falls skip words below).code)
      lays.starts

  -- the first row, before the others
  pub rows_laid : {T : Type 0} (middle : List Insn) (cells : List ℕ) (exits past : Exits) (result : Result T CompileFault) (new : List Insn)
      (starts : List ℕ) → Lays (lay_rows rows falls skip words below) middle cells → exits.falls ≡ falls → exits.skip ≡ skip
      → IsBefore true exits past (word_count middle - words) → IsLaid result (lay_row row 0 cells past.skip middle) new starts
      → IsLaid result (lay_rows (row ∷ rows) falls skip words below) new starts
  rows_laid middle cells exits past result new starts lays falls_is skip_is before laid =
      let past_is = before.skip ∙ ap (λ (b : Bool). first_skip b true (word_count middle - words) exits.skip) falls_is
      ∙ ap (first_skip falls true (word_count middle - words)) skip_is in
      subst (λ (l : Laid). IsLaid result l new starts) (row_laid middle cells past.skip lays past_is) laid

-- The code after a grid

-- a code is the same before another code, to whose end the starts are counted
record Shifted (old : List Insn) (alone before : Laid) : Type 0 where
  code : before.code ≡ alone.code ++ old
  starts : before.starts ≡ map (λ start. start + word_count old) alone.starts

row_shifted : (old : List Insn) (row : ℕ → Question) (at : ℕ) (starts : List ℕ) (skip : ℕ) (rest : List Insn)
    → Shifted old (lay_row row at starts skip rest) (lay_row row at (map (λ start. start + word_count old) starts) skip (rest ++ old))
unfolding lay_row
row_shifted old row at [] skip rest =
    record { code = sym (append_assoc (question_code (Decided false) true skip) rest old); starts = refl }
row_shifted old row at (start ∷ starts) skip rest =
    let shifted = row_shifted old row (at + 1) starts skip rest in
    let others = lay_row row (at + 1) starts skip rest in
    let moved = lay_row row (at + 1) (map (λ start. start + word_count old) starts) skip (rest ++ old) in
    let cell = question_code (row at) false (word_count others.code - start) in
    let count = ap word_count shifted.code ∙ word_count-append others.code old in
    let over : word_count moved.code - (start + word_count old) ≡ word_count others.code - start = omega arith in
    let code = ap (λ (n : ℕ). question_code (row at) false n ++ moved.code) over ∙ ap (λ (insns : List Insn). cell ++ insns) shifted.code
    ∙ sym (append_assoc cell others.code old) in
    let words = ap word_count code ∙ word_count-append (cell ++ others.code) old in
    record {
      code = code;
      starts = ap (λ (n : ℕ). n ∷ moved.starts) words
          ∙ ap (λ (cells : List ℕ). (word_count (cell ++ others.code) + word_count old) ∷ cells) shifted.starts;
    }

rows_shifted : (old : List Insn) (rows : List (ℕ → Question)) (falls : Bool) (skip : ℕ) (alone before : Laid) → Shifted old alone before
    → Shifted old (lay_rows rows falls skip (word_count []) alone) (lay_rows rows falls skip (word_count old) before)
unfolding lay_rows
rows_shifted old [] falls skip alone before shifted = shifted
rows_shifted old (row ∷ rows) falls skip alone before shifted =
    let rest = lay_rows rows falls skip (word_count []) alone in
    let moved = lay_rows rows falls skip (word_count old) before in
    let more = rows_shifted old rows falls skip alone before shifted in
    let count = ap word_count more.code ∙ word_count-append rest.code old in
    let words : word_count moved.code - word_count old ≡ word_count rest.code - word_count [] = omega arith in
    let past = first_skip falls true (word_count rest.code - word_count []) skip in
    subst (Shifted old (lay_row row 0 rest.starts past rest.code))
    (sym
    (ap (λ (n : ℕ). lay_row row 0 moved.starts (first_skip falls true n skip) moved.code) words
    ∙ ap (λ (code : List Insn). lay_row row 0 moved.starts past code) more.code
    ∙ ap (λ (starts : List ℕ). lay_row row 0 starts past (rest.code ++ old)) more.starts))
    (row_shifted old row 0 rest.starts past rest.code)

end_shifted : (old : List Insn) (columns : ℕ) (falls : Bool) (skip : ℕ)
    → Shifted old (lay_end columns falls skip []) (lay_end columns falls skip old)
end_shifted old columns falls skip =
    let yes = question_code (Decided true) falls skip in
    let code : yes ++ old ≡ (yes ++ []) ++ old = sym (append_assoc yes [] old) in
    let words = ap word_count code ∙ word_count-append (yes ++ []) old in
    record { code = code; starts = all_shifted columns (word_count (yes ++ old)) (word_count (yes ++ [])) words }
  where
    all_shifted : (count before alone : ℕ) → before ≡ alone + word_count old
        → replicate count before ≡ map (λ start. start + word_count old) (replicate count alone)
    all_shifted zero before alone is = refl
    all_shifted (suc count) before alone is =
        ap (λ (n : ℕ). n ∷ replicate count before) is
        ∙ ap (λ (starts : List ℕ). (alone + word_count old) ∷ starts) (all_shifted count before alone is)

grid_shifted : (old : List Insn) (rows : List (ℕ → Question)) (columns : ℕ) (falls : Bool) (skip : ℕ)
    → (lay rows columns falls skip old).code ≡ (lay rows columns falls skip []).code ++ old
grid_shifted old rows columns falls skip =
    (rows_shifted old rows falls skip (lay_end columns falls skip []) (lay_end columns falls skip old)
    (end_shifted old columns falls skip)).code

-- Whole grids

module _ (rows : List (ℕ → Question)) (columns : ℕ) (exits : Exits) (old : List Insn) where
  -- the grid's code is refused if that of its end is
  rows_end_with : (rows : List (ℕ → Question)) (falls : Bool) (skip words : ℕ) (below : Laid) {fault : CompileFault}
      → MayBeRefused below.code fault → MayBeRefused (lay_rows rows falls skip words below).code fault
  unfolding lay_rows
  rows_end_with [] falls skip words below refused = refused
  rows_end_with (row ∷ rows) falls skip words below refused =
      rows_refused row rows falls skip words below (rows_end_with rows falls skip words below refused)

  pub grid_refused : {fault : CompileFault} → MayBeRefused (lay rows columns exits.falls exits.skip old).code fault
      → Refuses (Coded (grid rows columns)) exits old fault
  grid_refused refused = record {
    too_long = λ too_long. subst IsTooLong (grid_shifted old rows columns exits.falls exits.skip) (refused.too_long too_long);
  }

  pub end_refused : {fault : CompileFault} → Refuses (Decided true) exits old fault → Refuses (Coded (grid rows columns)) exits old fault
  end_refused refused =
      grid_refused (rows_end_with rows exits.falls exits.skip (word_count old) (lay_end columns exits.falls exits.skip old)
      (record { too_long = refused.too_long }))

  -- the grid is written before its end
  pub grid_written : {T : Type 0} (middle new : List Insn) (words : ℕ) (starts cells : List ℕ) (result : Result T CompileFault)
      → words ≡ word_count old → Writes (Decided true) exits old middle → starts ≡ replicate columns (word_count middle)
      → IsLaid result (lay_rows rows exits.falls exits.skip words (record { code = middle; starts = starts })) new cells
      → Prepends result (Coded (grid rows columns)) exits old new
  grid_written middle new words starts cells result counted written starts_are laid =
      MatchResult-weaker result moved
      (λ _ lays. record { code = lays.code ∙ grid_shifted old rows columns exits.falls exits.skip })
      (λ fault refused. grid_refused refused)
    where
      end_is : (code : List Insn) → middle ≡ code
          → (let laid : Laid = record { code = middle; starts = starts } in laid) ≡ record { code = code; starts = replicate columns (word_count code) }
      end_is code same =
          ap (λ (cells : List ℕ). (let laid : Laid = record { code = middle; starts = cells } in laid)) starts_are
          ∙ ap (λ (insns : List Insn). (let laid : Laid = record { code = insns; starts = replicate columns (word_count insns) } in laid)) same

      moved : IsLaid result (lay rows columns exits.falls exits.skip old) new cells
      moved =
          subst (λ (below : Laid). IsLaid result (lay_rows rows exits.falls exits.skip (word_count old) below) new cells)
          (end_is (question_code (Decided true) exits.falls exits.skip ++ old) written.code)
          (subst (λ (n : ℕ). IsLaid result (lay_rows rows exits.falls exits.skip n (record { code = middle; starts = starts })) new cells)
          counted laid)
