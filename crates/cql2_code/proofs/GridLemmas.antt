-- A grid is a sound block if its cells are sound: its code needs only the record's pointer, and a run takes the exit for its answer.
use Rattle.std.proofs.Common.{◌≡◌, ℕ, zero, suc, ◌+◌, ◌-◌, ◌≤◌, Bool, true, false, List, [], ◌∷◌, ◌++◌, length, replicate, if◌then◌else◌}
use Rattle.std.proofs.Common.{refl, sym, ap, ◌∙◌, subst, arith, append_assoc}
use Rattle.std.proofs.lemmas.List.{length-replicate}
use Rattle.bpf_insn.specs.Code.{word_count}
use Rattle.bpf_insn.specs.declared.instruction.Insn.{Insn}
use Rattle.bpf_insn.proofs.PlaceLemmas.{word_count-append}
use Rattle.tl_segments.specs.Segment.{IsSegment}
use Rattle.cql2_code.specs.Grid.{Laid, finds, grid, lay, lay_end, lay_row, lay_rows}
use Rattle.cql2_code.specs.Layout.{first_skip, question_code}
use Rattle.cql2_code.specs.Question.{Decided, Question, answer}
use Rattle.cql2_code.proofs.AbstractState.{resting}
use Rattle.cql2_code.proofs.Accepted.{decided_good, decided_needs, question_good, question_needs, rests_at}
use Rattle.cql2_code.proofs.Blocks.{IsSound, IsSoundBlock, Keeps, keeps_back, keeps_front}
use Rattle.cql2_code.proofs.Codes.{Joint, first_target}
use Rattle.cql2_code.proofs.Good.{AreGoodAt, Rests, good-append}
use Rattle.cql2_code.proofs.Leads.{Leads, exit_of, leads_on}
use Rattle.cql2_code.proofs.Passes.{needed_by, needed_by-append}
use Rattle.cql2_code.proofs.Runs.{decided_leads, question_leads}
use Rattle.cql2_code.proofs.Steps.{Begins, HasAt, Setting, begins_at, has_back, has_front}

-- each cell of a row is sound from a column on
abbrev pub SoundCells : (ℕ → Question) → ℕ → ℕ → Type 0
SoundCells row at zero = Unit {0}
SoundCells row at (suc left) = IsSound (row at) × SoundCells row (at + 1) left

abbrev pub SoundRows : List (ℕ → Question) → ℕ → Type 0
SoundRows [] columns = Unit {0}
SoundRows (row ∷ rows) columns = SoundCells row 0 columns × SoundRows rows columns

-- Lengths

row_length : (row : ℕ → Question) (at : ℕ) (starts : List ℕ) (skip : ℕ) (rest : List Insn)
    → length (lay_row row at starts skip rest).starts ≡ length starts
unfolding lay_row
row_length row at [] skip rest = refl
row_length row at (start ∷ starts) skip rest = ap suc (row_length row (at + 1) starts skip rest)

pub rows_length : (rows : List (ℕ → Question)) (falls : Bool) (skip words : ℕ) (below : Laid)
    → length (lay_rows rows falls skip words below).starts ≡ length below.starts
unfolding lay_rows
rows_length [] falls skip words below = refl
rows_length (row ∷ rows) falls skip words below =
    let rest = lay_rows rows falls skip words below in
    row_length row 0 rest.starts (first_skip falls true (word_count rest.code - words) skip) rest.code
    ∙ rows_length rows falls skip words below

-- the code of a row ends with that of the rows below
pub record EndsWith (code rest : List Insn) : Type 0 where
  pub front : List Insn
  pub is : code ≡ front ++ rest

pub row_ends : (row : ℕ → Question) (at : ℕ) (starts : List ℕ) (skip : ℕ) (rest : List Insn)
    → EndsWith (lay_row row at starts skip rest).code rest
unfolding lay_row
row_ends row at [] skip rest = record { front = question_code (Decided false) true skip; is = refl }
row_ends row at (start ∷ starts) skip rest =
    let others = row_ends row (at + 1) starts skip rest in
    let code = (lay_row row (at + 1) starts skip rest).code in
    let cell = question_code (row at) false (word_count code - start) in
    record { front = cell ++ others.front; is = ap (λ (insns : List Insn). cell ++ insns) others.is ∙ sym (append_assoc cell others.front rest) }

-- it has no fewer words
pub row_words : (row : ℕ → Question) (at : ℕ) (starts : List ℕ) (skip : ℕ) (rest : List Insn)
    → word_count rest ≤ word_count (lay_row row at starts skip rest).code
row_words row at starts skip rest =
    let ends = row_ends row at starts skip rest in
    let sum = ap word_count ends.is ∙ word_count-append ends.front rest in
    omega arith

-- a row's code before a code that needs only the record's pointer, and the words that a run skips past the last cell
record RowCode : Type 0 where
  keeps : Bool
  row : ℕ → Question
  skip : ℕ
  rest : List Insn
  needs : needed_by keeps rest (resting keeps) ≡ resting keeps

-- from a column on
abbrev laid : RowCode → ℕ → List ℕ → Laid
laid r at starts = lay_row r.row at starts r.skip r.rest

-- a code at a place up to an end
record EndsAt (code insns : List Insn) (place end : ℕ) : Type 0 where
  has : HasAt code place insns
  is : place + word_count insns ≡ end

ends_back : (code a b : List Insn) (place end : ℕ) → EndsAt code (a ++ b) place end → EndsAt code b (place + word_count a) end
ends_back code a b place end ends =
    let count = word_count-append a b in
    let is = ends.is in
    record { has = has_back code place a b ends.has; is = omega arith }

-- What the code needs

row_needs : (r : RowCode) (at : ℕ) (starts : List ℕ) → SoundCells r.row at (length starts)
    → needed_by r.keeps (laid r at starts).code (resting r.keeps) ≡ resting r.keeps
unfolding lay_row
row_needs r at [] sound =
    let jump = question_code (Decided false) true r.skip in
    needed_by-append r.keeps jump r.rest (resting r.keeps) ∙ ap (needed_by r.keeps jump) r.needs ∙ decided_needs r.keeps false true r.skip
row_needs r at (start ∷ starts) sound =
    let code = (laid r (at + 1) starts).code in
    let cell = question_code (r.row at) false (word_count code - start) in
    needed_by-append r.keeps cell code (resting r.keeps)
    ∙ ap (needed_by r.keeps cell) (row_needs r (at + 1) starts sound.1)
    ∙ question_needs r.keeps (r.row at) false (word_count code - start) sound.0

-- the starts of cells, by their numbers of words before the end: at each of these places something holds
abbrev Stand : (ℕ → Type 0) → ℕ → ℕ → List ℕ → Type 0
Stand Property end words [] = Unit {0}
Stand Property end words (start ∷ starts) = ((start ≤ words) × Property (end - start)) × Stand Property end words starts

stand_more : (Property : ℕ → Type 0) (end words more : ℕ) (starts : List ℕ) → words ≤ more → Stand Property end words starts
    → Stand Property end more starts
stand_more Property end words more [] fewer stand = tt
stand_more Property end words more (start ∷ starts) fewer stand =
    let few = stand.0.0 in ((omega arith, stand.0.1), stand_more Property end words more starts fewer stand.1)

stand_same : (Property : ℕ → Type 0) (end words start count : ℕ) → start ≤ words → Property (end - start)
    → Stand Property end words (replicate count start)
stand_same Property end words start zero few there = tt
stand_same Property end words start (suc count) few there = ((few, there), stand_same Property end words start count few there)

-- what holds after instructions that need only the record's pointer holds before them
abbrev GoesBack : Bool → List Insn → (ℕ → Type 0) → Type 0
GoesBack keeps code Property = (place : ℕ) (insns : List Insn) → HasAt code place insns → needed_by keeps insns (resting keeps) ≡ resting keeps
    → Property (place + word_count insns) → Property place

-- what holds at places of a code, among them its end
record Ground (keeps : Bool) : Type 1 where
  code : List Insn
  end : ℕ
  holds : ℕ → Type 0
  back : GoesBack keeps code holds
  there : holds end

row_stands : (r : RowCode) (ground : Ground r.keeps) (at : ℕ) (starts : List ℕ) (place : ℕ) → SoundCells r.row at (length starts)
    → EndsAt ground.code (laid r at starts).code place ground.end
    → Stand ground.holds ground.end (word_count (laid r at starts).code) (laid r at starts).starts
unfolding lay_row
row_stands r ground at [] place sound ends = tt
row_stands r ground at (start ∷ starts) place sound ends =
    let others = laid r (at + 1) starts in
    let cell = question_code (r.row at) false (word_count others.code - start) in
    let count = word_count-append cell others.code in
    let is : place + word_count (cell ++ others.code) ≡ ground.end = ends.is in
    let here : ground.end - word_count (cell ++ others.code) ≡ place = omega arith in
    let first = ground.back place (cell ++ others.code) ends.has (row_needs r at (start ∷ starts) sound)
    (subst ground.holds (sym is) ground.there) in (
      (omega arith, subst ground.holds (sym here) first),
      stand_more ground.holds ground.end (word_count others.code) (word_count (cell ++ others.code)) others.starts (omega arith)
          (row_stands r ground (at + 1) starts (place + word_count cell) sound.1 (ends_back ground.code cell others.code place ground.end ends)),
    )

-- The code of a row is good

-- the code below a row is good, and so are its exits
record GoodBelow (r : RowCode) : Type 0 where
  code : List Insn
  middle : ℕ
  end : ℕ
  ended : middle + word_count r.rest ≡ end
  there : Rests r.keeps code middle
  target : Rests r.keeps code (middle + r.skip)
  last : Rests r.keeps code end
  good : AreGoodAt r.keeps code middle r.rest

row_good : (r : RowCode) (below : GoodBelow r) (at : ℕ) (starts : List ℕ) (place : ℕ) → SoundCells r.row at (length starts)
    → Stand (Rests r.keeps below.code) below.end (word_count r.rest) starts
    → EndsAt below.code (laid r at starts).code place below.end → Keeps r.keeps (laid r at starts).code
    → AreGoodAt r.keeps below.code place (laid r at starts).code
unfolding lay_row
row_good r below at [] place sound stand ends saved =
    let jump = question_code (Decided false) true r.skip in
    let count = word_count-append jump r.rest in
    let is : place + word_count (jump ++ r.rest) ≡ below.end = ends.is in
    let ended = below.ended in
    let e : below.middle ≡ place + word_count jump = omega arith in
    good-append r.keeps below.code place jump r.rest
    (decided_good r.keeps below.code false true r.skip place
    (record {
      has = has_front below.code place jump r.rest ends.has;
      end = subst (Rests r.keeps below.code) e below.there;
      target = subst (λ (p : ℕ). Rests r.keeps below.code (p + r.skip)) e below.target;
    })) (subst (λ (p : ℕ). AreGoodAt r.keeps below.code p r.rest) e below.good)
row_good r below at (start ∷ starts) place sound stand ends saved =
    let others = laid r (at + 1) starts in
    let over = word_count others.code - start in
    let cell = question_code (r.row at) false over in
    let more : word_count r.rest ≤ word_count others.code = row_words r.row (at + 1) starts r.skip r.rest in
    let few = stand.0.0 in
    let after = ends_back below.code cell others.code place below.end ends in
    let e : place + word_count cell + word_count others.code ≡ below.end = after.is in
    let down : below.end - start ≡ place + word_count cell + over = omega arith in
    good-append r.keeps below.code place cell others.code
    (question_good r.keeps below.code (r.row at) false over place sound.0 (keeps_front r.keeps cell others.code saved)
    (record {
      has = has_front below.code place cell others.code ends.has;
      end = rests_at r.keeps below.code (place + word_count cell) others.code after.has (row_needs r (at + 1) starts sound.1)
          (subst (Rests r.keeps below.code) (sym e) below.last);
      target = subst (Rests r.keeps below.code) down stand.0.1;
    }))
    (row_good r below (at + 1) starts (place + word_count cell) sound.1 stand.1 after (keeps_back r.keeps cell others.code saved))

-- Runs of a row

-- the exit for an answer
pub record Exit : Type 0 where
  pub falls : Bool
  pub end : ℕ
  pub skip : ℕ

abbrev leaving : Exit → Bool → ℕ
leaving exit found = exit_of exit.falls found exit.end exit.skip

-- from the start of each cell from a column on, a run takes the exit for whether its path leaves the last row
abbrev LeadAll : Setting → Exit → List (ℕ → Question) → ℕ → List ℕ → Type 0
LeadAll on exit rows at [] = Unit {0}
LeadAll on exit rows at (start ∷ starts) =
    Leads on (exit.end - start) (leaving exit (finds rows at (suc (length starts)) on.segment)) × LeadAll on exit rows (at + 1) starts

lead_same : (on : Setting) (exit : Exit) (at start count : ℕ) → Leads on (exit.end - start) (leaving exit true)
    → LeadAll on exit [] at (replicate count start)
lead_same on exit at start zero there = tt
lead_same on exit at start (suc count) there = (there, lead_same on exit (at + 1) start count there)

-- runs of a cell: on no to the next one, and on yes past some words
record CellLeads (on : Setting) (exit : Exit) (found down right : Bool) (place : ℕ) : Type 0 where
  next : ℕ
  skip : ℕ
  first : Leads on place (exit_of false found next skip)
  yes : Leads on (next + skip) (leaving exit down)
  no : Leads on next (leaving exit right)

cell_leads : (on : Setting) (exit : Exit) (found down right : Bool) (place : ℕ) → CellLeads on exit found down right place
    → Leads on place (leaving exit (if found then down else right))
cell_leads on exit true down right place cell = leads_on on place (cell.next + cell.skip) (leaving exit down) cell.first cell.yes
cell_leads on exit false down right place cell = leads_on on place cell.next (leaving exit right) cell.first cell.no

record RowLeads (on : Setting) (exit : Exit) (rows : List (ℕ → Question)) (at left place : ℕ) (starts : List ℕ) : Type 0 where
  first : Leads on place (leaving exit (finds rows at left on.segment))
  all : LeadAll on exit rows at starts

-- a run on a segment, and the code below a row with its exits, where instructions begin
record LeadsBelow (r : RowCode) : Type 0 where
  on : Setting
  exit : Exit
  rows : List (ℕ → Question)
  middle : ℕ
  segment : IsSegment on.segment
  ended : middle + word_count r.rest ≡ exit.end
  out : middle + r.skip ≡ leaving exit false
  there : Begins on.code middle
  target : Begins on.code (middle + r.skip)
  last : Begins on.code exit.end

row_leads : (r : RowCode) (below : LeadsBelow r) (at : ℕ) (starts : List ℕ) (place : ℕ) → SoundCells r.row at (length starts)
    → Stand (Begins below.on.code) below.exit.end (word_count r.rest) starts → LeadAll below.on below.exit below.rows at starts
    → EndsAt below.on.code (laid r at starts).code place below.exit.end
    → RowLeads below.on below.exit (r.row ∷ below.rows) at (length starts) place (laid r at starts).starts
unfolding lay_row
row_leads r below at [] place sound stand leads ends =
    let jump = question_code (Decided false) true r.skip in
    let count = word_count-append jump r.rest in
    let is : place + word_count (jump ++ r.rest) ≡ below.exit.end = ends.is in
    let ended = below.ended in
    let e : below.middle ≡ place + word_count jump = omega arith in
    let leaves = decided_leads below.on false true r.skip place
    (record {
      has = has_front below.on.code place jump r.rest ends.has;
      end = subst (Begins below.on.code) e below.there;
      target = subst (λ (p : ℕ). Begins below.on.code (p + r.skip)) e below.target;
    }) in
    record { first = subst (Leads below.on place) (ap (λ (p : ℕ). p + r.skip) (sym e) ∙ below.out) leaves; all = tt }
row_leads r below at (start ∷ starts) place sound stand leads ends =
    let on = below.on in
    let exit = below.exit in
    let rows = r.row ∷ below.rows in
    let others = laid r (at + 1) starts in
    let over = word_count others.code - start in
    let cell = question_code (r.row at) false over in
    let count = word_count-append cell others.code in
    let more : word_count r.rest ≤ word_count others.code = row_words r.row (at + 1) starts r.skip r.rest in
    let few = stand.0.0 in
    let after = ends_back on.code cell others.code place exit.end ends in
    let e : place + word_count cell + word_count others.code ≡ exit.end = after.is in
    let down : exit.end - start ≡ place + word_count cell + over = omega arith in
    let here : exit.end - word_count (cell ++ others.code) ≡ place = omega arith in
    let right = row_leads r below (at + 1) starts (place + word_count cell) sound.1 stand.1 leads.1 after in
    let first = question_leads on (r.row at) false over place sound.0 below.segment
    (record {
      has = has_front on.code place cell others.code ends.has;
      end = begins_at on.code (place + word_count cell) others.code after.has (subst (Begins on.code) (sym e) below.last);
      target = subst (Begins on.code) down stand.0.1;
    }) in
    let all = cell_leads on exit (answer (r.row at) on.segment) (finds below.rows at (suc (length starts)) on.segment)
    (finds rows (at + 1) (length starts) on.segment) place
    (record {
      next = place + word_count cell;
      skip = over;
      first = first;
      yes = subst (λ (p : ℕ). Leads on p (leaving exit (finds below.rows at (suc (length starts)) on.segment))) down leads.0;
      no = right.first;
    }) in
    record {
      first = all;
      all = (
        subst (λ (p : ℕ). Leads on p (leaving exit (finds rows at (suc (length others.starts)) on.segment))) (sym here)
            (subst (λ (left : ℕ). Leads on place (leaving exit (finds rows at (suc left) on.segment)))
            (sym (row_length r.row (at + 1) starts r.skip r.rest)) all),
        right.all,
      );
    }

-- Whole grids

-- the code below rows, with as many cells as these have
record RowsEnd (keeps : Bool) (columns : ℕ) (below : Laid) : Type 0 where
  count : length below.starts ≡ columns
  needs : needed_by keeps below.code (resting keeps) ≡ resting keeps

rows_needs : (keeps : Bool) (rows : List (ℕ → Question)) (columns : ℕ) (falls : Bool) (skip words : ℕ) (below : Laid) → SoundRows rows columns
    → RowsEnd keeps columns below → needed_by keeps (lay_rows rows falls skip words below).code (resting keeps) ≡ resting keeps
unfolding lay_rows
rows_needs keeps [] columns falls skip words below sound end = end.needs
rows_needs keeps (row ∷ rows) columns falls skip words below sound end =
    let rest = lay_rows rows falls skip words below in
    row_needs (record {
      keeps = keeps;
      row = row;
      skip = first_skip falls true (word_count rest.code - words) skip;
      rest = rest.code;
      needs = rows_needs keeps rows columns falls skip words below sound.1 end;
    }) 0 rest.starts (subst (SoundCells row 0) (sym (rows_length rows falls skip words below ∙ end.count)) sound.0)

-- the end of a grid, and its rows

end_needs : (keeps : Bool) (columns : ℕ) (falls : Bool) (skip : ℕ) → needed_by keeps (lay_end columns falls skip []).code (resting keeps) ≡ resting keeps
end_needs keeps columns falls skip =
    needed_by-append keeps (question_code (Decided true) falls skip) [] (resting keeps) ∙ decided_needs keeps true falls skip

grid_needs : (keeps : Bool) (rows : List (ℕ → Question)) (columns : ℕ) (falls : Bool) (skip : ℕ) → SoundRows rows columns
    → needed_by keeps (lay rows columns falls skip []).code (resting keeps) ≡ resting keeps
grid_needs keeps rows columns falls skip sound =
    rows_needs keeps rows columns falls skip (word_count []) (lay_end columns falls skip []) sound
    (record { count = length-replicate columns _; needs = end_needs keeps columns falls skip })

starts_count : (rows : List (ℕ → Question)) (columns : ℕ) (falls : Bool) (skip : ℕ)
    → length (lay rows columns falls skip []).starts ≡ columns
starts_count rows columns falls skip =
    rows_length rows falls skip (word_count []) (lay_end columns falls skip []) ∙ length-replicate columns _

-- a code at a place, with its exits
record IsThere (Property : ℕ → Type 0) (code insns : List Insn) (exit : Exit) (place : ℕ) : Type 0 where
  ends : EndsAt code insns place exit.end
  last : Property exit.end
  target : Property (exit.end + exit.skip)

-- the code below a row, and the place that the row leaves to on no
record Below (Property : ℕ → Type 0) (code : List Insn) (rest : Laid) (exit : Exit) : Type 0 where
  middle : ℕ
  ends : EndsAt code rest.code middle exit.end
  target : Property (middle + first_skip exit.falls true (word_count rest.code - word_count []) exit.skip)

below_row : (Property : ℕ → Type 0) (code : List Insn) (row : ℕ → Question) (starts : List ℕ) (past : ℕ) (rest : Laid) (exit : Exit) (place : ℕ)
    → IsThere Property code (lay_row row 0 starts past rest.code).code exit place → Below Property code rest exit
below_row Property code row starts past rest exit place there =
    let front = row_ends row 0 starts past rest.code in
    let ends = ends_back code front.front rest.code place exit.end
    (subst (λ (insns : List Insn). EndsAt code insns place exit.end) front.is there.ends) in
    let is : place + word_count front.front + word_count rest.code ≡ exit.end = ends.is in
    let joint : Joint = record {
      start = place;
      middle = place + word_count front.front;
      end = exit.end;
      words = word_count rest.code - word_count [];
      skip = exit.skip;
      is = omega arith;
    } in
    record { middle = place + word_count front.front; ends = ends; target = first_target Property joint exit.falls true there.last there.target }

-- the whole code is good

record GridGood (keeps : Bool) (code : List Insn) (laid : Laid) (place end : ℕ) : Type 0 where
  good : AreGoodAt keeps code place laid.code
  stand : Stand (Rests keeps code) end (word_count laid.code) laid.starts

grid_good : (keeps : Bool) (code : List Insn) (rows : List (ℕ → Question)) (columns : ℕ) (exit : Exit) (place : ℕ) → SoundRows rows columns
    → IsThere (Rests keeps code) code (lay rows columns exit.falls exit.skip []).code exit place
    → Keeps keeps (lay rows columns exit.falls exit.skip []).code → GridGood keeps code (lay rows columns exit.falls exit.skip []) place exit.end
unfolding lay_rows
grid_good keeps code [] columns exit place sound there saved =
    let yes = question_code (Decided true) exit.falls exit.skip in
    let count = word_count-append yes [] in
    let is : place + word_count (yes ++ []) ≡ exit.end = there.ends.is in
    let e : exit.end ≡ place + word_count yes = omega arith in
    let here : exit.end - word_count (yes ++ []) ≡ place = omega arith in
    let rests = rests_at keeps code place (yes ++ []) there.ends.has (end_needs keeps columns exit.falls exit.skip)
    (subst (Rests keeps code) (sym is) there.last) in
    record {
      good = good-append keeps code place yes []
          (decided_good keeps code true exit.falls exit.skip place
          (record {
            has = has_front code place yes [] there.ends.has;
            end = subst (Rests keeps code) e there.last;
            target = subst (λ (p : ℕ). Rests keeps code (p + exit.skip)) e there.target;
          })) tt;
      stand = stand_same (Rests keeps code) exit.end (word_count (yes ++ [])) (word_count (yes ++ [])) columns (omega arith)
          (subst (Rests keeps code) (sym here) rests);
    }
grid_good keeps code (row ∷ rows) columns exit place sound there saved =
    let rest = lay rows columns exit.falls exit.skip [] in
    let past = first_skip exit.falls true (word_count rest.code - word_count []) exit.skip in
    let below = below_row (Rests keeps code) code row rest.starts past rest exit place there in
    let front = row_ends row 0 rest.starts past rest.code in
    let keeps_rest = keeps_back keeps front.front rest.code (subst (Keeps keeps) front.is saved) in
    let others = grid_good keeps code rows columns exit below.middle sound.1
    (record { ends = below.ends; last = there.last; target = there.target }) keeps_rest in
    let cells = subst (SoundCells row 0) (sym (starts_count rows columns exit.falls exit.skip)) sound.0 in
    let needs = grid_needs keeps rows columns exit.falls exit.skip sound.1 in
    let r : RowCode = record { keeps = keeps; row = row; skip = past; rest = rest.code; needs = needs } in
    let ground : Ground keeps = record { code = code; end = exit.end; holds = Rests keeps code; back = rests_at keeps code; there = there.last } in
    let good : GoodBelow r = record {
      code = code;
      middle = below.middle;
      end = exit.end;
      ended = below.ends.is;
      there = rests_at keeps code below.middle rest.code below.ends.has needs (subst (Rests keeps code) (sym below.ends.is) there.last);
      target = below.target;
      last = there.last;
      good = others.good;
    } in
    record { good = row_good r good 0 rest.starts place cells others.stand there.ends saved; stand = row_stands r ground 0 rest.starts place cells there.ends }

-- a run takes the exit for the grid's answer

leaves_on_no : (falls : Bool) (middle words end skip : ℕ) → middle + words ≡ end
    → middle + first_skip falls true words skip ≡ exit_of falls false end skip
leaves_on_no true middle words end skip is = omega arith
leaves_on_no false middle words end skip is = is

record GridLeads (on : Setting) (exit : Exit) (rows : List (ℕ → Question)) (columns : ℕ) (laid : Laid) (place : ℕ) : Type 0 where
  leads : RowLeads on exit rows 0 columns place laid.starts
  stand : Stand (Begins on.code) exit.end (word_count laid.code) laid.starts

grid_leads : (keeps : Bool) (on : Setting) (exit : Exit) (rows : List (ℕ → Question)) (columns place : ℕ) → SoundRows rows columns → IsSegment on.segment
    → IsThere (Begins on.code) on.code (lay rows columns exit.falls exit.skip []).code exit place
    → GridLeads on exit rows columns (lay rows columns exit.falls exit.skip []) place
unfolding lay_rows
grid_leads keeps on exit [] columns place sound segment there =
    let yes = question_code (Decided true) exit.falls exit.skip in
    let count = word_count-append yes [] in
    let is : place + word_count (yes ++ []) ≡ exit.end = there.ends.is in
    let e : exit.end ≡ place + word_count yes = omega arith in
    let here : exit.end - word_count (yes ++ []) ≡ place = omega arith in
    let begins = begins_at on.code place (yes ++ []) there.ends.has (subst (Begins on.code) (sym is) there.last) in
    let leaves = decided_leads on true exit.falls exit.skip place
    (record {
      has = has_front on.code place yes [] there.ends.has;
      end = subst (Begins on.code) e there.last;
      target = subst (λ (p : ℕ). Begins on.code (p + exit.skip)) e there.target;
    }) in
    let first = subst (λ (p : ℕ). Leads on place (exit_of exit.falls true p exit.skip)) (sym e) leaves in
    record {
      leads = record {
        first = first;
        all = lead_same on exit 0 (word_count (yes ++ [])) columns (subst (λ (p : ℕ). Leads on p (leaving exit true)) (sym here) first);
      };
      stand = stand_same (Begins on.code) exit.end (word_count (yes ++ [])) (word_count (yes ++ [])) columns (omega arith)
          (subst (Begins on.code) (sym here) begins);
    }
grid_leads keeps on exit (row ∷ rows) columns place sound segment there =
    let rest = lay rows columns exit.falls exit.skip [] in
    let past = first_skip exit.falls true (word_count rest.code - word_count []) exit.skip in
    let below = below_row (Begins on.code) on.code row rest.starts past rest exit place there in
    let others = grid_leads keeps on exit rows columns below.middle sound.1 segment
    (record { ends = below.ends; last = there.last; target = there.target }) in
    let cells = subst (SoundCells row 0) (sym (starts_count rows columns exit.falls exit.skip)) sound.0 in
    let r : RowCode = record { keeps = keeps; row = row; skip = past; rest = rest.code; needs = grid_needs keeps rows columns exit.falls exit.skip sound.1 } in
    let ground : Ground keeps = record {
      code = on.code;
      end = exit.end;
      holds = Begins on.code;
      back = λ place insns has needs end. begins_at on.code place insns has end;
      there = there.last;
    } in
    let is = below.ends.is in
    let leads = row_leads r (record {
      on = on;
      exit = exit;
      rows = rows;
      middle = below.middle;
      segment = segment;
      ended = is;
      out = leaves_on_no exit.falls below.middle (word_count rest.code - word_count []) exit.end exit.skip (omega arith);
      there = begins_at on.code below.middle rest.code below.ends.has (subst (Begins on.code) (sym is) there.last);
      target = below.target;
      last = there.last;
    }) 0 rest.starts place cells others.stand others.leads.all there.ends in
    record {
      leads = record {
        first = subst (λ (left : ℕ). Leads on place (leaving exit (finds (row ∷ rows) 0 left on.segment)))
            (starts_count rows columns exit.falls exit.skip) leads.first;
        all = leads.all;
      };
      stand = row_stands r ground 0 rest.starts place cells there.ends;
    }

-- a grid of sound cells is sound
pub grid_sound : (rows : List (ℕ → Question)) (columns : ℕ) → SoundRows rows columns → IsSoundBlock (grid rows columns)
grid_sound rows columns sound = record {
  needs = λ keeps falls skip. grid_needs keeps rows columns falls skip sound;
  good = λ keeps code falls skip place saved settled.
      let exit : Exit = record { falls = falls; end = place + word_count (lay rows columns falls skip []).code; skip = skip } in
      (grid_good keeps code rows columns exit place sound
      (record { ends = record { has = settled.has; is = refl }; last = settled.end; target = settled.target }) saved).good;
  leads = λ on falls skip place segment placed.
      let exit : Exit = record { falls = falls; end = place + word_count (lay rows columns falls skip []).code; skip = skip } in
      (grid_leads false on exit rows columns place sound segment
      (record { ends = record { has = placed.has; is = refl }; last = placed.end; target = placed.target })).leads.first;
}
