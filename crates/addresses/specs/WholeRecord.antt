-- A text that is one record in any file, and where the reader of the crate csv is after it.
use Rattle.std.specs.Prelude.{◌≡◌, ℕ, List, [], ◌++◌, Some}
use Rattle.csv.specs.Machine.{next_record}
use Rattle.csv.specs.Reading.{default_config}
use Rattle.csv.specs.declared.parser.State.{State}
use Rattle.csv.specs.declared.parser.State.TheVariants.{StartRecord}
use Rattle.addresses.specs.Record.{Fields}

-- in this state, before these bytes, the next record is the first one of the file that follows them
abbrev pub Skips : State → List ℕ → Type 0
Skips state left = (file : List ℕ) → next_record default_config state [] [] (left ++ file) ≡ next_record default_config StartRecord [] [] file

-- the text has no record, whatever follows it
abbrev pub IsNoRecord : List ℕ → Type 0
IsNoRecord text = Skips StartRecord text

-- the text is one record, whatever follows it; the machine may leave a part of its line end
pub record IsWholeRecord (text : List ℕ) : Type 0 where
  pub fields : Fields
  pub state : State
  pub left : List ℕ
  pub reads : (file : List ℕ) → next_record default_config StartRecord [] [] (text ++ file) ≡ Some (fields, state, left ++ file)
  pub skips : Skips state left
