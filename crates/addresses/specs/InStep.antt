-- One reader of the crate csv for a whole file.
use Rattle.std.specs.Prelude.{◌≡◌, ℕ, List, [], Some}
use Rattle.csv.specs.Machine.{next_record}
use Rattle.csv.specs.Reading.{Ready, default_config, reader_config, reader_state, reader_trim, source_of}
use Rattle.csv.specs.declared.parser.State.TheVariants.{StartRecord}
use Rattle.csv.specs.declared.reader.Reader.{Reader}
use Rattle.csv.specs.declared.reader.Trim.TheVariants as trim
use Rattle.addresses.specs.TextReader.{Marked, marked_left}

-- The next record of the reader is the first one of the rest of the file.
pub record IsInStep (rest : List ℕ) (reader : Reader Marked) : Type 0 where
  pub config : reader_config reader ≡ default_config
  pub plain : reader_trim reader ≡ trim.None
  pub ready : Ready reader
  pub left : List ℕ
  pub source : source_of marked_left reader ≡ Some left
  pub next : next_record default_config (reader_state reader) [] [] left ≡ next_record default_config StartRecord [] [] rest
