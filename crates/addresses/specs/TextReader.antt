-- A reader of the crate csv positioned before a record's text, with a byte order mark in front of it.
use Rattle.std.specs.Prelude.{◌≡◌, ℕ, List, Option, Some}
use Rattle.std.specs.Io.Chain.{chain_remaining}
use Rattle.std.specs.declared.io.traits.Chain.{Chain}
use denote.Ref.{Bor}
use Rattle.csv.specs.Reading.{Ready, default_config, reader_config, reader_state, reader_trim, source_of}
use Rattle.csv.specs.declared.parser.State.TheVariants.{StartRecord}
use Rattle.csv.specs.declared.reader.Reader.{Reader}
use Rattle.csv.specs.declared.reader.Trim.TheVariants as trim

-- the mark, followed by the text
abbrev pub Marked : Type 0
Marked = Chain (Bor (List ℕ)) (Bor (List ℕ))

abbrev pub marked_left : Marked → Option (List ℕ)
marked_left = chain_remaining (λ bytes. Some bytes.now) (λ bytes. Some bytes.now)

pub record IsTextReader (text : List ℕ) (reader : Reader Marked) : Type 0 where
  pub config : reader_config reader ≡ default_config
  pub plain : reader_trim reader ≡ trim.None
  pub state : reader_state reader ≡ StartRecord
  pub ready : Ready reader
  pub source : source_of marked_left reader ≡ Some text
