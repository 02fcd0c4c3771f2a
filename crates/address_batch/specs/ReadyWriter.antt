-- A writer of the crate csv between two records, with its defaults, all of whose text is in the vector under it.
use Rattle.std.specs.Prelude.{◌≡◌, ◌≤◌, ⊤, ℕ, false, List, [], drop, length, Option, Some, None}
use Rattle.std.specs.Global.{Vec}
use Rattle.std.specs.declared.boxed.Box.{Box}
use Rattle.csv.specs.Writing.{default_writer, fields_written, has_written, writer_pending, writer_setup, writer_under}
use Rattle.csv.specs.declared.writer.Writer.{Writer}

pub record IsReady {W : Type 0} (writer : Writer W) : Type 0 where
  pub setup : writer_setup writer ≡ default_writer
  pub ended : fields_written writer ≡ 0
  pub clean : has_written writer ≡ false
  pub flushed : writer_pending writer ≡ []

-- all that a writer has written
abbrev pub text_in : Writer (Vec ℕ) → List ℕ
text_in writer = (writer_under writer).items

-- the text after a start, or none without a writer
abbrev pub text_after : {A : Type 0} → ℕ → Option (Box (Writer (Vec ℕ)) A) → List ℕ
text_after start None = []
text_after start (Some writer) = drop start (text_in writer.value)

-- a writer is ready, and its text reaches the start
abbrev pub IsReadyAfter : {A : Type 0} → ℕ → Option (Box (Writer (Vec ℕ)) A) → Type 0
IsReadyAfter start None = ⊤
IsReadyAfter start (Some writer) = IsReady writer.value × (start ≤ length (text_in writer.value))
