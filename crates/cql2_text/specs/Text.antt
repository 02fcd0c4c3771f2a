-- The text of a characterLiteral, as it is compared with a column.
use Rattle.std.specs.Prelude.{◌≡◌, ℕ, ◌≤◌, List, length}
use Rattle.cql2.specs.Column.{trim_end}
use Rattle.cql2_tokens.specs.Character.{HasCharacters}

-- A literal's text as it is compared with a column of this width: without trailing blanks, not empty, and no longer than the column.
pub record IsComparedText (width : ℕ) (spelling text : List ℕ) : Type 0 where
  pub bytes : List ℕ
  pub has_characters : HasCharacters spelling bytes
  pub trimmed : text ≡ trim_end bytes
  pub some : 1 ≤ length text
  pub few : length text ≤ width
