-- The column name that is suggested for an unknown one.
use Rattle.std.specs.Prelude.{◌≡◌, ◌≢◌, ◌≤◌, ℕ, List, [], ◌++◌, length, Option, None}
use Rattle.cql2_text.specs.Position.{column_after, line_after}
use Rattle.cql2_text.specs.declared.fault.FilterFault.{FilterFault}
use Rattle.cql2_text.specs.declared.fault.FilterFault.TheVariants.{At}
use Rattle.cql2_text.specs.declared.fault.FilterFaultKind.TheVariants.{UnknownColumn}
use Rattle.cql2_text.specs.declared.reader.TheConstants.{MAX_TEXT_LENGTH}
use Rattle.cql2_tokens.specs.Nearest.{IsNear, LeadsText}

-- this line and column follow this prefix of a text
pub record IsAfter (line column : ℕ) (front : List ℕ) : Type 0 where
  pub line_is : line ≡ line_after front
  pub column_is : column ≡ column_after front

-- the rest of a text from a line and column on; nothing only if the text ends before them
pub record IsRestFrom (text : List ℕ) (line column : ℕ) (rest : List ℕ) : Type 0 where
  pub front : List ℕ
  pub splits : text ≡ front ++ rest
  pub placed : rest ≢ [] → IsAfter line column front
  pub ends : rest ≡ [] → (before after : List ℕ) → text ≡ before ++ after → IsAfter line column before → after ≡ []

-- the column name nearest to the name at this line and column of a text that may be read, if it is near
pub record IsNearestAt (text : List ℕ) (line column : ℕ) (name : Option (List ℕ)) : Type 0 where
  pub rest : List ℕ
  pub is_rest : length text ≤ MAX_TEXT_LENGTH → IsRestFrom text line column rest
  pub word : List ℕ
  pub leads : LeadsText word rest
  pub nearest : IsNear word name

-- a name is suggested for an unknown column only
abbrev pub Suggests : FilterFault → List ℕ → Option (List ℕ) → Type 0
Suggests (At line column UnknownColumn) text name = IsNearestAt text line column name
Suggests fault text name = name ≡ None
