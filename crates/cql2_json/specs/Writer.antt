-- What a writer does with the text of a value.
use Rattle.std.specs.Prelude.{◌≡◌, ℕ, ◌≤◌, ◌+◌, ◌-◌, ◌++◌, List, length, Some, Result, Ok, Err, ⊤}
use Rattle.cql2_json.specs.Translation.{Translation, joined, path_at, written}
use Rattle.cql2_json.specs.declared.fault.Flaw.{Flaw}
use Rattle.cql2_json.specs.declared.fault.Flaw.TheVariants.{Expected, TooLong, Memory}
use Rattle.cql2_json.specs.declared.writer.Writer.{Writer}

abbrev pub IsWithin : {A : Type 0} → Writer A → Type 0
IsWithin writer = length writer.text.items ≤ writer.limit

-- the text was appended
pub record Appends {A : Type 0} (old new : Writer A) (text : List ℕ) : Type 0 where
  pub text_is : new.text.items ≡ old.text.items ++ text
  pub path_kept : new.path.items ≡ old.path.items
  pub limit_kept : new.limit ≡ old.limit
  pub within : length new.text.items ≤ new.limit

-- From the old writer to the new: the text was appended, or the path leads to the value that has none or to the one that passes the limit.
abbrev pub Writes : {A : Type 0} → Writer A → Translation → Writer A → Result (Unit {0}) Flaw → Type 0
Writes old translation new (Err TooLong) = path_at (written translation) (old.limit - length old.text.items) ≡ Some new.path.items
Writes old translation new (Err Memory) = ⊤
Writes old (Ok pieces) new (Ok done) = Appends old new (joined pieces)
Writes old (Err fault) new (Ok done) = ⊥
Writes old (Ok pieces) new (Err (Expected needs)) = ⊥
Writes old (Err fault) new (Err (Expected needs)) =
    (new.path.items ≡ fault.path) × (needs ≡ fault.needs) × (length old.text.items + length (joined fault.before) ≤ old.limit)
