use Rattle.std.proofs.Common.{◌≡◌, ◌++◌, ℕ, List, true, length}
use Rattle.std.specs.List.{flat_map, list_all}
use Rattle.cql2_tokens.specs.Character.{HasCharacters, character_text, is_character}
use Rattle.cql2_text.proofs.CharacterLemmas.{MoreCharacters}
use Rattle.cql2_text.proofs.text.bytes_of.Given as goal

abbrev pub invariant-loop-rest : goal.invariant-loop-rest
invariant-loop-rest g l = record {
  spelled : l.spelling ≡ flat_map character_text l.bytes.items ++ l.rest;
  characters : list_all is_character l.bytes.items ≡ true;
  reads : (bytes : List ℕ) → HasCharacters l.spelling bytes → MoreCharacters l.bytes.items l.rest bytes;
}

abbrev pub decreases-loop-rest : goal.decreases-loop-rest
decreases-loop-rest g l = length l.rest
