use Rattle.std.proofs.Common.{◌≡◌, ◌++◌, take}
use denote.Shadow.{shadow}
use denote.Text.{Utf8}
use Rattle.std.specs.String.{string_bytes}
use Rattle.listing_notes.specs.Facts.{facts_text}
use Rattle.listing_notes.proofs.LoopLemmas.{comma_after}
use Rattle.listing_notes.proofs.facts.push_facts.Given as goal

-- the facts so far, and the comma that the next one has before it
abbrev pub invariant-loop-part : goal.invariant-loop-part
invariant-loop-part g l = record {
  text : string_bytes l.text ≡ string_bytes l.initial.text ++ facts_text l.known (take l.part-index l.parts);
  utf8 : shadow (Utf8 l.comma);
  comma : l.comma ≡ comma_after (take l.part-index l.parts);
}
