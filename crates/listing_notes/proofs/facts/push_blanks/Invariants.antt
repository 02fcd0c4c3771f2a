use Rattle.std.proofs.Common.{◌≡◌, ◌++◌, replicate}
use Rattle.std.specs.String.{string_bytes}
use Rattle.listing_notes.proofs.facts.push_blanks.Given as goal

-- the blanks so far
abbrev pub invariant-loop-blank : goal.invariant-loop-blank
invariant-loop-blank g l = string_bytes l.text ≡ string_bytes l.initial.text ++ replicate l._blank 32
