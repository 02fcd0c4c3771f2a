use Rattle.std.proofs.Common.{◌≡◌, ◌++◌, map, take}
use Rattle.std.specs.List.{flat_map}
use Rattle.std.specs.String.{string_bytes}
use Rattle.listing_lines.specs.SourceLines.{line_of}
use Rattle.listing_excerpt.specs.Excerpt.{word_text}
use Rattle.listing_excerpt.proofs.excerpt.push_words.Given as goal

-- the words so far
abbrev pub invariant-loop-word : goal.invariant-loop-word
invariant-loop-word g l =
    string_bytes l.text ≡ string_bytes l.initial.text ++ flat_map (word_text l.program (map line_of l.lines) l.refused l.reason) (take l.word-index l.words)
