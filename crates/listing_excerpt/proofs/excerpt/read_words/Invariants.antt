use Rattle.std.proofs.Common.{◌<◌, ◌/◌, length}
use Rattle.std.specs.List.{All, range_with_len}
use Rattle.listing_excerpt.specs.Excerpt.{AreWordsAt}
use Rattle.listing_excerpt.proofs.excerpt.read_words.Given as goal

-- the words so far
abbrev pub invariant-loop-index : goal.invariant-loop-index
invariant-loop-index g l = record {
  are : AreWordsAt l.program (range_with_len l.first l.index) l.words.items;
  within : All (λ word. word.place < length l.program / 8) l.words.items;
}
