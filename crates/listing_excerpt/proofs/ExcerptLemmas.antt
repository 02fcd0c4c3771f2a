-- The words of an excerpt, one by one.
use Rattle.std.proofs.Common.{◌≡◌, ℕ, ◌+◌, ◌<◌, List, [], ◌∷◌, ◌++◌, map, refl, sym, ap, ◌∙◌, rules}
use Rattle.std.specs.List.{All, flat_map, range_with_len}
use Rattle.std.proofs.lemmas.List.{map-append, map-id}
use Rattle.std.proofs.lemmas.List.Elements.{All-append}
use Rattle.std.proofs.lemmas.List.FromFn.{map-range_with_len_more}
use Rattle.listing_lines.specs.SourceLines.{SourceLine, line_of}
use Rattle.listing_lines.specs.declared.source_lines.PlacedLine.{PlacedLine}
use Rattle.listing_excerpt.specs.Excerpt.{AreWordsAt, source_if_at, sources_at}
use Rattle.listing_excerpt.specs.Reading.{Begins, from_place}
use Rattle.listing_excerpt.specs.declared.excerpt.PlacedWord.{PlacedWord}

-- one more place
range-more : (first n at : ℕ) → first + n ≡ at → range_with_len first (n + 1) ≡ range_with_len first n ++ at ∷ []
range-more first n at is =
    sym (map-id (range_with_len first (n + 1))) ∙ map-range_with_len_more (λ (x : ℕ). x) first n at is
    ∙ ap (λ (xs : List ℕ). xs ++ at ∷ []) (map-id (range_with_len first n))

-- one more word
pub words-more : (program : List ℕ) (first n : ℕ) (words : List PlacedWord) (word : PlacedWord) → first + n ≡ word.place
    → AreWordsAt program (range_with_len first n) words → Begins (from_place program word.place) word.insn
    → AreWordsAt program (range_with_len first (n + 1)) (words ++ word ∷ [])
words-more program first n words word at are begins = record {
  places_are = map-append (λ (w : PlacedWord). w.place) words (word ∷ []) ∙ ap (λ (xs : List ℕ). xs ++ word.place ∷ []) are.places_are
      ∙ sym (range-more first n word.place at);
  insns_are = All-append (λ (w : PlacedWord). Begins (from_place program w.place) w.insn) words (word ∷ []) are.insns_are (search rules);
}

pub within-more : (count : ℕ) (words : List PlacedWord) (word : PlacedWord) → All (λ w. w.place < count) words → word.place < count
    → All (λ w. w.place < count) (words ++ word ∷ [])
within-more count words word are within = All-append (λ (w : PlacedWord). w.place < count) words (word ∷ []) are (search rules)

-- lines of the program, and lines of the definitions
pub sources-map : (place : ℕ) (lines : List PlacedLine) → flat_map (λ line. source_if_at place (line_of line)) lines ≡ sources_at place (map line_of lines)
sources-map place [] = refl
sources-map place (line ∷ lines) = ap (λ (text : List ℕ). source_if_at place (line_of line) ++ text) (sources-map place lines)
