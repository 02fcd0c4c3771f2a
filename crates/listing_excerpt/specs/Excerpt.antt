-- The words of a program around a refused one, with the reason.
use Rattle.std.specs.Prelude.{◌≡◌, ℕ, ◌+◌, ◌-◌, ◌/◌, ◌==◌, min, if◌then◌else◌, List, [], ◌∷◌, ◌++◌, All, map, length, take, codes, decimal, Option, Some, None}
use Rattle.std.specs.List.{flat_map, range_with_len}
use Rattle.hex.specs.Hex.{encode_lower}
use Rattle.bpf_insn.specs.declared.instruction.Insn.{Insn}
use Rattle.bpf_text.specs.CodeText.{line_text}
use Rattle.listing_lines.specs.SourceLines.{SourceLine, source_text}
use Rattle.listing_excerpt.specs.Reading.{Begins, from_place}
use Rattle.listing_excerpt.specs.declared.excerpt.PlacedWord.{PlacedWord}
use Rattle.listing_excerpt.specs.declared.excerpt.TheConstants.{WORDS_AROUND}

-- the places of the words around one, in a program with a number of words
abbrev pub first_around : ℕ → ℕ
first_around place = place - WORDS_AROUND

abbrev pub end_around : ℕ → ℕ → ℕ
end_around count place = min (place + WORDS_AROUND + 1) count

abbrev pub places_around : ℕ → ℕ → List ℕ
places_around count place = range_with_len (first_around place) (end_around count place - first_around place)

-- the lines of source code that belong to a place
abbrev pub source_if_at : ℕ → SourceLine → List ℕ
source_if_at place line = if line.place == place then source_text line else []

abbrev pub sources_at : ℕ → List SourceLine → List ℕ
sources_at place lines = flat_map (source_if_at place) lines

-- bytes in hexadecimal digits, each after a blank
abbrev pub byte_text : ℕ → List ℕ
byte_text byte = 32 ∷ encode_lower (byte ∷ [])

abbrev pub bytes_text : List ℕ → List ℕ
bytes_text bytes = flat_map byte_text bytes

-- an instruction's text, if there is one, in the column after the bytes
abbrev pub insn_text : Option Insn → List ℕ
insn_text None = []
insn_text (Some insn) = codes "  " ++ line_text insn

-- a word's line: its place, its bytes, and the instruction that begins with it
unfoldable pub word_line : List ℕ → PlacedWord → List ℕ
word_line program word =
    decimal word.place ++ codes ":" ++ bytes_text (take 8 (from_place program word.place)) ++ insn_text word.insn ++ codes "\n"

-- the line after the refused word
abbrev pub reason_line : List ℕ → List ℕ
reason_line reason = codes "refused: " ++ reason ++ codes "\n"

abbrev pub reason_if_at : ℕ → List ℕ → ℕ → List ℕ
reason_if_at refused reason place = if place == refused then reason_line reason else []

-- the lines of a word: the source lines of its place, its own, and the reason if it is the refused one
unfoldable pub word_text : List ℕ → List SourceLine → ℕ → List ℕ → PlacedWord → List ℕ
word_text program lines refused reason word =
    sources_at word.place lines ++ word_line program word ++ reason_if_at refused reason word.place

-- these are the words at the places, each with the instruction that begins with it, if one does
pub record AreWordsAt (program : List ℕ) (places : List ℕ) (words : List PlacedWord) : Type 0 where
  pub places_are : map (λ word. word.place) words ≡ places
  pub insns_are : All (λ word. Begins (from_place program word.place) word.insn) words

-- the text shows the words around the refused one, with the reason after it
pub record IsExcerpt (program : List ℕ) (lines : List SourceLine) (refused : ℕ) (reason text : List ℕ) : Type 0 where
  pub words : List PlacedWord
  pub are_words : AreWordsAt program (places_around (length program / 8) refused) words
  pub is : text ≡ flat_map (word_text program lines refused reason) words
