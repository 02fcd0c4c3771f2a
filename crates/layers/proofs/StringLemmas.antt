-- Strings of JSON, written byte by byte.
use Rattle.std.proofs.Common.{◌≡◌, ℕ, ◌+◌, ◌<◌, List, [], ◌++◌, length, get_or, take, sym, ap, ◌∙◌, append_assoc}
use Rattle.std.proofs.lemmas.Grind.{take_at_read}
use Rattle.std.proofs.lemmas.List.{flat_map_more}
use Rattle.json.specs.Print.{escape, escape_byte}

-- one more byte of a string
pub escape_next : (start now text next : List ℕ) (k : ℕ) → k < length text → now ≡ start ++ escape (take k text)
    → next ≡ now ++ escape_byte (get_or text k 0) → next ≡ start ++ escape (take (k + 1) text)
escape_next start now text next k inside so_far is =
    is ∙ ap (λ now. now ++ escape_byte (get_or text k 0)) so_far
    ∙ append_assoc start (escape (take k text)) (escape_byte (get_or text k 0))
    ∙ ap (λ rest. start ++ rest) (flat_map_more escape_byte [] (take k text) (get_or text k 0))
    ∙ ap (λ text. start ++ escape text) (sym (take_at_read text k 0 inside).1)
