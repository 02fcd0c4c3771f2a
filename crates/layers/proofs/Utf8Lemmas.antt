-- Latin-1 in UTF-8 (RFC 3629, section 3).
use Rattle.std.proofs.Common.{◌≡◌, ℕ, ◌+◌, ◌/◌, ◌%◌, ◌<◌, ◌≤◌, List, [], ◌∷◌, ◌++◌, length, get_or, take, encode_utf8_all, refl, sym, ap, ◌∙◌, arith}
use Rattle.std.proofs.lemmas.Bool.{lt-ltb, le-ltb}
use Rattle.std.proofs.lemmas.Grind.{take_at_read}
use Rattle.std.proofs.lemmas.List.{flat_map_more}
use Rattle.std.specs.Char.{encode_utf8}
use Rattle.std.specs.List.{flat_map}

encode_utf8_all-flat_map : (cs : List ℕ) → encode_utf8_all cs ≡ flat_map encode_utf8 cs
encode_utf8_all-flat_map [] = refl
encode_utf8_all-flat_map (c ∷ cs) = ap (λ rest. encode_utf8 c ++ rest) (encode_utf8_all-flat_map cs)

-- one more byte, after those before it
pub utf8_next : (now bytes : List ℕ) (k : ℕ) (text : List ℕ) → k < length bytes → now ≡ encode_utf8_all (take k bytes)
    → text ≡ now ++ encode_utf8 (get_or bytes k 0) → text ≡ encode_utf8_all (take (k + 1) bytes)
utf8_next now bytes k text inside so_far is =
    is ∙ ap (λ now. now ++ encode_utf8 (get_or bytes k 0)) (so_far ∙ encode_utf8_all-flat_map (take k bytes))
    ∙ flat_map_more encode_utf8 [] (take k bytes) (get_or bytes k 0)
    ∙ ap (flat_map encode_utf8) (sym (take_at_read bytes k 0 inside).1)
    ∙ sym (encode_utf8_all-flat_map (take (k + 1) bytes))

pub encode_ascii : (b : ℕ) → b < 128 → encode_utf8 b ≡ b ∷ []
unfolding encode_utf8
encode_ascii b low = rw (lt-ltb b 128 low) refl

pub encode_latin_1 : (b : ℕ) → 128 ≤ b → b < 256 → encode_utf8 b ≡ (192 + b / 64) ∷ (128 + b % 64) ∷ []
unfolding encode_utf8
encode_latin_1 b high small =
    let below : b < 2048 = omega arith in
    rw (le-ltb b 128 high, lt-ltb b 2048 below) refl
