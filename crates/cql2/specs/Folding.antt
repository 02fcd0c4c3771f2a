-- Letters that are the same but for their case or their diacritics (CQL2, 21-065r2, CASEI and ACCENTI), of Latin-1.
use Rattle.std.specs.Prelude.{ℕ, ◌+◌, Bool, ◌&&◌, ◌||◌, ◌==◌, not, nat_le, if◌then◌else◌}
use Rattle.cql2.specs.declared.pattern.Folding.{Folding}

abbrev pub is_within : ℕ → ℕ → ℕ → Bool
is_within low high byte = nat_le low byte && nat_le byte high

-- the letters A to Z and À to Þ, each 32 below its lower-case letter
abbrev pub is_upper_case : ℕ → Bool
is_upper_case byte = is_within 65 90 byte || is_within 192 222 byte && not (byte == 215)

abbrev pub lower_case : ℕ → ℕ
lower_case byte = if is_upper_case byte then byte + 32 else byte

-- a letter without its diacritic
abbrev pub unaccented : ℕ → ℕ
unaccented byte =
    if is_within 192 197 byte then 65  -- À Á Â Ã Ä Å: A
    else (if byte == 199 then 67  -- Ç: C
    else (if is_within 200 203 byte then 69  -- È É Ê Ë: E
    else (if is_within 204 207 byte then 73  -- Ì Í Î Ï: I
    else (if byte == 209 then 78  -- Ñ: N
    else (if is_within 210 214 byte then 79  -- Ò Ó Ô Õ Ö: O
    else (if is_within 217 220 byte then 85  -- Ù Ú Û Ü: U
    else (if byte == 221 then 89  -- Ý: Y
    else (if is_within 224 229 byte then 97  -- à á â ã ä å: a
    else (if byte == 231 then 99  -- ç: c
    else (if is_within 232 235 byte then 101  -- è é ê ë: e
    else (if is_within 236 239 byte then 105  -- ì í î ï: i
    else (if byte == 241 then 110  -- ñ: n
    else (if is_within 242 246 byte then 111  -- ò ó ô õ ö: o
    else (if is_within 249 252 byte then 117  -- ù ú û ü: u
    else (if byte == 253 || byte == 255 then 121  -- ý ÿ: y
    else byte)))))))))))))))

-- a byte without what is ignored
abbrev pub folded : Folding → ℕ → ℕ
folded folding byte =
    let letter = if folding.accents then unaccented byte else byte in if folding.case then lower_case letter else letter

-- two bytes are the same but for what is ignored
abbrev pub is_alike : Folding → ℕ → ℕ → Bool
is_alike folding byte other = folded folding byte == folded folding other
