-- Hashes of street names.
use Rattle.std.specs.Prelude.{ℕ, ◌*◌, ◌%◌, ◌^◌, ◌==◌, if◌then◌else◌, bit_xor, List, fold}
use Rattle.std.specs.Char.{to_ascii_lowercase}
use Rattle.geocode.specs.declared.name_hash.TheConstants.{FNV_OFFSET, FNV_PRIME}

-- the hash of a name with one more byte; a blank doesn't change it
abbrev pub mixed : ℕ → ℕ → ℕ
mixed hash byte = if byte == 32 then hash else (bit_xor hash byte * FNV_PRIME) % 2 ^ 64

-- the same, with ASCII letters in lower case
abbrev pub hash_with : ℕ → ℕ → ℕ
hash_with hash byte = mixed hash (to_ascii_lowercase byte)

-- the hash of a name
unfoldable pub hash_of : List ℕ → ℕ
hash_of name = fold hash_with FNV_OFFSET name

-- the key of a hash, out of `keys` keys: a single key is that of all names; otherwise blank names have an extra key of their own
unfoldable pub key_of : ℕ → ℕ → ℕ
key_of keys hash = if keys == 1 then 0 else if hash == FNV_OFFSET then keys else hash % keys
