-- Equal names have the same hash.
use Rattle.std.proofs.Common.{◌≡◌, ℕ, Bool, true, false, ◌==◌, List, [], ◌∷◌, take, drop, length, fold, refl, ap, sym, ◌∙◌}
use Rattle.std.proofs.Common.{◌||◌, nat_eq, take-append-drop, arith}
use Rattle.std.specs.Char.{to_ascii_lowercase}
use Rattle.std.specs.List.{list_any}
use Rattle.std.specs.Str.{str_to_ascii_lowercase, str_eq_ignore_ascii_case}
use Rattle.std.proofs.lemmas.Bool.{and_parts}
use Rattle.std.proofs.lemmas.Bool.Decides.{nat_tests}
use Rattle.std.proofs.lemmas.Grind.{fold-append}
use Rattle.std.proofs.lemmas.List.Folds.{fold-map}
use Rattle.std.proofs.lemmas.Slice.Eq.{bytes_eq-Decides}
use Rattle.tl_fields.specs.Number.{is_blank}
use Rattle.tl_segments.specs.Name.{name_equals}
use Rattle.tl_segments.specs.Segment.{SegmentParts, names_of}
use Rattle.geocode.specs.Hits.{has_name}
use Rattle.geocode.specs.NameHash.{hash_of, hash_with, key_of, mixed}
use Rattle.geocode.specs.NameIndex.{has_key}
use Rattle.geocode.specs.declared.name_hash.TheConstants.{FNV_OFFSET}

hash_with-blank : (hash byte : ℕ) → (byte == 32) ≡ true → hash_with hash byte ≡ hash
hash_with-blank hash byte blank = let is : byte ≡ 32 = grind (arith, nat_tests) in rw is refl

-- blanks don't change the hash
fold-blanks : (hash : ℕ) (bytes : List ℕ) → is_blank bytes ≡ true → fold hash_with hash bytes ≡ hash
fold-blanks hash [] blank = refl
fold-blanks hash (byte ∷ bytes) blank =
    let parts = and_parts (byte == 32) (is_blank bytes) blank in
    ap (λ hash. fold hash_with hash bytes) (hash_with-blank hash byte parts.0) ∙ fold-blanks hash bytes parts.1

-- neither does the case of letters
fold-case : (hash : ℕ) (a b : List ℕ) → str_eq_ignore_ascii_case a b ≡ true → fold hash_with hash a ≡ fold hash_with hash b
fold-case hash a b same =
    let is : str_to_ascii_lowercase a ≡ str_to_ascii_lowercase b =
    (bytes_eq-Decides (str_to_ascii_lowercase a) (str_to_ascii_lowercase b)).0 same in
    sym (fold-map mixed to_ascii_lowercase hash a) ∙ ap (fold mixed hash) is ∙ fold-map mixed to_ascii_lowercase hash b

-- equal names have the same hash
hash-same : (name wanted : List ℕ) → name_equals name wanted ≡ true → hash_of name ≡ hash_of wanted
unfolding hash_of
hash-same name wanted equal =
    let front = take (length wanted) name in
    let rest = drop (length wanted) name in
    let parts = and_parts (str_eq_ignore_ascii_case front wanted) (is_blank rest) equal in
    ap (fold hash_with FNV_OFFSET) (sym (take-append-drop (length wanted) name))
    ∙ fold-append hash_with FNV_OFFSET front rest
    ∙ fold-blanks (fold hash_with FNV_OFFSET front) rest parts.1
    ∙ fold-case FNV_OFFSET front wanted parts.0

or-stricter : (loose strict loose' strict' : Bool) → (strict ≡ true → loose ≡ true) → (loose' ≡ false → strict' ≡ false)
    → (loose || loose') ≡ false → (strict || strict') ≡ false
or-stricter true strict loose' strict' stricter rest none = cc
or-stricter false true loose' strict' stricter rest none = let clash : false ≡ true = stricter refl in cc
or-stricter false false loose' strict' stricter rest none = rest none

-- if no element passes a test, none passes a stricter one
list_any-stricter : {X : Type 0} (loose strict : X → Bool) (xs : List X) → ((x : X) → strict x ≡ true → loose x ≡ true)
    → list_any loose xs ≡ false → list_any strict xs ≡ false
list_any-stricter loose strict [] stricter none = refl
list_any-stricter loose strict (x ∷ xs) stricter none =
    or-stricter (loose x) (strict x) (list_any loose xs) (list_any strict xs) (stricter x) (list_any-stricter loose strict xs stricter) none

-- a segment without a name that has a name's key doesn't have the name
pub has_name-key : (keys : ℕ) (name : List ℕ) (segment : SegmentParts) → has_key keys (key_of keys (hash_of name)) segment ≡ false
    → has_name name segment ≡ false
has_name-key keys name segment none =
    list_any-stricter (λ named. nat_eq (key_of keys (hash_of named)) (key_of keys (hash_of name)))
    (λ named. name_equals named name) (names_of segment)
    (λ named equal. let same = hash-same named name equal in grind (arith, nat_tests)) none
