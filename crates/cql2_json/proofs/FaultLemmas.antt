-- Why JSON has no text.
use Rattle.std.proofs.Common.{◌≡◌, ℕ, ◌≤◌, List, [], ◌∷◌, length, take, drop, Some, None, Result, Ok, Err, Vec, refl, ap, sym, ◌∙◌, subst, arith}
use Rattle.std.specs.Prelude.{unwrap_or, MatchResult, option_and_then}
use Rattle.std.specs.Str.{IsUtf8}
use Rattle.std.proofs.lemmas.List.{append-nil, take-append-drop}
use Rattle.json.specs.Json.{Json, document, if_last, value as value_of}
use Rattle.json.specs.Lex.{tokens}
use Rattle.json.specs.Token.{Token}
use Rattle.cql2_json.specs.Fault.{HasFlaw, IsTranslated, Refuses, json_fault_after}
use Rattle.cql2_json.specs.Pointer.{pointer_text}
use Rattle.cql2_json.specs.Translation.{Piece, Translation, filter_translation, joined, joined_text, path_at, text_of, written}
use Rattle.cql2_json.specs.declared.fault.JsonFault.{JsonFault}
use Rattle.cql2_json.specs.declared.fault.JsonFault.TheVariants.{Json as Unread, Value, Memory}
use Rattle.cql2_json.specs.declared.fault.JsonFlaw.{JsonFlaw}
use Rattle.cql2_json.specs.declared.fault.JsonFlaw.TheVariants as json_flaw
use Rattle.cql2_json.specs.declared.fault.ValueFlaw.{ValueFlaw}
use Rattle.cql2_json.specs.declared.fault.ValueFlaw.TheVariants.{Expected, TooLong}
use Rattle.cql2_json.specs.declared.pointer.Step.{Step}
use Rattle.cql2_json.specs.declared.translation.TheConstants.{MAX_LENGTH}
use Rattle.cql2_json.proofs.WriterLemmas.{path_at-past}

-- the JSON is no value, or more than one
pub unread-value : (text : List ℕ) (ts : List Token) → ts ≡ tokens text → value_of 128 ts ≡ None → document text ≡ None
unread-value text ts is none = ap (λ r. option_and_then (λ p. if_last p.0 p.1) r) (ap (value_of 128) (sym is) ∙ none)

pub unread-rest : (text : List ℕ) (ts rest more : List Token) (t : Token) (j : Json) → ts ≡ tokens text → value_of 128 ts ≡ Some (j, rest)
    → rest ≡ t ∷ more → document text ≡ None
unread-rest text ts rest more t j is some left =
    ap (λ r. option_and_then (λ p. if_last p.0 p.1) r) (ap (value_of 128) (sym is) ∙ some) ∙ ap (if_last j) left

pub placed : {A : Type 0} (json bytes : List ℕ) (limit offset : ℕ) (flaw : JsonFlaw) (fault : JsonFault A) → HasFlaw json flaw → bytes ≡ json
    → fault ≡ json_fault_after (take offset bytes) flaw → Refuses json limit fault
placed json bytes limit offset flaw fault has same is =
    subst (Refuses json limit) (sym (is ∙ ap (λ text. json_fault_after (take offset text) flaw) same))
    (has, (take offset json, drop offset json, sym (take-append-drop offset json), refl, refl))

-- JSON that is a value has no flaw
pub no_flaw : (json : List ℕ) (flaw : JsonFlaw) (value : Json) → length json ≤ MAX_LENGTH → IsUtf8 json → document json ≡ Some value
    → HasFlaw json flaw → ⊥
no_flaw json json_flaw.Utf8 value short utf8 is has = has utf8
no_flaw json json_flaw.Syntax value short utf8 is has = cc
no_flaw json json_flaw.TooLong value short utf8 is has = omega arith

-- past the end of the pieces there is none
path_at-end : (ps : List Piece) (n : ℕ) → length (joined ps) ≤ n → path_at ps n ≡ None
path_at-end ps n past = ap (λ pieces. path_at pieces n) (sym (append-nil ps)) ∙ path_at-past ps [] n past

pub inside : (ps : List Piece) (n : ℕ) (path : List Step) → path_at ps n ≡ Some path → length (joined ps) ≤ n → ⊥
inside ps n path is past = let none = path_at-end ps n past in cc

some-same : {X : Type 0} (a b : X) → Some a ≡ Some b → a ≡ b
some-same a b is = cc

same-value : (json : List ℕ) (a b : Json) → document json ≡ Some a → document json ≡ Some b → a ≡ b
same-value json a b first second = some-same a b (sym first ∙ second)

pub pointed : {A : Type 0} (json : List ℕ) (limit : ℕ) (pointer : Vec ℕ A) (flaw : ValueFlaw) (value : Json) (pieces : List Piece)
    → document json ≡ Some value → filter_translation value ≡ Ok pieces → Refuses json limit (Value pointer flaw)
    → pointer.items ≡ pointer_text (unwrap_or (path_at pieces limit) [])
pointed json limit pointer (Expected needs) value pieces is ok fault =
    let other = fault.0 in
    let same : other ≡ value = same-value json other value fault.1 is in
    let wrong : Err fault.2.0 ≡ Ok pieces = sym fault.2.1 ∙ ap filter_translation same ∙ ok in
    let never : ⊥ = cc in
    absurd never
pointed json limit pointer TooLong value pieces is ok fault =
    let other = fault.0 in
    let same : other ≡ value = same-value json other value fault.1 is in
    let here : path_at pieces limit ≡ Some fault.2.0 = ap (λ t. path_at (written t) limit) (sym (ap filter_translation same ∙ ok)) ∙ fault.2.1 in
    fault.2.2 ∙ ap (λ path. pointer_text (unwrap_or path [])) (sym here)

pub root : {A : Type 0} (json : List ℕ) (limit : ℕ) (text : Vec ℕ A) (value : Json) (pieces : List Piece)
    → document json ≡ Some value → filter_translation value ≡ Ok pieces → IsTranslated json limit text
    → [] ≡ pointer_text (unwrap_or (path_at pieces limit) [])
root json limit text value pieces is ok made =
    let same : made.0 ≡ value = same-value json made.0 value made.1 is in
    let whole : Some (joined pieces) ≡ Some text.items = sym (ap joined_text (ap filter_translation same ∙ ok)) ∙ made.2 in
    let size : length (joined pieces) ≡ length text.items = ap length (some-same (joined pieces) text.items whole) in
    let short = made.3 in
    ap (λ path. pointer_text (unwrap_or path [])) (sym (path_at-end pieces limit (omega arith)))

-- the pieces of a text
split : (translation : Translation) (text : List ℕ) → joined_text translation ≡ Some text
    → (pieces : List Piece) × (translation ≡ Ok pieces) × (joined pieces ≡ text)
split (Ok pieces) text is = (pieces, refl, some-same (joined pieces) text is)
split (Err fault) text is = let never : ⊥ = cc in absurd never

-- JSON within its limit, whose value has a text within another
pub record HasText (json text : List ℕ) (limit : ℕ) (value : Json) : Type 0 where
  pub short : length json ≤ MAX_LENGTH
  pub utf8 : IsUtf8 json
  pub is : document json ≡ Some value
  pub has : text_of value ≡ Some text
  pub few : length text ≤ limit

refused-only : {A : Type 0} (json text : List ℕ) (limit : ℕ) (value : Json) (fault : JsonFault A) → HasText json text limit value
    → Refuses json limit fault → fault ≡ Memory
refused-only json text limit value (Unread line column flaw) known refuses =
    absurd (no_flaw json flaw value known.short known.utf8 known.is refuses.0)
refused-only json text limit value (Value pointer (Expected needs)) known fault =
    let parts = split (filter_translation value) text known.has in
    let same : fault.0 ≡ value = same-value json fault.0 value fault.1 known.is in
    let wrong : Err fault.2.0 ≡ Ok parts.0 = sym fault.2.1 ∙ ap filter_translation same ∙ parts.1 in
    let never : ⊥ = cc in
    absurd never
refused-only json text limit value (Value pointer TooLong) known fault =
    let parts = split (filter_translation value) text known.has in
    let same : fault.0 ≡ value = same-value json fault.0 value fault.1 known.is in
    let size : length (joined parts.0) ≡ length text = ap length parts.2 in
    let few : length text ≤ limit = known.few in
    let here : path_at parts.0 limit ≡ Some fault.2.0 =
    ap (λ t. path_at (written t) limit) (sym (ap filter_translation same ∙ parts.1)) ∙ fault.2.1 in
    absurd (inside parts.0 limit fault.2.0 here (omega arith))
refused-only json text limit value Memory known fault = refl

pub only-text : {A : Type 0} (json text : List ℕ) (limit : ℕ) (value : Json) (result : Result (Vec ℕ A) (JsonFault A)) → HasText json text limit value
    → MatchResult result (IsTranslated json limit) (Refuses json limit)
    → MatchResult result (λ made. made.items ≡ text) (λ fault. fault ≡ Memory)
only-text json text limit value (Ok made) known done =
    some-same made.items text (sym done.2 ∙ ap text_of (same-value json done.0 value done.1 known.is) ∙ known.has)
only-text json text limit value (Err fault) known done = refused-only json text limit value fault known done
