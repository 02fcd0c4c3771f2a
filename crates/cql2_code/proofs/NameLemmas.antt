-- Questions about names answer whether one of a segment's first names is the required one.
use Rattle.std.proofs.Common.{◌≡◌, ℕ, zero, suc, ◌+◌, ◌-◌, ◌<◌, ◌≤◌, ◌^◌, ◌==◌, pos, nat_le, nat_lt, Bool, true, false, not, ◌&&◌}
use Rattle.std.proofs.Common.{◌||◌, List, [], ◌∷◌, ◌++◌, length, take, drop, replicate, slice_get, All, Option, Some, None}
use Rattle.std.proofs.Common.{if◌then◌else◌, refl, sym, ap, ◌∙◌, arith}
use Rattle.std.specs.Char.{to_ascii_lowercase}
use Rattle.std.specs.List.{list_any}
use Rattle.std.specs.Str.{str_eq_ignore_ascii_case}
use Rattle.std.proofs.lemmas.Bool.Decides.{nat_tests}
use Rattle.std.proofs.lemmas.List.Elements.{All-cons}
use Rattle.std.proofs.lemmas.List.{append_assoc, length-append, length-replicate, replicate-append-replicate, take_at}
use Rattle.bpf_helpers.specs.Meaning.{is_name, truth as number_of_truth}
use Rattle.bpf_insn.specs.Arithmetic.{condition_holds}
use Rattle.bpf_insn.specs.declared.instruction.Width.TheVariants.{Bits64}
use Rattle.tl_fields.specs.Number.{is_blank as are_blank}
use Rattle.tl_fields.specs.Field.{field_of}
use Rattle.tl_segments.specs.Name.{name_equals}
use Rattle.tl_segments.specs.Range.{AreBytes}
use Rattle.tl_segments.specs.Segment.{SegmentParts, IsSegment, names_of}
use Rattle.tl_segments.proofs.SegmentLemmas.{AreBytes-field_of}
use Rattle.cql2.specs.Function.{has_name}
use Rattle.cql2.specs.Truth.{is as is_truth}
use Rattle.cql2.specs.declared.filter.Comparison.TheVariants.{GreaterOrEqual, LessOrEqual, NotEqual}
use Rattle.cql2_code.specs.Columns.{test}
use Rattle.cql2_code.specs.Function.{asks_has_name, checks_for_end, is_named, is_named_from, name_block}
use Rattle.cql2_code.specs.Question.{answer, condition_of}
use Rattle.cql2_code.specs.declared.question.Subject.TheVariants.{NameIs, Names}
use Rattle.cql2_code.proofs.JoinLemmas.{and_assoc, both_answers}
use Rattle.cql2_code.proofs.NumberLemmas.{compared, small_fits}
use Rattle.cql2_code.proofs.PartLemmas.{part_asked, passes}

-- Blanks after the required bytes make no difference

lower_blank : (byte : ℕ) → (to_ascii_lowercase byte == 32) ≡ (byte == 32)
lower_blank byte = grind (arith, nat_tests)

-- a name equals a byte and more, by its first byte
equals_more : (byte : ℕ) (name : List ℕ) (letter : ℕ) (required : List ℕ) → name_equals (byte ∷ name) (letter ∷ required)
    ≡ (to_ascii_lowercase byte == to_ascii_lowercase letter && name_equals name required)
equals_more byte name letter required = sym (and_assoc (to_ascii_lowercase byte == to_ascii_lowercase letter)
    (str_eq_ignore_ascii_case (take (length required) name) required) (are_blank (drop (length required) name)))

blanks_equal : (name : List ℕ) (count : ℕ) → length name ≡ count → name_equals name (replicate count 32) ≡ are_blank name
blanks_equal [] zero long = refl
blanks_equal [] (suc count) long = absurd (omega arith)
blanks_equal (byte ∷ name) zero long = absurd (omega arith)
blanks_equal (byte ∷ name) (suc count) long =
    equals_more byte name 32 (replicate count 32)
    ∙ ap (λ (first : Bool). first && name_equals name (replicate count 32)) (lower_blank byte)
    ∙ ap (λ (rest : Bool). byte == 32 && rest) (blanks_equal name count (omega arith))

padded_equal : (name text : List ℕ) (count : ℕ) → length name ≡ length text + count
    → name_equals name (text ++ replicate count 32) ≡ name_equals name text
padded_equal name [] count long = blanks_equal name count (omega arith)
padded_equal [] (letter ∷ text) count long = absurd (omega arith)
padded_equal (byte ∷ name) (letter ∷ text) count long =
    equals_more byte name letter (text ++ replicate count 32)
    ∙ ap (λ (rest : Bool). to_ascii_lowercase byte == to_ascii_lowercase letter && rest) (padded_equal name text count (omega arith))
    ∙ sym (equals_more byte name letter text)

block_parts : (text : List ℕ) (count : ℕ) → text ++ replicate (count + 2) 32 ≡ (text ++ replicate count 32) ++ replicate 2 32
block_parts text count =
    ap (λ (blanks : List ℕ). text ++ blanks) (sym (replicate-append-replicate count 2 32))
    ∙ sym (append_assoc text (replicate count 32) (replicate 2 32))

-- 30 bytes of a name in the frame are compared
block_taken : (text : List ℕ) → length text ≤ 30 → take 30 (name_block text) ≡ text ++ replicate (30 - length text) 32
block_taken text few =
    let more : 32 - length text ≡ 30 - length text + 2 = omega arith in
    let blanks = replicate (30 - length text) 32 in
    ap (λ (count : ℕ). take 30 (text ++ replicate count 32)) more ∙ ap (take 30) (block_parts text (30 - length text))
    ∙ take_at (text ++ blanks) (replicate 2 32) 30
    (omega (arith, length-append text blanks, length-replicate {A = ℕ} (30 - length text) 32))

block_equals : (text name : List ℕ) → length text ≤ 30 → AreBytes 30 name
    → name_equals name (take 30 (name_block text)) ≡ name_equals name text
block_equals text name few are =
    let long = are.length in
    ap (name_equals name) (block_taken text few) ∙ padded_equal name text (30 - length text) (omega arith)

-- tests that agree on all parts find the same parts
any_same : {X : Type 0} (P : X → Type 0) (good other : X → Bool) (count : ℕ) (parts : List X) → All P parts
    → ((part : X) → P part → good part ≡ other part) → list_any good (take count parts) ≡ list_any other (take count parts)
any_same P good other zero parts all same = refl
any_same P good other (suc count) [] all same = refl
any_same P good other (suc count) (part ∷ parts) all same =
    ap (λ (first : Bool). first || list_any good (take count parts)) (same part (all 0 part (omega arith)))
    ∙ ap (λ (rest : Bool). other part || rest) (any_same P good other count parts (λ k d inside. all (suc k) d (omega arith)) same)

truth_compared : (equal : Bool) → condition_holds (condition_of NotEqual) Bits64 (number_of_truth equal) 0 ≡ equal
truth_compared true = refl
truth_compared false = refl

name_found : (required : List ℕ) (name : Option (List ℕ)) → is_name required name ≡ passes (λ name. name_equals name required) name
name_found required None = refl
name_found required (Some name) = refl

at_least_is_less : (m n : ℕ) → nat_le m n ≡ nat_lt m (suc n)
at_least_is_less m n = grind (arith, nat_tests)

-- what a segment's names imply: one of them is the required one, and there are no more

known_named : (found whole : Bool)
    → found ≡ is_truth (if found then Some true else (if whole then Some false else None)) true
known_named true whole = refl
known_named false true = refl
known_named false false = refl

known_other : (found whole : Bool)
    → (whole && not found) ≡ is_truth (if found then Some true else (if whole then Some false else None)) false
known_other true true = refl
known_other true false = refl
known_other false true = refl
known_other false false = refl

module _ (segment : SegmentParts) (is : IsSegment segment) where
  names_are : All (AreBytes 30) (names_of segment)
  names_are = All-cons (AreBytes 30) (field_of segment.bytes 20 49) segment.names
      (AreBytes-field_of segment.bytes 228 20 49 is.bytes (omega arith) (omega arith) (omega arith)) is.names

  names_answer : (at : ℕ) → at < 2 ^ 62 → answer (test Names GreaterOrEqual (pos at)) segment ≡ nat_lt at (length (names_of segment))
  names_answer at small =
      let few = is.few_names in
      compared GreaterOrEqual (pos (length segment.names)) (pos at) (small_fits _ (omega arith)) (small_fits at (omega arith))
      ∙ at_least_is_less at (length segment.names)

  -- a name with this index or a later one is the required one
  named_found : (required : List ℕ) (at more : ℕ) → at + more ≤ 2 ^ 62 → answer (is_named_from required at more) segment
      ≡ list_any (λ name. name_equals name (take 30 required)) (take more (drop at (names_of segment)))
  unfolding is_named_from
  named_found required at zero small = refl
  named_found required at (suc more) small =
      part_asked (λ name. name_equals name (take 30 required)) (names_of segment) at more segment (record {
        inside = test Names GreaterOrEqual (pos at);
        here = test (NameIs at required) NotEqual (pos 0);
        rest = is_named_from required (at + 1) more;
        inside_is = names_answer at (omega arith);
        here_is = truth_compared _ ∙ name_found (take 30 required) (slice_get (names_of segment) at);
        rest_is = named_found required (at + 1) more (omega arith);
      }) (checks_for_end at)

  is_named_rightly : (text : List ℕ) (most : ℕ) → length text ≤ 30 → most < 2 ^ 16
      → answer (is_named text most) segment ≡ list_any (λ name. name_equals name text) (take (1 + most) (names_of segment))
  is_named_rightly text most few small =
      let count : suc most ≡ 1 + most = omega arith in
      named_found (name_block text) 0 (suc most) (omega arith)
      ∙ any_same (AreBytes 30) _ _ (suc most) (names_of segment) names_are (λ name are. block_equals text name few are)
      ∙ ap (λ (n : ℕ). list_any (λ name. name_equals name text) (take n (names_of segment))) count

  few_names_answer : (most : ℕ) → most < 2 ^ 16 → answer (test Names LessOrEqual (pos most)) segment ≡ nat_le (length segment.names) most
  few_names_answer most small =
      let few = is.few_names in
      compared LessOrEqual (pos (length segment.names)) (pos most) (small_fits _ (omega arith)) (small_fits most (omega arith))

  -- a name, asked for either truth value
  pub has_name_rightly : (text : List ℕ) (most : ℕ) → length text ≤ 30 → most < 2 ^ 16 → (asked : Bool)
      → answer (asks_has_name text most asked) segment ≡ is_truth (has_name text most segment) asked
  has_name_rightly text most few small true =
      is_named_rightly text most few small
      ∙ known_named (list_any (λ name. name_equals name text) (take (1 + most) (names_of segment))) (nat_le (length segment.names) most)
  has_name_rightly text most few small false =
      both_answers (few_names_answer most small) (ap not (is_named_rightly text most few small))
      ∙ known_other (list_any (λ name. name_equals name text) (take (1 + most) (names_of segment))) (nat_le (length segment.names) most)
