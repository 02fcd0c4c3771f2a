-- Places within a text.
use Rattle.std.proofs.Common.{◌≡◌, ◌≤◌, ◌<◌, ◌==◌, ◌&&◌, ◌+◌, ◌-◌, ◌⊎◌, inl, inr, ℕ}
use Rattle.std.proofs.Common.{Bool, true, false, if◌then◌else◌, List, [], ◌∷◌, ◌++◌, length, take, drop, get_or}
use Rattle.std.proofs.Common.{refl, sym, subst, ◌∙◌, ap, length-append, arith}
use Rattle.std.proofs.Math.Seq.{take-append_seam}
use Rattle.std.proofs.lemmas.Bool.{and_parts, cases_lt}
use Rattle.std.proofs.lemmas.Bool.Decides.{nat_tests}
use Rattle.std.proofs.lemmas.List.{append-nil, length-drop, take-append-drop, take_all}
use Rattle.std.proofs.lemmas.List.Sums.{fold_more}
use Rattle.cql2_text.specs.Nearest.{IsAfter, IsRestFrom}
use Rattle.cql2_text.specs.Position.{IsPlacedIn, column_after, fault_after, is_continuation, is_line_feed, line_after, next_column}
use Rattle.cql2_text.specs.declared.fault.FilterFault.{FilterFault}
use Rattle.cql2_text.specs.declared.fault.FilterFaultKind.{FilterFaultKind}

-- a fault after the first bytes of a text lies within it
pub placed_after : (text front : List ℕ) (count : ℕ) (flaw : FilterFaultKind) (fault : FilterFault) → front ≡ take count text
    → fault ≡ fault_after front flaw → IsPlacedIn text fault
placed_after text front count flaw fault first is =
    subst (IsPlacedIn text) (sym (is ∙ ap (λ front. fault_after front flaw) first))
    (take count text, drop count text, sym (take-append-drop count text), refl, refl)

-- this is the line and column after the first bytes of a text
pub record IsPlace (front : List ℕ) (count line column : ℕ) : Type 0 where
  pub line_is : line ≡ line_after front
  pub column_is : column ≡ column_after front
  pub few_lines : line ≤ 1 + count
  pub few_columns : column ≤ 1 + count

pub first_place : IsPlace [] 0 1 1
first_place = record { line_is = refl; column_is = refl; few_lines = omega arith; few_columns = omega arith }

column_grows : (feed continues : Bool) (column : ℕ) → (if feed then 1 else (if continues then column else column + 1)) ≤ column + 1
column_grows true continues column = omega arith
column_grows false true column = omega arith
column_grows false false column = omega arith

line_grows : (feed : Bool) → (if feed then 1 else 0) ≤ 1
line_grows true = omega arith
line_grows false = omega arith

-- after one more byte
pub next_place : (text : List ℕ) (i line column : ℕ) → i < length text → IsPlace (take i text) i line column
    → IsPlace (take (i + 1) text) (i + 1) (line + (if is_line_feed (get_or text i 0) then 1 else 0)) (next_column column (get_or text i 0))
next_place text i line column inside is = record {
  line_is =
      let before = is.line_is in
      let more = fold_more (λ count byte. count + (if is_line_feed byte then 1 else 0)) 0 text i 0 inside in
      omega arith;
  column_is = ap (λ column. next_column column (get_or text i 0)) is.column_is ∙ sym (fold_more next_column 1 text i 0 inside);
  few_lines = let before = is.few_lines in let more = line_grows (is_line_feed (get_or text i 0)) in omega arith;
  few_columns =
      let before = is.few_columns in
      let more = column_grows (is_line_feed (get_or text i 0)) (is_continuation (get_or text i 0)) column in
      omega arith;
}

same_numbers : (a b line column : ℕ) → (a == line && b == column) ≡ true → (line ≡ a) × (column ≡ b)
same_numbers a b line column same = let parts = and_parts (a == line) (b == column) same in
    ((let first = parts.0 in grind (arith, nat_tests)), (let second = parts.1 in grind (arith, nat_tests)))

other_numbers : (a b line column : ℕ) → (a == line && b == column) ≡ false → line ≡ a → column ≡ b → ⊥
other_numbers a b line column other same_line same_column = grind (arith, nat_tests)

-- this is the line and column after the first bytes of a text, and the wanted ones don't follow fewer bytes
pub record HasPassed (text : List ℕ) (i a b line column : ℕ) : Type 0 where
  pub here : IsPlace (take i text) i a b
  pub passed : (count : ℕ) → count < i → IsAfter line column (take count text) → ⊥

pub nothing_passed : (text : List ℕ) (line column : ℕ) → HasPassed text 0 1 1 line column
nothing_passed text line column = record { here = first_place; passed = λ count below after. absurd (omega arith) }

module _ {text : List ℕ} {i a b line column : ℕ} (inside : i < length text) (so_far : HasPassed text i a b line column) where
  -- after one more byte
  pub passed_more : (a == line && b == column) ≡ false
      → HasPassed text (i + 1) (a + (if is_line_feed (get_or text i 0) then 1 else 0)) (next_column b (get_or text i 0)) line column
  passed_more other = record { here = next_place text i a b inside so_far.here; passed = λ count below. by count (cases_lt count i) below }
    where
      by : (count : ℕ) → (count < i) ⊎ (i ≤ count) → count < i + 1 → IsAfter line column (take count text) → ⊥
      by count (inl less) below after = so_far.passed count less after
      by count (inr past) below after =
          let same : count ≡ i = omega arith in
          let here = subst (λ count. IsAfter line column (take count text)) same after in
          other_numbers a b line column other (here.line_is ∙ sym so_far.here.line_is) (here.column_is ∙ sym so_far.here.column_is)

  -- the text from the wanted place on
  pub rest_from : (a == line && b == column) ≡ true → IsRestFrom text line column (take (length text - i) (drop i text))
  rest_from same =
      let numbers = same_numbers a b line column same in
      rw (take_all (length text - i) (drop i text) (simp length-drop (omega arith))) (record {
        front = take i text;
        splits = sym (take-append-drop i text);
        placed = λ some. record { line_is = numbers.0 ∙ so_far.here.line_is; column_is = numbers.1 ∙ so_far.here.column_is };
        ends = λ nothing. absurd (omega (arith, length-drop i text, ap length nothing));
      })

-- nothing follows the wanted place
pub no_rest : (text : List ℕ) (i a b line column : ℕ) → length text ≤ i → HasPassed text i a b line column → IsRestFrom text line column []
no_rest text i a b line column past all = record {
  front = text;
  splits = sym (append-nil text);
  placed = λ some. absurd (some refl);
  ends = λ nothing. ends;
}
  where
    ends : (before after : List ℕ) → text ≡ before ++ after → IsAfter line column before → after ≡ []
    ends before [] splits here = refl
    ends before (byte ∷ after) splits here =
        let same : take (length before) text ≡ before = ap (take (length before)) splits ∙ take-append_seam before (byte ∷ after) in
        absurd (all.passed (length before) (omega (arith, ap length splits, length-append before (byte ∷ after)))
        (subst (IsAfter line column) (sym same) here))
