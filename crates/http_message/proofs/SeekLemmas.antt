-- The route that a path finds among literal rows and one row that ends with a parameter.
use Rattle.std.proofs.Common.{◌≡◌, ℕ, zero, suc, ◌-◌, ◌<◌, ◌≤◌, ◌==◌, ◌&&◌, Bool, true, false, not, cond, List, [], ◌∷◌, ◌++◌, length}
use Rattle.std.proofs.Common.{drop, Option, None, Some, refl, sym, ap, subst, ◌∙◌, arith}
use Rattle.std.specs.Prelude.{nat_eq, nat_lt}
use Rattle.std.specs.List.{starts_with}
use Rattle.std.proofs.lemmas.Bool.Decides.{nat_tests}
use Rattle.matchit.specs.Level.{IsText}
use Rattle.matchit.specs.Order.{lookup}
use Rattle.matchit.specs.Rows.{RowsOf, catch_all_token, param_token}
use Rattle.matchit.specs.Seek.{has_slash as slashed, or_else, own, param_step, seek, step}
use Rattle.http_message.specs.Routes.{has_slash, is_segment}

-- the path segments here are those of the router

slashed_is : (text : List ℕ) → slashed text ≡ has_slash text
slashed_is [] = refl
slashed_is (byte ∷ text) = grind (arith, slashed_is text)

segment_is : (byte : ℕ) (text : List ℕ) → not (slashed (byte ∷ text)) ≡ is_segment (byte ∷ text)
segment_is byte text =
    let some : nat_lt 0 (length (byte ∷ text)) ≡ true = grind (arith, nat_tests) in
    ap not (slashed_is (byte ∷ text)) ∙ sym (ap (λ (some : Bool). some && not (has_slash (byte ∷ text))) some)

-- a literal start followed by a parameter
abbrev pub with_parameter : List ℕ → List ℕ
with_parameter front = front ++ param_token ∷ []

module _ {K : Type 0} where
  or_else_none : (x : Option K) → or_else x None ≡ x
  or_else_none None = refl
  or_else_none (Some key) = refl

  -- if no row continues, none is found

  param_none : (path : List ℕ) → (param_step {K = K} [] path).1 ≡ []
  unfolding param_step
  param_none path = elim (slashed path) as (λ slash. (cond {A = ℕ × RowsOf K} slash (0, []) (length path, [])).1 ≡ []) [
    | true ↦ refl
    | false ↦ refl
  ]

  seek_none : (skip : ℕ) (path : List ℕ) → seek {K = K} skip [] path ≡ None
  unfolding seek
  seek_none skip [] = refl
  seek_none (suc skip) (byte ∷ path) = seek_none skip path
  seek_none zero (byte ∷ path) =
      simp (seek_none 0 path, param_none (byte ∷ path), seek_none ((param_step {K = K} [] (byte ∷ path)).0 - 1) path)

  -- a byte of the path, if no row continues with a parameter
  one_step : (rows : RowsOf K) (byte : ℕ) (path : List ℕ) → step param_token rows ≡ [] → step catch_all_token rows ≡ []
      → seek 0 rows (byte ∷ path) ≡ seek 0 (step byte rows) path
  unfolding seek
  one_step rows byte path no_param no_catch_all =
      simp (no_param, no_catch_all, param_none (byte ∷ path), seek_none ((param_step {K = K} [] (byte ∷ path)).0 - 1) path, or_else_none)

  -- literal rows, none of which has a parameter

  abbrev pub AreLiteral : RowsOf K → Type 0
  AreLiteral [] = Unit {0}
  AreLiteral ((text, key) ∷ rows) = IsText text × AreLiteral rows

  step_token : (token : ℕ) (rows : RowsOf K) → 256 ≤ token → AreLiteral rows → step token rows ≡ []
  step_token token [] large are = refl
  step_token token (([], key) ∷ rows) large are = step_token token rows large are.1
  step_token token ((byte ∷ text, key) ∷ rows) large are =
      let small = are.0.0 in
      let other : (byte == token) ≡ false = grind (arith, nat_tests) in
      rw other (step_token token rows large are.1)

  literal_step : (rows : RowsOf K) (byte : ℕ) (path : List ℕ) → AreLiteral rows → seek 0 rows (byte ∷ path) ≡ seek 0 (step byte rows) path
  literal_step rows byte path are = one_step rows byte path (step_token param_token rows (omega arith) are)
      (step_token catch_all_token rows (omega arith) are)

  step_literal : (byte : ℕ) (rows : RowsOf K) → AreLiteral rows → AreLiteral (step byte rows)
  step_literal byte [] are = tt
  step_literal byte (([], key) ∷ rows) are = step_literal byte rows are.1
  step_literal byte ((first ∷ text, key) ∷ rows) are = let rest = step_literal byte rows are.1 in grind (arith, are, rest)

  step_append : (byte : ℕ) (rows more : RowsOf K) → step byte (rows ++ more) ≡ step byte rows ++ step byte more
  step_append byte [] more = refl
  step_append byte (([], key) ∷ rows) more = step_append byte rows more
  step_append byte ((first ∷ text, key) ∷ rows) more = grind (arith, step_append byte rows more)

  own_append : (rows more : RowsOf K) → own (rows ++ more) ≡ or_else (own rows) (own more)
  own_append [] more = refl
  own_append (([], key) ∷ rows) more = refl
  own_append ((byte ∷ text, key) ∷ rows) more = own_append rows more

  own_lookup : (rows : RowsOf K) → own rows ≡ lookup [] rows
  own_lookup [] = refl
  own_lookup (([], key) ∷ rows) = refl
  own_lookup ((byte ∷ text, key) ∷ rows) = own_lookup rows

  lookup_step : (byte : ℕ) (path : List ℕ) (rows : RowsOf K) → lookup path (step byte rows) ≡ lookup (byte ∷ path) rows
  lookup_step byte path [] = refl
  lookup_step byte path (([], key) ∷ rows) = lookup_step byte path rows
  lookup_step byte path ((first ∷ text, key) ∷ rows) = grind (arith, lookup_step byte path rows)

  pub seek_literal : (rows : RowsOf K) (path : List ℕ) → AreLiteral rows → seek 0 rows path ≡ lookup path rows
  unfolding seek
  seek_literal rows [] are = own_lookup rows
  seek_literal rows (byte ∷ path) are =
      literal_step rows byte path are ∙ seek_literal (step byte rows) path (step_literal byte rows are) ∙ lookup_step byte path rows

  -- a row that ends with a parameter, of which only the parameter is left

  skip_all : (rows : RowsOf K) (path : List ℕ) → seek (length path) rows path ≡ own rows
  unfolding seek
  skip_all rows [] = refl
  skip_all rows (byte ∷ path) = skip_all rows path

  -- what a path finds through the parameter
  abbrev parameter : K → List ℕ → Option K
  parameter key [] = None
  parameter key (byte ∷ path) = seek ((param_step (([], key) ∷ []) (byte ∷ path)).0 - 1) (param_step (([], key) ∷ []) (byte ∷ path)).1 path

  parameter_is : (key : K) (path : List ℕ) → parameter key path ≡ cond (is_segment path) (Some key) None
  unfolding param_step
  parameter_is key [] = refl
  parameter_is key (byte ∷ path) =
      by_slash (slashed (byte ∷ path)) (suc (length path)) (omega arith)
      ∙ ap (λ (test : Bool). cond test (Some key) None) (segment_is byte path)
    where
      by_slash : (slash : Bool) (count : ℕ) → count - 1 ≡ length path
          → seek ((cond {A = ℕ × RowsOf K} slash (0, []) (count, ([], key) ∷ [])).0 - 1)
          (cond {A = ℕ × RowsOf K} slash (0, []) (count, ([], key) ∷ [])).1 path ≡ cond (not slash) (Some key) None
      by_slash true count is = seek_none _ path
      by_slash false count is = rw is (skip_all (([], key) ∷ []) path)

  -- a byte of the path, if one row continues with a parameter
  parameter_step : (rows : RowsOf K) (key : K) (byte : ℕ) (path : List ℕ) → step param_token rows ≡ ([], key) ∷ []
      → step catch_all_token rows ≡ [] → seek 0 rows (byte ∷ path) ≡ or_else (seek 0 (step byte rows) path) (parameter key (byte ∷ path))
  unfolding seek
  parameter_step rows key byte path param no_catch_all = simp (param, no_catch_all, or_else_none)

  row_ended : (key : K) (byte : ℕ) (path : List ℕ) → seek 0 (([], key) ∷ []) (byte ∷ path) ≡ None
  row_ended key byte path = one_step (([], key) ∷ []) byte path refl refl ∙ seek_none 0 path

  -- the path's own byte may equal the parameter's token; the row is found anyway

  found_by_token : (key : K) (path : List ℕ) → or_else (seek 0 (([], key) ∷ []) path) (parameter key (param_token ∷ path)) ≡ parameter key
      (param_token ∷ path)
  unfolding seek param_step
  found_by_token key [] = refl
  found_by_token key (byte ∷ path) = ap (λ (found : Option K). or_else found (parameter key (param_token ∷ byte ∷ path))) (row_ended key byte path)

  found_by_byte : (key : K) (byte : ℕ) (path : List ℕ) → (param_token == byte) ≡ true
      → or_else (seek 0 (([], key) ∷ []) path) (parameter key (byte ∷ path)) ≡ parameter key (byte ∷ path)
  found_by_byte key byte path is =
      let token : param_token ≡ byte = grind (arith, nat_tests) in
      subst (λ (byte : ℕ). or_else (seek 0 (([], key) ∷ []) path) (parameter key (byte ∷ path)) ≡ parameter key (byte ∷ path)) token
      (found_by_token key path)

  parameter_alone : (key : K) (byte : ℕ) (path : List ℕ) → seek 0 ((param_token ∷ [], key) ∷ []) (byte ∷ path) ≡ parameter key (byte ∷ path)
  parameter_alone key byte path =
      parameter_step ((param_token ∷ [], key) ∷ []) key byte path refl refl ∙ by_test (param_token == byte) refl
    where
      by_test : (same : Bool) → (param_token == byte) ≡ same → or_else (seek 0 (cond same (([], key) ∷ []) []) path)
          (parameter key (byte ∷ path)) ≡ parameter key (byte ∷ path)
      by_test true is = found_by_byte key byte path is
      by_test false is = ap (λ (found : Option K). or_else found (parameter key (byte ∷ path))) (seek_none 0 path)

  seek_end : (rows : RowsOf K) → seek 0 rows [] ≡ own rows
  unfolding seek
  seek_end rows = refl

  step_front : (token first : ℕ) (text : List ℕ) (key : K) (rows : RowsOf K) → first < 256 → 256 ≤ token
      → step token ((first ∷ text, key) ∷ rows) ≡ step token rows
  step_front token first text key rows small large =
      let other : (first == token) ≡ false = grind (arith, nat_tests) in
      rw other refl

  -- one row alone: the path after its literal start must be a segment
  pub seek_alone : (front : List ℕ) (key : K) (path : List ℕ) → IsText front
      → seek 0 ((with_parameter front, key) ∷ []) path ≡ cond (starts_with nat_eq path front && is_segment (drop (length front) path))
      (Some key) None
  seek_alone [] key [] are = seek_end _
  seek_alone [] key (byte ∷ path) are = parameter_alone key byte path ∙ parameter_is key (byte ∷ path)
  seek_alone (first ∷ front) key [] are = seek_end _
  seek_alone (first ∷ front) key (byte ∷ path) are =
      one_step _ byte path (step_front param_token first (with_parameter front) key [] are.0 (omega arith))
      (step_front catch_all_token first (with_parameter front) key [] are.0 (omega arith))
      ∙ by_test (first == byte) (seek_alone front key path are.1)
    where
      by_test : (same : Bool) → seek 0 ((with_parameter front, key) ∷ []) path ≡ cond
          (starts_with nat_eq path front && is_segment (drop (length front) path)) (Some key) None
          → seek 0 (cond same ((with_parameter front, key) ∷ []) []) path ≡ cond
          ((same && starts_with nat_eq path front) && is_segment (drop (length front) path)) (Some key) None
      by_test true rest = rest
      by_test false rest = seek_none 0 path

  -- the row among literal rows, which come first

  own_parameter : (front : List ℕ) (key : K) (rows : RowsOf K) → own ((with_parameter front, key) ∷ rows) ≡ own rows
  own_parameter [] key rows = refl
  own_parameter (byte ∷ front) key rows = refl

  -- neither token continues a row that begins with a byte, nor a literal row
  step_among : (first : ℕ) (text : List ℕ) (key : K) (before after : RowsOf K) → first < 256 → AreLiteral before → AreLiteral after
      → (step param_token (before ++ (first ∷ text, key) ∷ after) ≡ [])
      × (step catch_all_token (before ++ (first ∷ text, key) ∷ after) ≡ [])
  step_among first text key before after small literal more = (by_token param_token (omega arith), by_token catch_all_token (omega arith))
    where
      by_token : (token : ℕ) → 256 ≤ token → step token (before ++ (first ∷ text, key) ∷ after) ≡ []
      by_token token large =
          step_append token before ((first ∷ text, key) ∷ after)
          ∙ ap (λ (steps : RowsOf K). steps ++ step token ((first ∷ text, key) ∷ after)) (step_token token before large literal)
          ∙ step_front token first text key after small large ∙ step_token token after large more

  AreLiteral-append : (rows more : RowsOf K) → AreLiteral rows → AreLiteral more → AreLiteral (rows ++ more)
  AreLiteral-append [] more are are_more = are_more
  AreLiteral-append ((text, key) ∷ rows) more are are_more = (are.0, AreLiteral-append rows more are.1 are_more)

  pub seek_among : (front : List ℕ) (key : K) (before after : RowsOf K) (path : List ℕ) → IsText front → AreLiteral before
      → AreLiteral after
      → seek 0 (before ++ (with_parameter front, key) ∷ after) path ≡ or_else (seek 0 (before ++ after) path)
      (seek 0 ((with_parameter front, key) ∷ []) path)
  seek_among front key before after [] are literal more =
      let own_front = own_parameter front key [] in
      let own_all : own (before ++ (with_parameter front, key) ∷ after) ≡ own (before ++ after) =
      own_append before ((with_parameter front, key) ∷ after) ∙ ap (or_else (own before)) (own_parameter front key after)
      ∙ sym (own_append before after)
      in
      cc (
        seek_end (before ++ (with_parameter front, key) ∷ after),
        seek_end (before ++ after),
        seek_end ((with_parameter front, key) ∷ []),
        or_else_none (own (before ++ after)),
      )
  seek_among [] key before after (byte ∷ path) are literal more =
      let parameters : step param_token (before ++ (param_token ∷ [], key) ∷ after) ≡ ([], key) ∷ [] =
      step_append param_token before ((param_token ∷ [], key) ∷ after)
      ∙ ap (λ (steps : RowsOf K). steps ++ ([], key) ∷ step param_token after) (step_token param_token before (omega arith) literal)
      ∙ ap (λ (steps : RowsOf K). ([], key) ∷ steps) (step_token param_token after (omega arith) more)
      in
      let no_catch_all : step catch_all_token (before ++ (param_token ∷ [], key) ∷ after) ≡ [] =
      step_append catch_all_token before ((param_token ∷ [], key) ∷ after)
      ∙ ap (λ (steps : RowsOf K). steps ++ step catch_all_token after) (step_token catch_all_token before (omega arith) literal)
      ∙ step_token catch_all_token after (omega arith) more
      in
      let here = parameter_step (before ++ (param_token ∷ [], key) ∷ after) key byte path parameters no_catch_all in
      let steps = step_append byte before ((param_token ∷ [], key) ∷ after) in
      let literals = literal_step (before ++ after) byte path (AreLiteral-append before after literal more) in
      let literal_steps = step_append byte before after in
      let alone = parameter_alone key byte path in
      let same = by_test (param_token == byte) refl in
      cc
    where
      by_test : (same : Bool) → (param_token == byte) ≡ same
          → or_else (seek 0 (step byte before ++ cond same (([], key) ∷ step byte after) (step byte after)) path)
          (parameter key (byte ∷ path)) ≡ or_else (seek 0 (step byte before ++ step byte after) path) (parameter key (byte ∷ path))
      by_test true is =
          let large : 256 ≤ byte = grind (arith, nat_tests) in
          rw (step_token byte before large literal, step_token byte after large more, seek_none 0 path) (found_by_byte key byte path is)
      by_test false is = refl
  seek_among (first ∷ front) key before after (byte ∷ path) are literal more =
      let none = step_among first (with_parameter front) key before after are.0 literal more in
      let here = one_step (before ++ (with_parameter (first ∷ front), key) ∷ after) byte path none.0 none.1 in
      let steps = step_append byte before ((with_parameter (first ∷ front), key) ∷ after) in
      let literals = literal_step (before ++ after) byte path (AreLiteral-append before after literal more) in
      let literal_steps = step_append byte before after in
      let alone = one_step ((with_parameter (first ∷ front), key) ∷ []) byte path
      (step_front param_token first (with_parameter front) key [] are.0 (omega arith))
      (step_front catch_all_token first (with_parameter front) key [] are.0 (omega arith)) in
      let same = by_test (first == byte) (seek_among front key (step byte before) (step byte after) path are.1
      (step_literal byte before literal) (step_literal byte after more)) in
      cc
    where
      by_test : (same : Bool)
          → seek 0 (step byte before ++ (with_parameter front, key) ∷ step byte after) path ≡ or_else
          (seek 0 (step byte before ++ step byte after) path) (seek 0 ((with_parameter front, key) ∷ []) path)
          → seek 0 (step byte before ++ cond same ((with_parameter front, key) ∷ step byte after) (step byte after)) path ≡ or_else
          (seek 0 (step byte before ++ step byte after) path) (seek 0 (cond same ((with_parameter front, key) ∷ []) []) path)
      by_test true rest = rest
      by_test false rest = rw seek_none (sym (or_else_none (seek 0 (step byte before ++ step byte after) path)))
