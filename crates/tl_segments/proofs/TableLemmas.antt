-- Tables by number: their contents after a change.
use Rattle.std.proofs.Common.{◌≡◌, ℕ, zero, suc, ◌+◌, ◌-◌, ◌<◌, ◌≤◌, nat_eq, nat_le, cond, if◌then◌else◌, List, [], ◌∷◌, ◌++◌, length}
use Rattle.std.proofs.Common.{get_or, take, Option, Some, None, slice_get, Vec, ap, sym, subst, refl, ◌∙◌, arith, Bool, true}
use Rattle.std.proofs.Common.{false, unwrap_or}
use Rattle.std.specs.BTreeMap.{get, btree_map_len, is_at}
use Rattle.std.specs.Ordering.{nat_cmp}
use Rattle.std.specs.Map.{lookup}
use Rattle.std.proofs.lemmas.List.{nil_from_length}
use Rattle.std.specs.List.{filter_map, cons_option, insert}
use Rattle.std.specs.Option.{option_map_or, option_or}
use Rattle.std.proofs.lemmas.Grind.{common_steps, take_at_read}
use Rattle.std.proofs.lemmas.List.Elements.{filter_map-append}
use Rattle.std.proofs.lemmas.Bool.Decides.{nat_tests}
use Rattle.tl_segments.specs.FullName.{FullNameFields, with_names}
use Rattle.tl_segments.specs.Segment.{SegmentParts}
use Rattle.tl_segments.specs.Shape.{ShapePartParts}
use Rattle.tl_segments.specs.TableContents.{HasShortLists, list_at}
use Rattle.tl_segments.specs.declared.multi_map.MultiMap.{MultiMap}
use Rattle.tl_segments.proofs.FullNameLemmas.{with_names-more}

-- if no number has a value, all lists are short
pub no_lists_short : {V A : Type 0} (table : MultiMap V A) → ((number : ℕ) → list_at table number ≡ []) → HasShortLists table
no_lists_short table none number = rw (none number) (omega arith)

-- a map without entries has no list
pub no_list_in : {V A : Type 0} (table : MultiMap V A) → btree_map_len table.lists ≡ 0 → (number : ℕ) → list_at table number ≡ []
no_list_in {V = V} table none number =
    ap (λ entries. option_map_or (λ (list : Vec V _). list.items) (lookup (is_at (nat_cmp number)) entries) [])
    (nil_from_length table.lists.entries none)

-- what a map returns for a number after a list was written: the previous list with one more value
pub added_at : {V A : Type 0} (old : MultiMap V A) (found : Option (Vec V A)) (number : ℕ) (value : V) (list : Vec V A) (q : ℕ)
    → found ≡ cond (nat_eq number q) (Some list) (get nat_cmp old.lists q) → list.items ≡ list_at old number ++ value ∷ []
    → option_map_or (λ list. list.items) found [] ≡ (if nat_eq number q then list_at old q ++ value ∷ [] else list_at old q)
added_at old found number value list q here items = grind (arith, nat_tests, common_steps)

-- the same after a part was inserted into a list
pub inserted_at : {A : Type 0} (old : MultiMap ShapePartParts A) (found : Option (Vec ShapePartParts A)) (number place : ℕ) (part : ShapePartParts)
    (list : Vec ShapePartParts A) (q : ℕ)
    → found ≡ cond (nat_eq number q) (Some list) (get nat_cmp old.lists q) → list.items ≡ insert (list_at old number) place part
    → option_map_or (λ list. list.items) found [] ≡ (if nat_eq number q then insert (list_at old q) place part else list_at old q)
inserted_at old found number place part list q here items = grind (arith, nat_tests, common_steps)

-- the results for the elements up to one more, given the result for that one
pub filter_map-more : {X Y : Type 0} (h : X → Option Y) (xs : List X) (i : ℕ) (d : X) (found : Option Y) → i < length xs
    → found ≡ h (get_or xs i d) → filter_map h (take (i + 1) xs) ≡ filter_map h (take i xs) ++ cons_option found []
filter_map-more h xs i d found inside is =
    ap (λ s. filter_map h s) (take_at_read xs i d inside).1 ∙ filter_map-append h (take i xs) (get_or xs i d ∷ [])
    ∙ ap (λ found. filter_map h (take i xs) ++ cons_option found []) (sym is)

-- something is found among all elements if something is found for one
pub filter_map-some : {X Y : Type 0} (h : X → Option Y) (xs : List X) (i : ℕ) (d : X) (y : Y) → i < length xs → Some y ≡ h (get_or xs i d)
    → 1 ≤ length (filter_map h xs)
filter_map-some h [] i d y inside is = absurd (omega arith)
filter_map-some {Y = Y} h (x ∷ xs) zero d y inside is =
    subst (λ (found : Option Y). 1 ≤ length (cons_option found (filter_map h xs))) is (omega arith)
filter_map-some {Y = Y} h (x ∷ xs) (suc i) d y inside is = with_first (h x) (filter_map h xs) (filter_map-some h xs i d y (omega arith) is)
  where
    with_first : (found : Option Y) (others : List Y) → 1 ≤ length others → 1 ≤ length (cons_option found others)
    with_first None others some = some
    with_first (Some first) others some = omega arith

-- names appended to names
pub names-more : {now next : SegmentParts} (start : SegmentParts) {all : List FullNameFields} (names more : List FullNameFields)
    → now ≡ with_names start names → next ≡ with_names now more → all ≡ names ++ more → next ≡ with_names start all
names-more start names more so_far added is =
    added ∙ ap (λ (segment : SegmentParts). with_names segment more) so_far ∙ with_names-more start names more
    ∙ ap (λ names. with_names start names) (sym is)

-- the element at an index, after one more was pushed
slice_get-push : {Y : Type 0} (xs : List Y) (y : Y) (k : ℕ) → slice_get (xs ++ y ∷ [])
    k ≡ (if nat_eq (length xs) k then Some y else slice_get xs k)
slice_get-push [] y zero = refl
slice_get-push [] y (suc k) = grind (arith, nat_tests)
slice_get-push (x ∷ xs) y zero = grind (arith, nat_tests)
slice_get-push (x ∷ xs) y (suc k) = slice_get-push xs y k ∙ grind (arith, nat_tests)

-- the number following the consecutive ones: its distance from the first is the length of the list
end_of : (first length q : ℕ) → first ≤ q → nat_eq length (q - first) ≡ nat_eq (first + length) q
end_of first length q e = grind (arith, nat_tests)

named_by_push : {Y : Type 0} (same : Bool) (found other before : Option Y) (name : Y) → (same ≡ true → before ≡ None)
    → option_or found other ≡ before → option_or (if same then Some name else found)
    other ≡ (if same then Some (unwrap_or before name) else before)
named_by_push true found other before name none is = ap (λ b. Some (unwrap_or b name)) (sym (none refl))
named_by_push false found other before name none is = is

-- the names of numbers: consecutive ones from a first one, and others
pub record AreNames {Y : Type 0} (xs : List Y) (first : ℕ) (others known : ℕ → Option Y) : Type 0 where
  pub are : (q : ℕ) → option_or (if nat_le first q then slice_get xs (q - first) else None) (others q) ≡ known q

-- a list of names for consecutive numbers, after one more was pushed
module _ {Y : Type 0} (xs : List Y) (y : Y) (first : ℕ) where
  following_by : (q : ℕ) (reaches : Bool) → nat_le first q ≡ reaches
      → (if reaches then slice_get (xs ++ y ∷ []) (q - first) else None)
      ≡ (if nat_eq (first + length xs) q then Some y else (if reaches then slice_get xs (q - first) else None))
  following_by q true e =
      slice_get-push xs y (q - first)
      ∙ ap (λ b. if b then Some y else slice_get xs (q - first)) (end_of first (length xs) q (grind (arith, nat_tests)))
  following_by q false e = grind (arith, nat_tests)

  following-push : (q : ℕ) → (if nat_le first q then slice_get (xs ++ y ∷ []) (q - first) else None)
      ≡ (if nat_eq (first + length xs) q then Some y else (if nat_le first q then slice_get xs (q - first) else None))
  following-push q = following_by q (nat_le first q) refl

  -- names of consecutive FEATs and of others, after the FEAT that follows the consecutive ones gets a name that it lacked
  pub follows-push : {others known : ℕ → Option Y} → AreNames xs first others known → (feat : ℕ) → known feat ≡ None
      → feat ≡ first + length xs → (q : ℕ)
      → option_or (if nat_le first q then slice_get (xs ++ y ∷ []) (q - first) else None) (others q)
      ≡ (if nat_eq feat q then Some (unwrap_or (known q) y) else known q)
  follows-push {others} {known} before feat none next q =
      let found : Option Y = if nat_le first q then slice_get xs (q - first) else None in
      ap (λ found. option_or found (others q)) (following-push q)
      ∙ ap (λ n. option_or (if nat_eq n q then Some y else found) (others q)) (sym next)
      ∙ named_by_push (nat_eq feat q) found (others q) (known q) y
      (λ is. subst (λ n. known n ≡ None) (grind (arith, nat_tests)) none) (before.are q)
