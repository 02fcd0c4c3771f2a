-- Lists in the order of their elements' numbers: for each number in turn, the elements that have it.
use Rattle.std.proofs.Common.{◌≡◌, ℕ, zero, suc, ◌+◌, ◌-◌, ◌<◌, ◌≤◌, nat_eq, Bool, true, false, cond, List, [], ◌∷◌, ◌++◌, length, get_or, All}
use Rattle.std.proofs.Common.{refl, sym, ap, subst, inl, inr, ◌∙◌, append-nil, append_assoc, length-append, arith}
use Rattle.std.specs.List.{filter, flat_map, range_with_len}
use Rattle.std.proofs.Math.Nat.{lt_of_not-le}
use Rattle.std.proofs.lemmas.Bool.{eq-eqb}
use Rattle.std.proofs.lemmas.Bool.Decides.{eqb_tells, nat_tests}
use Rattle.std.proofs.lemmas.List.{get_or-append_right, get_or_append_left}
use Rattle.std.proofs.lemmas.List.Elements.{All-append, All-nil, All-weaker, All-head, All-tail, filter-append, filter_passes}

not_below : {m n : ℕ} → (n < m → ⊥) → m ≤ n
not_below {m} {n} not_less = let above : m < n + 1 = lt_of_not-le (λ less. not_less (omega arith)) in omega arith

-- the first numbers, one of them, and the others
range-split : (a d m n k : ℕ) → n ≡ d + suc m → k ≡ a + d → range_with_len a n ≡ range_with_len a d ++ k ∷ range_with_len (k + 1) m
range-split a zero m n k e is =
    let one_more : n ≡ suc m = omega arith in
    let first : a ≡ k = omega arith in
    ap (range_with_len a) one_more ∙ ap (λ k. k ∷ range_with_len (k + 1) m) first
range-split a (suc d) m n k e is =
    let more : n ≡ suc (d + suc m) = omega arith in
    ap (range_with_len a) more ∙ ap (λ l. a ∷ l) (range-split (a + 1) d m (d + suc m) k refl (omega arith))

flat_map-append : {X Y : Type 0} (f : X → List Y) (xs ys : List X) → flat_map f (xs ++ ys) ≡ flat_map f xs ++ flat_map f ys
flat_map-append f [] ys = refl
flat_map-append f (x ∷ xs) ys = ap (λ l. f x ++ l) (flat_map-append f xs ys) ∙ sym (append_assoc (f x) (flat_map f xs) (flat_map f ys))

-- the test says whether an element has a number
module _ {X : Type 0} (test : ℕ → X → Bool) where
  -- one more element that has another number
  filter-other : (s : ℕ) (xs : List X) (x : X) → test s x ≡ false → filter (test s) (xs ++ x ∷ []) ≡ filter (test s) xs
  filter-other s xs x other =
      filter-append (test s) xs (x ∷ []) ∙ ap (λ b. filter (test s) xs ++ cond b (x ∷ []) []) other ∙ append-nil (filter (test s) xs)

  -- one more element that has none of these numbers
  ordered-other : (a n : ℕ) (xs : List X) (x : X) → ((s : ℕ) → a ≤ s → s < a + n → test s x ≡ false)
      → flat_map (λ s. filter (test s) (xs ++ x ∷ [])) (range_with_len a n) ≡ flat_map (λ s. filter (test s) xs) (range_with_len a n)
  ordered-other a zero xs x other = refl
  ordered-other a (suc n) xs x other =
      ap (λ l. l ++ flat_map (λ s. filter (test s) (xs ++ x ∷ [])) (range_with_len (a + 1) n))
      (filter-other a xs x (other a (omega arith) (omega arith)))
      ∙ ap (λ l. filter (test a) xs ++ l) (ordered-other (a + 1) n xs x (λ s from to. other s (omega arith) (omega arith)))

  -- each element has one of the numbers
  ordered_within : (a n : ℕ) (xs : List X)
      → All (λ x. (s : ℕ) × (a ≤ s) × (s < a + n) × (test s x ≡ true)) (flat_map (λ s. filter (test s) xs) (range_with_len a n))
  ordered_within a zero xs = All-nil (λ x. (s : ℕ) × (a ≤ s) × (s < a + zero) × (test s x ≡ true))
  ordered_within a (suc n) xs =
      All-append (λ x. (s : ℕ) × (a ≤ s) × (s < a + suc n) × (test s x ≡ true)) (filter (test a) xs)
      (flat_map (λ s. filter (test s) xs) (range_with_len (a + 1) n))
      (All-weaker (λ x. test a x ≡ true) (λ x. (s : ℕ) × (a ≤ s) × (s < a + suc n) × (test s x ≡ true))
      (λ x passes. (a, omega arith, omega arith, passes)) (filter (test a) xs) (filter_passes (test a) xs))
      (All-weaker (λ x. (s : ℕ) × (a + 1 ≤ s) × (s < a + 1 + n) × (test s x ≡ true))
      (λ x. (s : ℕ) × (a ≤ s) × (s < a + suc n) × (test s x ≡ true))
      (λ x has. (has.0, omega (arith, has.1), omega (arith, has.2), has.3)) (flat_map (λ s. filter (test s) xs) (range_with_len (a + 1) n))
      (ordered_within (a + 1) n xs))

  -- the elements with smaller numbers, those with this one and those with greater ones, before and after one more element with it
  pub record Splits (n k : ℕ) (xs : List X) (x : X) : Type 0 where
    pub lower : List X
    pub higher : List X
    pub before : flat_map (λ s. filter (test s) xs) (range_with_len 0 n) ≡ lower ++ (filter (test k) xs ++ higher)
    pub after : flat_map (λ s. filter (test s) (xs ++ x ∷ [])) (range_with_len 0 n) ≡ lower ++ ((filter (test k) xs ++ x ∷ []) ++ higher)
    pub are_lower : All (λ y. (s : ℕ) × (s < k) × (test s y ≡ true)) lower
    pub are_higher : All (λ y. (s : ℕ) × (k < s) × (test s y ≡ true)) higher

  split_at : (n k m : ℕ) (xs : List X) → n ≡ k + suc m → flat_map (λ s. filter (test s) xs) (range_with_len 0 n)
      ≡ flat_map (λ s. filter (test s) xs) (range_with_len 0 k) ++ (filter (test k) xs ++ flat_map (λ s. filter (test s) xs) (range_with_len (k + 1) m))
  split_at n k m xs e =
      ap (flat_map (λ s. filter (test s) xs)) (range-split 0 k m n k e (omega arith))
      ∙ flat_map-append (λ s. filter (test s) xs) (range_with_len 0 k) (k ∷ range_with_len (k + 1) m)

  pub splits : (n k : ℕ) (xs : List X) (x : X) → k < n → ((s : ℕ) → test s x ≡ nat_eq k s) → Splits n k xs x
  splits n k xs x small is =
      let m = n - suc k in
      let e : n ≡ k + suc m = omega arith in
      let lower = flat_map (λ s. filter (test s) xs) (range_with_len 0 k) in
      let higher = flat_map (λ s. filter (test s) xs) (range_with_len (k + 1) m) in
      let lower_same = ordered-other 0 k xs x (λ s from to. is s ∙ grind (arith, nat_tests)) in
      let higher_same = ordered-other (k + 1) m xs x (λ s from to. is s ∙ grind (arith, nat_tests)) in
      let one_more : filter (test k) (xs ++ x ∷ []) ≡ filter (test k) xs ++ x ∷ [] =
      filter-append (test k) xs (x ∷ []) ∙ ap (λ b. filter (test k) xs ++ cond b (x ∷ []) []) (is k ∙ eq-eqb k k refl) in
      record {
        lower = lower;
        higher = higher;
        before = split_at n k m xs e;
        after = split_at n k m (xs ++ x ∷ []) e
            ∙ ap (λ l. l ++ (filter (test k) (xs ++ x ∷ []) ++ flat_map (λ s. filter (test s) (xs ++ x ∷ [])) (range_with_len (k + 1) m))) lower_same
            ∙ ap (λ l. lower ++ (filter (test k) (xs ++ x ∷ []) ++ l)) higher_same
            ∙ ap (λ l. lower ++ (l ++ higher)) one_more;
        are_lower =
            All-weaker (λ y. (s : ℕ) × (0 ≤ s) × (s < 0 + k) × (test s y ≡ true)) (λ y. (s : ℕ) × (s < k) × (test s y ≡ true))
            (λ y has. (has.0, omega (arith, has.2), has.3)) lower (ordered_within 0 k xs);
        are_higher =
            All-weaker (λ y. (s : ℕ) × (k + 1 ≤ s) × (s < k + 1 + m) × (test s y ≡ true)) (λ y. (s : ℕ) × (k < s) × (test s y ≡ true))
            (λ y has. (has.0, omega (arith, has.1), has.3)) higher (ordered_within (k + 1) m xs);
      }

  -- how many of these numbers an element has
  abbrev count_of : X → List ℕ → ℕ
  count_of x [] = 0
  count_of x (n ∷ ns) = cond (test n x) 1 0 + count_of x ns

  -- one more element at the front adds one for each number that it has
  length_with : (ns : List ℕ) (x : X) (xs : List X) → length (flat_map (λ s. filter (test s) (x ∷ xs)) ns)
      ≡ length (flat_map (λ s. filter (test s) xs) ns) + count_of x ns
  length_with [] x xs = refl
  length_with (n ∷ ns) x xs = by (test n x) (filter (test n) xs) (length_with ns x xs)
    where
      by : (has : Bool) (found : List X)
          → length (flat_map (λ s. filter (test s) (x ∷ xs)) ns) ≡ length (flat_map (λ s. filter (test s) xs) ns) + count_of x ns
          → length (cond has (x ∷ found) found ++ flat_map (λ s. filter (test s) (x ∷ xs)) ns)
          ≡ length (found ++ flat_map (λ s. filter (test s) xs) ns) + (cond has 1 0 + count_of x ns)
      by true found rest = omega (
        arith,
        rest,
        length-append (x ∷ found) (flat_map (λ s. filter (test s) (x ∷ xs)) ns),
        length-append found (flat_map (λ s. filter (test s) xs) ns),
      )
      by false found rest = omega (
        arith,
        rest,
        length-append found (flat_map (λ s. filter (test s) (x ∷ xs)) ns),
        length-append found (flat_map (λ s. filter (test s) xs) ns),
      )

  -- a number outside these occurs never among them, and one of them once
  count_outside : (a n k : ℕ) (x : X) → k < a → ((s : ℕ) → test s x ≡ nat_eq k s) → count_of x (range_with_len a n) ≡ 0
  count_outside a zero k x less is = refl
  count_outside a (suc n) k x less is =
      let other : test a x ≡ false = is a ∙ grind (arith, nat_tests) in
      ap (λ b. cond b 1 0 + count_of x (range_with_len (a + 1) n)) other
      ∙ omega (arith, count_outside (a + 1) n k x (omega arith) is)

  count_inside : (a n k : ℕ) (x : X) → a ≤ k → k < a + n → ((s : ℕ) → test s x ≡ nat_eq k s) → count_of x (range_with_len a n) ≡ 1
  count_inside a zero k x from to is = absurd (omega arith)
  count_inside a (suc n) k x from to is = elim (eqb_tells k a) [
    | inl same ↦ ap (λ b. cond b 1 0 + count_of x (range_with_len (a + 1) n)) (is a ∙ same.0)
        ∙ (let none = count_outside (a + 1) n k x (let here = same.1 in omega arith) is in omega (arith, none))
    | inr other ↦ ap (λ b. cond b 1 0 + count_of x (range_with_len (a + 1) n)) (is a ∙ other.0)
        ∙ (let apart = other.1 in let one = count_inside (a + 1) n k x (omega arith) (omega arith) is in omega (arith, one))
  ]

  -- if each element has one number below a limit, the order keeps all of them
  pub length_ordered : (n : ℕ) (xs : List X) → All (λ x. (k : ℕ) × (k < n) × ((s : ℕ) → test s x ≡ nat_eq k s)) xs
      → length (flat_map (λ s. filter (test s) xs) (range_with_len 0 n)) ≡ length xs
  length_ordered n [] have = nothing (range_with_len 0 n)
    where
      nothing : (ns : List ℕ) → length (flat_map (λ s. filter (test s) []) ns) ≡ 0
      nothing [] = refl
      nothing (m ∷ ns) = nothing ns
  length_ordered n (x ∷ xs) have =
      let has = All-head (λ x. (k : ℕ) × (k < n) × ((s : ℕ) → test s x ≡ nat_eq k s)) x xs have in
      let others = All-tail (λ x. (k : ℕ) × (k < n) × ((s : ℕ) → test s x ≡ nat_eq k s)) x xs have in
      omega (
        arith,
        length_with (range_with_len 0 n) x xs,
        count_inside 0 n has.0 x (omega arith) (omega (arith, has.1)) has.2,
        length_ordered n xs others,
      )

-- numbers below a number, then some equal to it, then some above it
module _ (k : ℕ) (lower same higher : List ℕ) (are_lower : All (λ s. s < k) lower) (are_same : All (λ s. s ≡ k) same)
    (are_higher : All (λ s. k < s) higher) where
  at_lower : (i : ℕ) → i < length lower → get_or (lower ++ (same ++ higher)) i 0 < k
  at_lower i inside = subst (λ s. s < k) (sym (get_or_append_left lower (same ++ higher) 0 i inside)) (are_lower i 0 inside)

  at_same : (i : ℕ) → length lower ≤ i → i < length lower + length same → get_or (lower ++ (same ++ higher)) i 0 ≡ k
  at_same i from to =
      let inside : i - length lower < length same = omega arith in
      get_or-append_right lower (same ++ higher) (length lower) i 0 refl from
      ∙ get_or_append_left same higher 0 (i - length lower) inside ∙ are_same (i - length lower) 0 inside

  at_higher : (i : ℕ) → length lower + length same ≤ i → i < length (lower ++ (same ++ higher)) → k < get_or (lower ++ (same ++ higher)) i 0
  at_higher i from to =
      let after : length same ≤ i - length lower = omega arith in
      let inside : i - length lower - length same < length higher =
      omega (arith, length-append lower (same ++ higher), length-append same higher) in
      subst (λ s. k < s) (sym (get_or-append_right lower (same ++ higher) (length lower) i 0 refl (omega arith)
      ∙ get_or-append_right same higher (length same) (i - length lower) 0 refl after)) (are_higher (i - length lower - length same) 0 inside)

  -- without an equal key, only one place follows the smaller keys and precedes the greater ones
  pub one_place : (place : ℕ) → place ≤ length (lower ++ (same ++ higher))
      → ((i : ℕ) → i + 1 ≡ place → get_or (lower ++ (same ++ higher)) i 0 < k)
      → ((i : ℕ) → place ≤ i → i < length (lower ++ (same ++ higher)) → k < get_or (lower ++ (same ++ higher)) i 0)
      → (place ≡ length lower) × (length same ≡ 0)
  one_place place within after before =
      let whole : length (lower ++ (same ++ higher)) ≡ length lower + length same + length higher =
      omega (arith, length-append lower (same ++ higher), length-append same higher) in
      let not_less : place < length lower → ⊥ = λ less. omega (arith, before place (omega arith) (omega arith), at_lower place less) in
      let least : length lower ≤ place = not_below not_less in
      let most : place ≤ length lower = not_below (λ more.
      let smaller = after (place - 1) (omega arith) in
      let from : length lower + length same ≤ place - 1 = not_below (λ less.
      let equal = at_same (place - 1) (omega arith) less in omega (arith, smaller, equal)) in
      let greater = at_higher (place - 1) from (omega arith) in
      omega (arith, smaller, greater)) in
      let none : length same ≤ 0 = not_below (λ some.
      let equal = at_same (length lower) (omega arith) (omega arith) in
      let greater = before (length lower) most (omega arith) in
      omega (arith, equal, greater)) in
      (omega arith, omega arith)

  -- if one is equal, there are some
  pub some_same : (i : ℕ) → i < length (lower ++ (same ++ higher)) → get_or (lower ++ (same ++ higher)) i 0 ≡ k → 1 ≤ length same
  some_same i inside equal =
      not_below (λ none.
      let from : length lower ≤ i = not_below (λ less. omega (arith, at_lower i less, equal)) in
      omega (arith, at_higher i (omega arith) inside, equal))
