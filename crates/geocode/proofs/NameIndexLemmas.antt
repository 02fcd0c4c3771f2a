-- Chains of segments by the keys of their names.
use Rattle.std.proofs.Common.{◌≡◌, ℕ, ◌+◌, ◌<◌, ◌≤◌, nat_eq, Bool, true, false, if◌then◌else◌, List, [], ◌∷◌, ◌++◌, length}
use Rattle.std.proofs.Common.{get_or, slice_get, Some, refl, ap, sym, ◌∙◌, subst, arith}
use Rattle.std.proofs.Common.{◌-◌, ◌||◌, nat_le, None, take, drop, drop-cons, add-one, replicate, set, zero, suc}
use Rattle.std.specs.List.{list_any}
use Rattle.std.specs.Option.{option_map_or}
use Rattle.std.proofs.lemmas.List.{get_or-set_other, get_or-set_same}
use Rattle.std.proofs.lemmas.List.Elements.{All-get_or, All-push}
use Rattle.std.proofs.lemmas.List.Folds.{list_any_more}
use Rattle.std.proofs.lemmas.Option.{get_or_from_slice_get, slice_get_within}
use Rattle.tl_segments.specs.Segment.{SegmentParts, names_of}
use Rattle.std.proofs.lemmas.Bool.Decides.{nat_tests}
use Rattle.std.proofs.lemmas.Grind.{common_steps}
use Rattle.std.proofs.lemmas.Option.{gets}
use Rattle.geocode.specs.NameHash.{hash_of, key_of}
use Rattle.geocode.specs.NameIndex.{AddsNames, AddsSpans, AddsTo, HasSpans, IsChain, first_of, IsIndexFrom, has_key, is_link_of, link_at}
use Rattle.geocode.specs.NameIndex.{with_first}
use Rattle.geocode.specs.Candidates.{IsNext, numbers_with, segment_at}
use Rattle.geocode.specs.Span.{IncludesHits}
use Rattle.geocode.specs.declared.name_index.NameIndex.{NameIndex}
use Rattle.geocode.specs.declared.name_index.Link.{Link}
use Rattle.geocode.specs.declared.span.Span.{Span}

-- an existing link has a number of at most the length
pub link_at-within : (links : List Link) (number : ℕ) (link : Link) → link_at links number ≡ Some link → number ≤ length links
link_at-within links number link is = grind (arith, nat_tests, common_steps, gets)

-- one more link leaves the others unchanged
link_at-push : (links : List Link) (more : Link) (number : ℕ) (link : Link) → link_at links number ≡ Some link
    → link_at (links ++ more ∷ []) number ≡ Some link
link_at-push links more number link is = grind (arith, nat_tests, common_steps, gets)

-- and its number is the new length
link_at-last : (links : List Link) (more : Link) → link_at (links ++ more ∷ []) (length links + 1) ≡ Some more
link_at-last links more = grind (arith, nat_tests, common_steps, gets)

-- no chain starts after the last link
pub IsChain-within : (links : List Link) (number : ℕ) (segments : List ℕ) → IsChain links number segments → number ≤ length links
IsChain-within links number [] chain = omega (arith, chain)
IsChain-within links number (segment ∷ segments) (next, link, rest) =
    link_at-within links number (record { segment = segment; span = link.span; next = next }) link.link

-- one more link leaves a chain unchanged
pub IsChain-push : (links : List Link) (more : Link) (number : ℕ) (segments : List ℕ) → IsChain links number segments
    → IsChain (links ++ more ∷ []) number segments
IsChain-push links more number [] chain = chain
IsChain-push links more number (segment ∷ segments) (next, link, rest) = (
  next,
  record {
    span = link.span;
    link = link_at-push links more number (record { segment = segment; span = link.span; next = next }) link.link;
    before = link.before;
  },
  IsChain-push links more next segments rest,
)

-- one more link in front of a chain
pub IsChain-more : (links : List Link) (segment : ℕ) (span : Span) (next : ℕ) (segments : List ℕ) → IsChain links next segments
    → IsChain (links ++ record { segment = segment; span = span; next = next } ∷ []) (length links + 1) (segment ∷ segments)
IsChain-more links segment span next segments chain =
    let more : Link = record { segment = segment; span = span; next = next } in (
      next,
      record { span = span; link = link_at-last links more; before = omega (arith, IsChain-within links next segments chain) },
      IsChain-push links more next segments chain,
    )

-- one more link, for a segment that isn't the first of the chain
pub IsChain-first : (links : List Link) (segment : ℕ) (span : Span) (next : ℕ) (segments : List ℕ) → IsChain links next segments
    → is_link_of links next segment ≡ false
    → IsChain (links ++ record { segment = segment; span = span; next = next } ∷ []) (length links + 1) (with_first segment segments)
IsChain-first links segment span next [] chain other = IsChain-more links segment span next [] chain
IsChain-first links segment span next (first ∷ rest) (next', link, chain) other =
    let apart : nat_eq first segment ≡ false =
    sym (ap (λ link. option_map_or (λ (link : Link). nat_eq link.segment segment) link false) link.link) ∙ other in
    rw apart (IsChain-more links segment span next (first ∷ rest) (next', link, chain))

-- for a segment that is the first, the chain is unchanged
pub with_first-same : (links : List Link) (segment number : ℕ) (segments : List ℕ) → IsChain links number segments
    → is_link_of links number segment ≡ true → with_first segment segments ≡ segments
with_first-same links segment number [] chain is = absurd (grind (arith, nat_tests, common_steps, gets))
with_first-same links segment number (first ∷ rest) (next', link, chain) is =
    let same : nat_eq first segment ≡ true =
    sym (ap (λ link. option_map_or (λ (link : Link). nat_eq link.segment segment) link false) link.link) ∙ is in
    rw same refl

-- a chain of one list or the other
pub IsChain-cases : (test : Bool) (links : List Link) (number : ℕ) (some other : List ℕ) → (test ≡ true → IsChain links number some)
    → (test ≡ false → IsChain links number other) → IsChain links number (if test then some else other)
IsChain-cases true links number some other is_some is_other = is_some refl
IsChain-cases false links number some other is_some is_other = is_other refl

-- a segment in front of a chain that it isn't in yet, for one more name
chain-one_name : (segment : ℕ) (chain : List ℕ) (before now : Bool) → with_first segment chain ≡ segment ∷ chain
    → (if now then with_first segment (if before then segment ∷ chain else chain) else (if before then segment ∷ chain else chain))
    ≡ (if before || now then segment ∷ chain else chain)
chain-one_name segment chain true true new =
    let same : nat_eq segment segment ≡ true = grind (arith, nat_tests) in rw same refl
chain-one_name segment chain true false new = refl
chain-one_name segment chain false true new = new
chain-one_name segment chain false false new = refl

module _ {A : Type 0} (old now new : NameIndex A) (segment : ℕ) (span : Span) where
  -- a segment is put in front of the chains for one more of its names
  pub AddsNames-next : (names : List (List ℕ)) (n : ℕ) {name : List ℕ} → Some name ≡ slice_get names n
      → AddsNames old now segment span (take n names) × AddsTo now new (key_of now.keys (hash_of name)) segment span
      → AddsNames old new segment span (take (n + 1) names)
  AddsNames-next names n {name} is (so_far, more) = record {
    keys = more.keys ∙ so_far.keys;
    chains = λ chains chained fresh q.
        let test : List ℕ → Bool = λ name. nat_eq (key_of old.keys (hash_of name)) q in
        let before = list_any test (take n names) in
        let key : key_of now.keys (hash_of name) ≡ key_of old.keys (hash_of name) = ap (λ keys. key_of keys (hash_of name)) so_far.keys in
        let read : list_any test (take (n + 1) names) ≡ (before || test name) =
        list_any_more test names n name (slice_get_within names n name (sym is))
        ∙ ap (λ name. before || test name) (get_or_from_slice_get names n name name (sym is)) in
        let prior = if before then segment ∷ chains q else chains q in
        let chain = subst
        (λ (key : ℕ). IsChain new.links.items (first_of new q) (if nat_eq key q then with_first segment prior else prior)) key
        (more.chains
        (λ q. if list_any (λ name. nat_eq (key_of old.keys (hash_of name)) q) (take n names) then segment ∷ chains q else chains q)
        (so_far.chains chains chained fresh) q) in
        subst (λ (test : Bool). IsChain new.links.items (first_of new q) (if test then segment ∷ chains q else chains q)) (sym read)
        (subst (IsChain new.links.items (first_of new q)) (chain-one_name segment (chains q) before (test name) (fresh q)) chain);
    spans = λ segments includes spanned. more.spans segments includes (so_far.spans segments includes spanned);
  }

-- every name has the same key if there is just one
key_of-one : (hash : ℕ) → key_of 1 hash ≡ 0
unfolding key_of
key_of-one hash = refl

none_any : {X : Type 0} (test : X → Bool) (xs : List X) → ((x : X) → test x ≡ false) → list_any test xs ≡ false
none_any test [] none = refl
none_any test (x ∷ xs) none = rw (none x) (none_any test xs none)

-- a test that is the same for all elements
any_same : {X : Type 0} (test : X → Bool) (all : Bool) (x : X) (xs : List X) → ((x : X) → test x ≡ all) → list_any test (x ∷ xs) ≡ all
any_same test true x xs same = rw (same x) refl
any_same test false x xs same = none_any test (x ∷ xs) same

-- with just one key, a segment that is put in front of the others is so for all of its names
pub AddsNames-one : {A : Type 0} (old new : NameIndex A) (segment : ℕ) (span : Span) (name : List ℕ) (names : List (List ℕ)) (hash : ℕ)
    → old.keys ≡ 1 → AddsTo old new (key_of old.keys hash) segment span → AddsNames old new segment span (name ∷ names)
AddsNames-one old new segment span name names hash one more = record {
  keys = more.keys;
  chains = λ chains chained fresh q.
      let at_one : (hash : ℕ) → nat_eq (key_of old.keys hash) q ≡ nat_eq 0 q =
      λ hash. ap (λ key. nat_eq key q) (ap (λ keys. key_of keys hash) one ∙ key_of-one hash) in
      let same : nat_eq (key_of old.keys hash) q ≡ list_any (λ name. nat_eq (key_of old.keys (hash_of name)) q) (name ∷ names) =
      at_one hash ∙ sym (any_same (λ name. nat_eq (key_of old.keys (hash_of name)) q) (nat_eq 0 q) name names
      (λ name. at_one (hash_of name))) in
      let chain = subst
      (λ (first : List ℕ). IsChain new.links.items (first_of new q) (if nat_eq (key_of old.keys hash) q then first else chains q)) (fresh q)
      (more.chains chains chained q) in
      subst (λ (test : Bool). IsChain new.links.items (first_of new q) (if test then segment ∷ chains q else chains q)) same chain;
  spans = more.spans;
}

-- no key has a link yet
pub no_firsts : (count key : ℕ) → ◌≡◌ {A = ℕ} (get_or (replicate count 0) key 0) 0
no_firsts zero key = refl
no_firsts (suc count) zero = refl
no_firsts (suc count) (suc key) = no_firsts count key

-- the number of a key's first link, after that of one key was written
pub first-set : (firsts : List ℕ) (key value q : ℕ) → key < length firsts
    → get_or (set firsts key value) q 0 ≡ (if nat_eq key q then value else get_or firsts q 0)
first-set firsts key value q inside = by (nat_eq key q) refl
  where
    by : (same : Bool) → nat_eq key q ≡ same → get_or (set firsts key value) q 0 ≡ (if same then value else get_or firsts q 0)
    by true is =
        let at : q ≡ key = grind (arith, nat_tests) in
        ap (λ q. get_or (set firsts key value) q 0) at ∙ get_or-set_same firsts key value 0 inside
    by false is = get_or-set_other firsts key q value 0 (λ at. let clash : nat_eq key q ≡ true = grind (arith, nat_tests) in cc)

-- a number stays new to a list when a greater number is put in front of it or not
pick-new : (test : Bool) (n m : ℕ) (numbers : List ℕ) → n < m → with_first n numbers ≡ n ∷ numbers
    → with_first n (if test then m ∷ numbers else numbers) ≡ n ∷ (if test then m ∷ numbers else numbers)
pick-new true n m numbers below new = let apart : nat_eq m n ≡ false = grind (arith, nat_tests) in rw apart refl
pick-new false n m numbers below new = new

-- the numbers of later segments never begin with an earlier number
numbers-new : (test : SegmentParts → Bool) (n m : ℕ) (segments : List SegmentParts) → n < m
    → with_first n (numbers_with test m segments) ≡ n ∷ numbers_with test m segments
numbers-new test n m [] below = refl
numbers-new test n m (segment ∷ segments) below =
    pick-new (test segment) n m (numbers_with test (m + 1) segments) below (numbers-new test n (m + 1) segments (omega arith))

module _ {A : Type 0} (old new : NameIndex A) (n : ℕ) (span : Span) where
  -- one more segment
  pub IsIndexFrom-next : (segments : List SegmentParts) {segment : SegmentParts} → (n < length segments) × (segment ≡ get_or segments n segment)
      → IsIndexFrom old (n + 1) (drop (n + 1) segments)
      → AddsNames old new n span (names_of segment) → IsIndexFrom new n (drop n segments)
  IsIndexFrom-next segments {segment} at so_far more key =
      let after = drop (n + 1) segments in
      let chains : ℕ → List ℕ = λ q. numbers_with (has_key old.keys q) (n + 1) after in
      let chain : IsChain new.links.items (first_of new key) (numbers_with (has_key old.keys key) n (segment ∷ after)) =
      more.chains chains so_far (λ q. numbers-new (has_key old.keys q) n (n + 1) after (omega arith)) key in
      let inside = at.0 in
      let split : segment ∷ after ≡ drop n segments =
      ap (λ (segment : SegmentParts). segment ∷ after) at.1 ∙ sym (rw add-one (drop-cons segments n segment inside)) in
      subst (λ (keys : ℕ). IsChain new.links.items (first_of new key) (numbers_with (has_key keys key) n (drop n segments))) (sym more.keys)
      (subst (λ segments. IsChain new.links.items (first_of new key) (numbers_with (has_key old.keys key) n segments)) split chain)

-- one more link, with the span of its segment
pub AddsSpans-push : (links : List Link) (more : Link) → AddsSpans links (links ++ more ∷ []) more.segment more.span
AddsSpans-push links more segments includes spanned =
    All-push (λ (link : Link). IncludesHits link.span (segment_at segments link.segment)) links more spanned includes

-- the span of a link that was read
pub HasSpans-at : (links : List Link) (segments : List SegmentParts) (number : ℕ) {link : Link} → HasSpans links segments
    → Some link ≡ link_at links number → IncludesHits link.span (segment_at segments link.segment)
HasSpans-at links segments number {link} spanned is = by (nat_le 1 number) is
  where
    by : (some : Bool) → Some link ≡ (if some then slice_get links (number - 1) else None)
        → IncludesHits link.span (segment_at segments link.segment)
    by false none = absurd (cc)
    by true at =
        subst (λ (link : Link). IncludesHits link.span (segment_at segments link.segment))
        (get_or_from_slice_get links (number - 1) link link (sym at))
        (All-get_or (λ (link : Link). IncludesHits link.span (segment_at segments link.segment)) links (number - 1) link
        (slice_get_within links (number - 1) link (sym at)) spanned)

-- the first link of a chain, by its number
chain-link : (links : List Link) (number : ℕ) (numbers : List ℕ) {link : Link} → IsChain links number numbers
    → Some link ≡ link_at links number
    → (rest : List ℕ) × (numbers ≡ link.segment ∷ rest) × (link.next < number) × IsChain links link.next rest
chain-link links number [] {link} chain is = absurd (grind (arith, nat_tests, common_steps, gets))
chain-link links number (n ∷ numbers) {link} (next, at, rest) is =
    let same : ◌≡◌ {A = Link} (record { segment = n; span = at.span; next = next }) link =
    let both = sym at.link ∙ sym is in cc in (
      numbers,
      ap (λ (link : Link). link.segment ∷ numbers) same,
      subst (λ (link : Link). link.next < number) same at.before,
      subst (λ (link : Link). IsChain links link.next numbers) same rest,
    )

module _ (links : List Link) (number : ℕ) (numbers : List ℕ) (chain : IsChain links number numbers) where
  -- the links after the first one are fewer
  pub chain-fewer : {link : Link} → Some link ≡ link_at links number → link.next < number
  chain-fewer is = (chain-link links number numbers chain is).2

  module _ (segments : List SegmentParts) where
    -- the first link's segment is the next candidate
    pub chain-next : {link : Link} {left : List ℕ → Type 0} → HasSpans links segments → Some link ≡ link_at links number
        → ((rest : List ℕ) → IsChain links link.next rest → left rest)
        → IsNext segments left numbers (Some (record { segment = link.segment; span = link.span }))
    chain-next {link} {left} spans is after =
        let first = chain-link links number numbers chain is in
        subst (λ numbers. IsNext segments left numbers (Some (record { segment = link.segment; span = link.span }))) (sym first.1) (
          record { span = link.span; candidate = refl; includes = HasSpans-at links segments number spans is },
          after first.0 first.3,
        )

    -- after the last link there is none
    pub chain-end : (left : List ℕ → Type 0) → None ≡ link_at links number → IsNext segments left numbers None
    chain-end left none = by numbers chain
      where
        by : (numbers : List ℕ) → IsChain links number numbers → IsNext segments left numbers None
        by [] chain = refl
        by (n ∷ numbers) (next, at, rest) = let clash = none ∙ at.link in absurd (cc)
