-- Scanning for the end of a file's first record.
use Rattle.std.proofs.Common.{◌≡◌, ◌≢◌, ◌∙◌, ℕ, ◌+◌, ◌<◌, ◌≤◌, Bool, true, false, not, ◌&&◌, List, [], ◌∷◌, ◌++◌}
use Rattle.std.proofs.Common.{length, take, drop, get_or, refl, ap, sym, subst, drop-cons, add-one, arith}
use Rattle.std.proofs.Math.Seq.{take-suc}
use Rattle.std.proofs.lemmas.List.{drop_all, take_all}
use Rattle.std.proofs.lemmas.Bool.Decides.{nat_tests}
use Rattle.std.proofs.lemmas.List.Sums.{fold-append}
use Rattle.addresses.specs.RecordText.{inside_after, is_line_feed, is_open, joined, record_texts, texts_from, with_byte}

-- bytes followed by texts, joined to the first of the texts
abbrev pub all_joined : List ℕ → List (List ℕ) → List (List ℕ)
all_joined [] texts = texts
all_joined (byte ∷ bytes) texts = joined byte (all_joined bytes texts)

all_joined-append : (xs ys : List ℕ) (texts : List (List ℕ)) → all_joined (xs ++ ys) texts ≡ all_joined xs (all_joined ys texts)
all_joined-append [] ys texts = refl
all_joined-append (x ∷ xs) ys texts = ap (joined x) (all_joined-append xs ys texts)

all_joined-cons : (xs text : List ℕ) (texts : List (List ℕ)) → all_joined xs (text ∷ texts) ≡ (xs ++ text) ∷ texts
all_joined-cons [] text texts = refl
all_joined-cons (x ∷ xs) text texts = ap (joined x) (all_joined-cons xs text texts)

all_joined-nil : (x : ℕ) (xs : List ℕ) → all_joined (x ∷ xs) [] ≡ (x ∷ xs) ∷ []
all_joined-nil x [] = refl
all_joined-nil x (y ∷ ys) = ap (joined x) (all_joined-nil y ys)

-- these bytes of a file were scanned, and its first record continues after them
pub record IsScanned (file : List ℕ) (at : ℕ) (inside : Bool) : Type 0 where
  pub within : inside ≡ is_open (take at file)
  pub texts : record_texts file ≡ all_joined (take at file) (texts_from inside (drop at file))

-- the byte after the scanned ones
pub record IsNextByte (file : List ℕ) (at byte : ℕ) : Type 0 where
  pub below : at < length file
  pub is : get_or file at 0 ≡ byte

front-next : (file : List ℕ) (at byte : ℕ) → IsNextByte file at byte → take (at + 1) file ≡ take at file ++ byte ∷ []
front-next file at byte next = rw (add-one at, sym next.is) (take-suc file at 0 next.below)

rest-next : (file : List ℕ) (at byte : ℕ) → IsNextByte file at byte → drop at file ≡ byte ∷ drop (at + 1) file
rest-next file at byte next = rw (add-one at, sym next.is) (drop-cons file at 0 next.below)

pub open-next : (file : List ℕ) (at byte : ℕ) (inside : Bool) → IsNextByte file at byte → inside ≡ is_open (take at file)
    → inside_after inside byte ≡ is_open (take (at + 1) file)
open-next file at byte inside next within =
    rw (front-next file at byte next, fold-append inside_after false (take at file) (byte ∷ []), sym within) refl

-- the record continues with a byte, after which it is inside quotation marks or not
abbrev IsSplitAfter : List ℕ → ℕ → ℕ → Bool → Type 0
IsSplitAfter file at byte now = record_texts file ≡ all_joined (take at file) (with_byte byte now (texts_from now (drop (at + 1) file)))

texts-next : (file : List ℕ) (at byte : ℕ) (inside : Bool) → IsNextByte file at byte → IsScanned file at inside
    → IsSplitAfter file at byte (inside_after inside byte)
unfolding texts_from
texts-next file at byte inside next scanned = rw (rest-next file at byte next) at scanned.texts

continues-text : (file : List ℕ) (at byte : ℕ) (now : Bool) → IsSplitAfter file at byte now → (is_line_feed byte && not now) ≡ false
    → record_texts file ≡ all_joined (take at file) (joined byte (texts_from now (drop (at + 1) file)))
continues-text file at byte now split more = rw more at split

pub scanned-none : (file : List ℕ) → IsScanned file 0 false
scanned-none file = record { within = refl; texts = refl }

-- one more byte that doesn't end the record
pub scanned-next : (file : List ℕ) (at byte : ℕ) (inside : Bool) → IsNextByte file at byte → IsScanned file at inside
    → (is_line_feed byte && not (inside_after inside byte)) ≡ false → IsScanned file (at + 1) (inside_after inside byte)
scanned-next file at byte inside next scanned continues =
    let now = inside_after inside byte in
    record {
      within = open-next file at byte inside next scanned.within;
      texts =
          rw (front-next file at byte next, all_joined-append (take at file) (byte ∷ []) (texts_from now (drop (at + 1) file)))
          (continues-text file at byte now (texts-next file at byte inside next scanned) continues);
    }

-- the byte that ends the record
pub scanned-end : (file : List ℕ) (at byte : ℕ) (inside : Bool) → IsNextByte file at byte → IsScanned file at inside
    → is_line_feed byte ≡ true → inside_after inside byte ≡ false
    → record_texts file ≡ take (at + 1) file ∷ record_texts (drop (at + 1) file)
scanned-end file at byte inside next scanned feed outside =
    let step = rw feed at (subst (IsSplitAfter file at byte) outside (texts-next file at byte inside next scanned)) in
    rw (front-next file at byte next) (step ∙ all_joined-cons (take at file) (byte ∷ []) (record_texts (drop (at + 1) file)))

whole-text : (file : List ℕ) → file ≢ [] → all_joined file [] ≡ file ∷ []
whole-text [] some = absurd (some refl)
whole-text (x ∷ xs) some = all_joined-nil x xs

-- a file in which no record ends is one text
pub scanned-whole : (file : List ℕ) (at : ℕ) (inside : Bool) → length file ≤ at → IsScanned file at inside → file ≢ []
    → record_texts file ≡ file ∷ record_texts []
unfolding texts_from
scanned-whole file at inside past scanned some =
    rw (take_all at file past, drop_all at file past) at scanned.texts ∙ whole-text file some

pub open-whole : (file : List ℕ) (at : ℕ) (inside : Bool) → length file ≤ at → IsScanned file at inside → inside ≡ is_open file
open-whole file at inside past scanned = rw (take_all at file past) at scanned.within

pub is-feed : (byte : ℕ) → byte ≡ 10 → is_line_feed byte ≡ true
is-feed byte feed = rw feed refl

-- a byte that isn't a line feed, or a line feed inside quotation marks
pub not-feed : (byte : ℕ) (inside : Bool) → byte ≢ 10 → (is_line_feed byte && not inside) ≡ false
not-feed byte inside other = grind (arith, nat_tests)

pub feed-inside : (byte : ℕ) (inside : Bool) → inside ≡ true → (is_line_feed byte && not inside) ≡ false
feed-inside byte inside is = rw is (grind (arith, nat_tests))
