-- Texts that are written as they are echoed, control character by control character.
use Rattle.std.proofs.Common.{◌≡◌, ◌≢◌, ℕ, ◌+◌, ◌<◌, ◌≤◌, ◌/◌, ◌%◌, Bool, true, false, not, cond, List, [], ◌∷◌, ◌++◌, codes, get_or}
use Rattle.std.proofs.Common.{take, drop, Some, None, Result, Ok, Err, refl, ap, sym, subst, ◌∙◌, append_assoc, arith}
use Rattle.std.specs.Char.{digit_char, is_ascii_control}
use Rattle.std.specs.Char.Escape.{escape_unicode}
use Rattle.std.specs.List.{after_first, before_first, flat_map, position, position_or_len}
use Rattle.std.proofs.Math.Numerals.{one-add}
use Rattle.std.proofs.lemmas.Bool.{le-ltb, lt-ltb}
use Rattle.std.proofs.lemmas.Bool.Decides.{nat_tests}
use Rattle.std.proofs.lemmas.Grind.{flat_map-append}
use Rattle.std.proofs.lemmas.List.{append-nil, take_all}
use Rattle.std.proofs.lemmas.List.Sums.{passes_at_first, split_at_first}
use Rattle.bpf_assembler.proofs.WordLemmas.{position-found, position-missing}
use Rattle.counted_io.specs.ReaderWriter.{Writer}
use Rattle.counted_io.specs.Writing.{WritesText}
use Rattle.counted_io.specs.declared.writing.WriteFault.{WriteFault}
use Rattle.counted_io.proofs.KnownBytesLemmas.{Appends-refl}
use Rattle.reports.specs.Escape.{escaped, escaped_byte}
use Rattle.reports.proofs.PieceLemmas.{stopped_further, written_further}

plain_byte : (byte : ℕ) → is_ascii_control byte ≡ false → escaped_byte byte ≡ byte ∷ []
unfolding escaped_byte
plain_byte byte plain = grind (arith, nat_tests)

-- a control character with a number
pub numbered_byte : (byte : ℕ) → is_ascii_control byte ≡ true → byte ≢ 9 → byte ≢ 10 → byte ≢ 13 → escaped_byte byte ≡ escape_unicode byte
unfolding escaped_byte
numbered_byte byte control tab feed return = grind (arith, nat_tests)

pub short_number : (n low : ℕ) → n < 16 → low ≡ digit_char (n % 16) → escape_unicode n ≡ 92 ∷ 117 ∷ 123 ∷ low ∷ 125 ∷ []
short_number n low small is =
    let whole : n / 1 ≡ n = omega arith in
    rw (lt-ltb n 16 small, whole, is) refl

pub long_number : (n high low : ℕ) → 16 ≤ n → n < 256 → high ≡ digit_char (n / 16) → low ≡ digit_char (n % 16)
    → escape_unicode n ≡ 92 ∷ 117 ∷ 123 ∷ high ∷ low ∷ 125 ∷ []
long_number n high low many small is_high is_low =
    let whole : n / 1 ≡ n = omega arith in
    let front : n / 16 % 16 ≡ n / 16 = omega arith in
    rw (le-ltb _ _ many, lt-ltb n 256 small, whole, front, is_high, is_low) refl

-- bytes that stay, up to the first one that passes
module _ (f : ℕ → List ℕ) (p : ℕ → Bool) (stays : (x : ℕ) → p x ≡ false → f x ≡ x ∷ []) where
  one_more : (x : ℕ) (xs : List ℕ) (n : ℕ) (test : Bool) → p x ≡ test → flat_map f (take n xs) ≡ take n xs
      → flat_map f (take (cond (not test) (1 + n) 0) (x ∷ xs)) ≡ take (cond (not test) (1 + n) 0) (x ∷ xs)
  one_more x xs n true is rest = refl
  one_more x xs n false is rest = rw (one-add n, stays x is, rest) refl

  front_stays : (xs : List ℕ) → flat_map f (before_first p xs) ≡ before_first p xs
  front_stays [] = refl
  front_stays (x ∷ xs) = one_more x xs (position_or_len p xs) (p x) refl (front_stays xs)

-- a text with a control character, and one without
pub control_at : (xs : List ℕ) (i : ℕ) → Some i ≡ position is_ascii_control xs → is_ascii_control (get_or xs i 0) ≡ true
control_at xs i found =
    let at = position-found is_ascii_control xs i (sym found) in
    rw at.0 (passes_at_first is_ascii_control xs 0 at.1)

escaped_around : (xs : List ℕ) (i : ℕ) → Some i ≡ position is_ascii_control xs
    → escaped xs ≡ take i xs ++ (escaped_byte (get_or xs i 0) ++ escaped (drop (i + 1) xs))
escaped_around xs i found =
    let at = position-found is_ascii_control xs i (sym found) in
    let n = position_or_len is_ascii_control xs in
    let left = get_or xs n 0 ∷ after_first is_ascii_control xs in
    rw at.0 (ap escaped (split_at_first is_ascii_control xs 0 at.1)
    ∙ flat_map-append escaped_byte (before_first is_ascii_control xs) left
    ∙ ap (λ (front : List ℕ). front ++ escaped left) (front_stays escaped_byte is_ascii_control plain_byte xs))

escaped_plain : (xs : List ℕ) → None ≡ position is_ascii_control xs → escaped xs ≡ xs
escaped_plain xs missing =
    let all : before_first is_ascii_control xs ≡ xs =
    take_all (position_or_len is_ascii_control xs) xs (position-missing is_ascii_control xs (sym missing)) in
    ap escaped (sym all) ∙ front_stays escaped_byte is_ascii_control plain_byte xs ∙ all

-- a front of the text was written as it is echoed, and this is left
pub record WritesFront (text left : List ℕ) (a b : Writer) : Type 0 where
  pub front : List ℕ
  pub is_front : escaped text ≡ front ++ escaped left
  pub written : WritesText front (Ok tt) a b

pub front_none : (text : List ℕ) (a : Writer) → WritesFront text text a a
front_none text a = record { front = []; is_front = refl; written = (Appends-refl a.held, refl) }

module _ {text left : List ℕ} {a b : Writer} (so_far : WritesFront text left a b) where
  -- up to the first control character, that character, and what follows
  module _ (i : ℕ) (plain rest : List ℕ) (found : Some i ≡ position is_ascii_control left) (is_plain : plain ≡ take i left)
      (is_rest : rest ≡ drop (i + 1) left) where
    whole : escaped text ≡ so_far.front ++ (plain ++ (escaped_byte (get_or left i 0) ++ escaped rest))
    whole =
        so_far.is_front
        ∙ ap (λ (text : List ℕ). so_far.front ++ text) (rw (is_plain, is_rest) (escaped_around left i found))

    pub plain_stopped : (c : Writer) (fault : WriteFault) → WritesText plain (Err fault) b c → WritesText (escaped text) (Err fault) a c
    plain_stopped c fault stopped = subst (λ (text : List ℕ). WritesText text (Err fault) a c) (sym whole)
        (stopped_further so_far.front plain (escaped_byte (get_or left i 0) ++ escaped rest) fault a b c so_far.written stopped)

    module _ (c d : Writer) (written : WritesText plain (Ok tt) b c) where
      pub escape_stopped : (fault : WriteFault) → WritesText (escaped_byte (get_or left i 0)) (Err fault) c d
          → WritesText (escaped text) (Err fault) a d
      escape_stopped fault stopped = subst (λ (text : List ℕ). WritesText text (Err fault) a d)
          (append_assoc so_far.front plain (escaped_byte (get_or left i 0) ++ escaped rest) ∙ sym whole)
          (stopped_further (so_far.front ++ plain) (escaped_byte (get_or left i 0)) (escaped rest) fault a c d
          (written_further so_far.front plain a b c so_far.written written) stopped)

      pub front_more : WritesText (escaped_byte (get_or left i 0)) (Ok tt) c d → WritesFront text rest a d
      front_more last = record {
        front = so_far.front ++ (plain ++ escaped_byte (get_or left i 0));
        is_front = whole ∙ sym (simp append_assoc);
        written = written_further so_far.front (plain ++ escaped_byte (get_or left i 0)) a b d so_far.written
            (written_further plain (escaped_byte (get_or left i 0)) b c d written last);
      }

  -- nothing is left to escape
  pub front_last : (c : Writer) (result : Result (Unit {0}) WriteFault) → None ≡ position is_ascii_control left → WritesText left result b c
      → WritesText (escaped text) result a c
  front_last c (Ok done) missing wrote = subst (λ (text : List ℕ). WritesText text (Ok tt) a c)
      (ap (λ (left : List ℕ). so_far.front ++ left) (sym (escaped_plain left missing)) ∙ sym so_far.is_front)
      (written_further so_far.front left a b c so_far.written wrote)
  front_last c (Err fault) missing wrote = subst (λ (text : List ℕ). WritesText text (Err fault) a c)
      (ap (λ (left : List ℕ). so_far.front ++ left) (append-nil left ∙ sym (escaped_plain left missing)) ∙ sym so_far.is_front)
      (stopped_further so_far.front left [] fault a b c so_far.written wrote)

-- the name of a county's file
pub escaped_name : (folder code end : List ℕ)
    → escaped (folder ++ codes "/TGR" ++ code ++ end) ≡ escaped folder ++ codes "/TGR" ++ escaped code ++ escaped end
unfolding escaped_byte
escaped_name folder code end =
    flat_map-append escaped_byte (folder ++ codes "/TGR" ++ code) end
    ∙ ap (λ (front : List ℕ). front ++ escaped end) (flat_map-append escaped_byte (folder ++ codes "/TGR") code
    ∙ ap (λ (front : List ℕ). front ++ escaped code) (flat_map-append escaped_byte folder (codes "/TGR")))
