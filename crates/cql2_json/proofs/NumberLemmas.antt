-- A number of JSON has no control characters.
use Rattle.std.proofs.Common.{◌≡◌, ℕ, ◌+◌, suc, Bool, true, false, cond, ◌||◌, ◌==◌, List, [], ◌∷◌, ◌++◌, take, drop, Option, Some, None}
use Rattle.std.proofs.Common.{option_and_then, refl, ap, sym, ◌∙◌, subst, arith}
use Rattle.std.specs.Char.{is_ascii_digit}
use Rattle.std.specs.List.{list_any, prefix_len}
use Rattle.std.proofs.lemmas.Bool.Decides.{nat_tests}
use Rattle.std.proofs.lemmas.List.{append-nil, append_assoc, take-append-drop}
use Rattle.json.specs.Print.{IsNumber}
use Rattle.json.specs.Word.{after_digits, after_exponent, after_fraction, after_minus, after_number, after_sign, after_whole, head}
use Rattle.cql2_json.specs.Quoted.{is_control}

abbrev pub IsClean : List ℕ → Type 0
IsClean text = list_any is_control text ≡ false

or-false-both : (a b : Bool) → a ≡ false → b ≡ false → (a || b) ≡ false
or-false-both true b first second = let never : ⊥ = cc in absurd never
or-false-both false b first second = second

or-parts : (a b : Bool) → (a || b) ≡ false → (a ≡ false) × (b ≡ false)
or-parts true b is = let never : ⊥ = cc in absurd never
or-parts false b is = (refl, is)

pub clean-append : (a b : List ℕ) → IsClean a → IsClean b → IsClean (a ++ b)
clean-append [] b first second = second
clean-append (x ∷ xs) b first second =
    let parts = or-parts (is_control x) (list_any is_control xs) first in
    or-false-both (is_control x) (list_any is_control (xs ++ b)) parts.0 (clean-append xs b parts.1 second)

pub clean-cons : (x : ℕ) (xs : List ℕ) → is_control x ≡ false → IsClean xs → IsClean (x ∷ xs)
clean-cons x xs first rest = or-false-both (is_control x) (list_any is_control xs) first rest

-- the text is a clean front and the rest
record Cut (text rest : List ℕ) : Type 0 where
  front : List ℕ
  splits : text ≡ front ++ rest
  clean : IsClean front

abbrev Cuts : List ℕ → Option (List ℕ) → Type 0
Cuts text None = Unit {0}
Cuts text (Some rest) = Cut text rest

cut-after : (text middle rest : List ℕ) → Cut text middle → Cut middle rest → Cut text rest
cut-after text middle rest a b = record {
  front = a.front ++ b.front;
  splits = a.splits ∙ ap (λ t. a.front ++ t) b.splits ∙ sym (append_assoc a.front b.front rest);
  clean = clean-append a.front b.front a.clean b.clean;
}

cuts-after : (text middle : List ℕ) (o : Option (List ℕ)) → Cut text middle → Cuts middle o → Cuts text o
cuts-after text middle None a b = tt
cuts-after text middle (Some rest) a b = cut-after text middle rest a b

cuts-then : (text : List ℕ) (f : List ℕ → Option (List ℕ)) → ((t : List ℕ) → Cuts t (f t)) → (o : Option (List ℕ)) → Cuts text o
    → Cuts text (option_and_then f o)
cuts-then text f each None a = tt
cuts-then text f each (Some middle) a = cuts-after text middle (f middle) a (each middle)

nothing : (text : List ℕ) → Cut text text
nothing text = record { front = []; splits = refl; clean = refl }

either-cuts : (text : List ℕ) (b : Bool) (x y : Option (List ℕ)) → (b ≡ true → Cuts text x) → (b ≡ false → Cuts text y) → Cuts text (cond b x y)
either-cuts text true x y if_true if_false = if_true refl
either-cuts text false x y if_true if_false = if_false refl

digit-clean : (byte : ℕ) → is_ascii_digit byte ≡ true → is_control byte ≡ false
digit-clean byte is = grind (arith, nat_tests)

digits-of : (byte : ℕ) (rest : List ℕ) (b : Bool) → is_ascii_digit byte ≡ b → IsClean (take (prefix_len is_ascii_digit rest) rest)
    → IsClean (take (cond b (1 + prefix_len is_ascii_digit rest) 0) (byte ∷ rest))
digits-of byte rest true is clean =
    let next : suc (prefix_len is_ascii_digit rest) ≡ 1 + prefix_len is_ascii_digit rest = omega arith in
    subst (λ n. IsClean (take n (byte ∷ rest))) next (clean-cons byte (take (prefix_len is_ascii_digit rest) rest) (digit-clean byte is) clean)
digits-of byte rest false is clean = refl

digits-clean : (text : List ℕ) → IsClean (take (prefix_len is_ascii_digit text) text)
digits-clean [] = refl
digits-clean (byte ∷ rest) = digits-of byte rest (is_ascii_digit byte) refl (digits-clean rest)

digits-cut : (text : List ℕ) → Cuts text (after_digits text)
digits-cut text =
    either-cuts text (prefix_len is_ascii_digit text == 0) None (Some (drop (prefix_len is_ascii_digit text) text)) (λ none. tt)
    (λ some. record {
      front = take (prefix_len is_ascii_digit text) text;
      splits = sym (take-append-drop (prefix_len is_ascii_digit text) text);
      clean = digits-clean text;
    })

same-byte : (byte c : ℕ) → (byte == c) ≡ true → byte ≡ c
same-byte byte c is = grind (arith, nat_tests)

head-cut : (text : List ℕ) (c : ℕ) → is_control c ≡ false → (head text == c) ≡ true → Cut text (drop 1 text)
head-cut [] c clean is = nothing []
head-cut (byte ∷ rest) c clean is = record {
  front = byte ∷ [];
  splits = refl;
  clean = clean-cons byte [] (ap is_control (same-byte byte c is) ∙ clean) refl;
}

plain-either : (text : List ℕ) (b : Bool) (x y : List ℕ) → (b ≡ true → Cut text x) → (b ≡ false → Cut text y) → Cut text (cond b x y)
plain-either text true x y if_true if_false = if_true refl
plain-either text false x y if_true if_false = if_false refl

-- one byte of two is taken
two-cut : (text : List ℕ) (a b : Bool) → (a ≡ true → Cut text (drop 1 text)) → (b ≡ true → Cut text (drop 1 text)) → (a || b) ≡ true
    → Cut text (drop 1 text)
two-cut text true b first second is = first refl
two-cut text false b first second is = second is

minus-cut : (text : List ℕ) → Cut text (after_minus text)
minus-cut text = plain-either text (head text == 45) (drop 1 text) text (head-cut text 45 refl) (λ other. nothing text)

sign-cut : (text : List ℕ) → Cut text (after_sign text)
sign-cut text =
    plain-either text ((head text == 45) || (head text == 43)) (drop 1 text) text
    (two-cut text (head text == 45) (head text == 43) (head-cut text 45 refl) (head-cut text 43 refl)) (λ other. nothing text)

whole-cut : (text : List ℕ) → Cuts text (after_whole text)
whole-cut text =
    either-cuts text (head text == 48) (Some (drop 1 text)) (after_digits text) (head-cut text 48 refl) (λ other. digits-cut text)

fraction-cut : (text : List ℕ) → Cuts text (after_fraction text)
fraction-cut text =
    either-cuts text (head text == 46) (after_digits (drop 1 text)) (Some text)
    (λ is. cuts-after text (drop 1 text) (after_digits (drop 1 text)) (head-cut text 46 refl is) (digits-cut (drop 1 text))) (λ other. nothing text)

exponent-cut : (text : List ℕ) → Cuts text (after_exponent text)
exponent-cut text =
    let signed = drop 1 text in
    either-cuts text ((head text == 101) || (head text == 69)) (after_digits (after_sign signed)) (Some text)
    (λ is. cuts-after text signed (after_digits (after_sign signed))
    (two-cut text (head text == 101) (head text == 69) (head-cut text 101 refl) (head-cut text 69 refl) is)
    (cuts-after signed (after_sign signed) (after_digits (after_sign signed)) (sign-cut signed) (digits-cut (after_sign signed))))
    (λ other. nothing text)

number-cut : (text : List ℕ) → Cuts text (after_number text)
unfolding after_number
number-cut text =
    cuts-then text after_exponent exponent-cut _ (cuts-then text after_fraction fraction-cut _
    (cuts-after text (after_minus text) (after_whole (after_minus text)) (minus-cut text) (whole-cut (after_minus text))))

pub number-clean : (s : List ℕ) → IsNumber s → IsClean s
number-clean s is =
    let cut : Cut s [] = subst (Cuts s) is (number-cut s) in
    ap (list_any is_control) (cut.splits ∙ append-nil cut.front) ∙ cut.clean
