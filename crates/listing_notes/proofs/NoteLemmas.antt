-- A note determines what is known, given what was known last: two states with the same note are equal.
use Rattle.std.proofs.Common.{◌≡◌, ◌≢◌, ◌⊎◌, inl, inr, ℕ, zero, suc, ◌+◌, ◌-◌, ◌*◌, ◌^◌, ◌<◌, ◌≤◌, ℤ, pos, negsuc, Bool, true, false, List, [], ◌∷◌, ◌++◌}
use Rattle.std.proofs.Common.{length, map, refl, sym, ap, subst, ◌∙◌, append_assoc, arith}
use Rattle.std.specs.Prelude.{codes, decimal, not, ◌==◌, ◌&&◌, ◌||◌, nat_lt, cond, if◌then◌else◌, FitsSigned}
use Rattle.std.specs.Fmt.{signed_decimal}
use Rattle.std.specs.Int.{w16}
use Rattle.std.specs.List.{filter, flat_map, range_with_len}
use Rattle.std.specs.Ordering.{int_eq}
use Rattle.std.specs.Str.{bytes_eq}
use Rattle.std.proofs.lemmas.Bool.{and_parts, cases_lt, false_from_ne_true, true≢false}
use Rattle.std.proofs.lemmas.Bool.Decides.{nat_tests}
use Rattle.std.proofs.lemmas.Int.{ints}
use Rattle.std.proofs.lemmas.List.{append_cancel_left}
use Rattle.std.proofs.lemmas.Slice.Eq.{bytes_eq-Decides}
use Rattle.bpf_frame.specs.FrameMap.{slot_kind}
use Rattle.bpf_insn.specs.declared.instruction.Insn.{Insn}
use Rattle.bpf_insn.specs.declared.memory.TheConstants.{FRAME_LENGTH, SLOTS, SLOT_LENGTH}
use Rattle.bpf_kinds.specs.Interval as interval
use Rattle.bpf_kinds.specs.Kind as kind
use Rattle.bpf_kinds.specs.Offsets as offsets
use Rattle.bpf_kinds.specs.declared.interval.Interval.{Interval}
use Rattle.bpf_kinds.specs.declared.kind.Kind.{Kind}
use Rattle.bpf_kinds.specs.declared.kind.Kind.TheVariants.{Number, Record, Frame, Nothing}
use Rattle.bpf_kinds.specs.declared.offsets.Offsets.{Offsets}
use Rattle.bpf_meaning.specs.declared.state.TheConstants.{REGISTERS}
use Rattle.bpf_verify.specs.LiftedState.{LiftedState, IsProper, IsProperState, Reached, Unreached, kind_of}
use Rattle.bpf_verify.specs.declared.abstract_state.AbstractState.{AbstractState}
use Rattle.listing_notes.proofs.SplitLemmas.{BeginsWith, decimal-excludes, excludes, excludes-append, first, fronts-equal, rest}
use Rattle.listing_notes.proofs.TextLemmas.{differs, names-differ, states-equal}
use Rattle.listing_notes.specs.Facts.{facts_text, is_changed, is_shown, joined, note_text, shown_parts}
use Rattle.listing_notes.specs.Notation.{IsPart, begins_negative, end_text, fact_text, held_text, interval_text, is_any, kind_text, marks_text, offsets_text}
use Rattle.listing_notes.specs.Notation.{part_name, part_text, range_text, slot_marks}
use Rattle.listing_notes.specs.Reads.{part_at, parts_from, reads}
use Rattle.listing_notes.specs.declared.notation.Part.{Part}
use Rattle.listing_notes.specs.declared.notation.Part.TheVariants.{Register, Slot}

-- a joined text determines its texts, if none of them is empty or has a comma
abbrev AreTexts : List (List ℕ) → Type 0
AreTexts [] = Unit {0}
AreTexts (text ∷ texts) = (0 < length text) × (excludes 44 text ≡ true) × AreTexts texts

abbrev commas : List (List ℕ) → List ℕ
commas texts = flat_map (λ text. codes ", " ++ text) texts

commas-begin : (texts : List (List ℕ)) → BeginsWith 44 (commas texts)
commas-begin [] = tt
commas-begin (text ∷ texts) = refl

commas-injective : (xs ys : List (List ℕ)) → AreTexts xs → AreTexts ys → commas xs ≡ commas ys → xs ≡ ys
commas-injective [] [] are others same = refl
commas-injective [] (y ∷ ys) are others same = let n : 0 ≡ suc (suc (length (y ++ commas ys))) = ap length same in absurd (omega arith)
commas-injective (x ∷ xs) [] are others same = let n : suc (suc (length (x ++ commas xs))) ≡ 0 = ap length same in absurd (omega arith)
commas-injective (x ∷ xs) (y ∷ ys) are others same =
    let both : x ++ commas xs ≡ y ++ commas ys = ap rest (ap rest same) in
    let head : x ≡ y = fronts-equal 44 x y (commas xs) (commas ys) (record { excluded = are.1; begins = commas-begin xs })
    (record { excluded = others.1; begins = commas-begin ys }) both in
    let tails : commas xs ≡ commas ys = append_cancel_left x _ _ (both ∙ ap (λ (z : List ℕ). z ++ commas ys) (sym head)) in
    let more : xs ≡ ys = commas-injective xs ys are.2 others.2 tails in
    cc

joined-injective : (xs ys : List (List ℕ)) → AreTexts xs → AreTexts ys → joined xs ≡ joined ys → xs ≡ ys
joined-injective [] [] are others same = refl
joined-injective [] ([] ∷ ys) are others same = absurd (omega (arith, others.0))
joined-injective [] ((b ∷ y) ∷ ys) are others same = let n : 0 ≡ suc (length (y ++ commas ys)) = ap length same in absurd (omega arith)
joined-injective ([] ∷ xs) [] are others same = absurd (omega (arith, are.0))
joined-injective ((b ∷ x) ∷ xs) [] are others same = let n : suc (length (x ++ commas xs)) ≡ 0 = ap length same in absurd (omega arith)
joined-injective (x ∷ xs) (y ∷ ys) are others same =
    let head : x ≡ y = fronts-equal 44 x y (commas xs) (commas ys) (record { excluded = are.1; begins = commas-begin xs })
    (record { excluded = others.1; begins = commas-begin ys }) same in
    let tails : commas xs ≡ commas ys = append_cancel_left x _ _ (same ∙ ap (λ (z : List ℕ). z ++ commas ys) (sym head)) in
    let more : xs ≡ ys = commas-injective xs ys are.2 others.2 tails in
    cc

-- no fact contains a comma
end-excludes : (negative : Bool) (n : ℕ) → n < 2 ^ 64 → (negative ≡ true → 0 < n) → excludes 44 (end_text negative n) ≡ true
end-excludes false n fits some = decimal-excludes 44 n (omega arith) fits
end-excludes true n fits some = let above = some refl in decimal-excludes 44 (2 ^ 64 - n) (omega arith) (omega arith)

range-excludes : (single : Bool) (low high : List ℕ) → excludes 44 low ≡ true → excludes 44 high ≡ true → excludes 44 (range_text single low high) ≡ true
range-excludes true low high first_excludes then_excludes = first_excludes
range-excludes false low high first_excludes then_excludes =
    excludes-append 44 (low ++ codes "..") high (excludes-append 44 low (codes "..") first_excludes refl) then_excludes

shown-excludes : (any single negative : Bool) (low high : ℕ) → low ≤ high → high < 2 ^ 64 → (negative ≡ true → 0 < low)
    → excludes 44 (if any then codes "any number" else range_text single (end_text negative low) (end_text negative high)) ≡ true
shown-excludes true single negative low high ordered fits some = refl
shown-excludes false single negative low high ordered fits some =
    range-excludes single (end_text negative low) (end_text negative high) (end-excludes negative low (omega arith) some)
    (end-excludes negative high fits (λ is. let above = some is in omega arith))

negative-some : (x : Interval) → begins_negative x ≡ true → 0 < x.low
negative-some x test = grind (arith, nat_tests)

interval-excludes : (x : Interval) → interval.IsProper x → excludes 44 (interval_text x) ≡ true
interval-excludes x proper = shown-excludes (is_any x) (x.low == x.high) (begins_negative x) x.low x.high proper.ordered proper.fits (negative-some x)

signed-excludes : (z : ℤ) → FitsSigned w16 z → excludes 44 (signed_decimal z) ≡ true
signed-excludes (pos n) fits = decimal-excludes 44 n (omega arith) (omega (arith, ints))
signed-excludes (negsuc n) fits = decimal-excludes 44 (suc n) (omega arith) (omega (arith, ints))

offsets-exclude : (x : Offsets) → offsets.IsProper x → excludes 44 (offsets_text x) ≡ true
offsets-exclude x proper = range-excludes (int_eq x.low x.high) _ _ (signed-excludes x.low proper.low) (signed-excludes x.high proper.high)

kind-excludes : (k : Kind) → kind.IsProper k → excludes 44 (kind_text k) ≡ true
kind-excludes (Number x) proper = interval-excludes x proper
kind-excludes (Record x) proper = offsets-exclude x proper
kind-excludes (Frame x) proper = offsets-exclude x proper
kind-excludes Nothing proper = refl

marks-exclude : (marks : List Bool) → excludes 44 (marks_text marks) ≡ true
marks-exclude [] = refl
marks-exclude (true ∷ marks) = marks-exclude marks
marks-exclude (false ∷ marks) = marks-exclude marks

held-excludes : (k : Kind) (marks : List Bool) → kind.IsProper k → excludes 44 (held_text k marks) ≡ true
held-excludes (Number x) marks proper = kind-excludes (Number x) proper
held-excludes (Record x) marks proper = kind-excludes (Record x) proper
held-excludes (Frame x) marks proper = kind-excludes (Frame x) proper
held-excludes Nothing marks proper = marks-exclude marks

part-excludes : (known : AbstractState) (part : Part) → IsProperState known → excludes 44 (part_text known part) ≡ true
part-excludes known (Register register) proper = kind-excludes (kind_of known register) (proper.kinds register)
part-excludes known (Slot slot) proper = held-excludes (slot_kind known.frame slot) (slot_marks known.frame.marks slot) (proper.frame.kinds slot)

-- a name contains neither a comma nor a blank
name-plain : (byte : ℕ) (part : Part) → (excludes byte (codes "r") && excludes byte (codes "[r10-") && excludes byte (codes "]")) ≡ true → byte < 48
    → IsPart part → excludes byte (part_name part) ≡ true
name-plain byte (Register register) tests small within =
    let both = and_parts (excludes byte (codes "r") && excludes byte (codes "[r10-")) (excludes byte (codes "]")) tests in
    let head = (and_parts (excludes byte (codes "r")) (excludes byte (codes "[r10-")) both.0).0 in
    excludes-append byte (codes "r") (decimal register) head (decimal-excludes byte register small (omega arith))
name-plain byte (Slot slot) tests small within =
    let both = and_parts (excludes byte (codes "r") && excludes byte (codes "[r10-")) (excludes byte (codes "]")) tests in
    let head = (and_parts (excludes byte (codes "r")) (excludes byte (codes "[r10-")) both.0).1 in
    excludes-append byte (codes "[r10-" ++ decimal (FRAME_LENGTH - SLOT_LENGTH * slot)) (codes "]")
    (excludes-append byte (codes "[r10-") (decimal (FRAME_LENGTH - SLOT_LENGTH * slot)) head
    (decimal-excludes byte (FRAME_LENGTH - SLOT_LENGTH * slot) small (omega arith)))
    both.1

fact-is : (known : AbstractState) (part : Part) → fact_text known part ≡ part_name part ++ (codes " = " ++ part_text known part)
fact-is known part = append_assoc (part_name part) (codes " = ") (part_text known part)

fact-excludes : (known : AbstractState) (part : Part) → IsProperState known → IsPart part → excludes 44 (fact_text known part) ≡ true
fact-excludes known part proper is =
    excludes-append 44 (part_name part ++ codes " = ") (part_text known part)
    (excludes-append 44 (part_name part) (codes " = ") (name-plain 44 part refl (omega arith) is) refl) (part-excludes known part proper)

fact-some : (known : AbstractState) (part : Part) → 0 < length (fact_text known part)
fact-some known (Register register) = omega arith
fact-some known (Slot slot) = omega arith

-- a fact determines its part and what is known about it
fact-injective : (known other : AbstractState) (part there : Part) → IsPart part → IsPart there → fact_text known part ≡ fact_text other there
    → (part ≡ there) × (part_text known part ≡ part_text other there)
fact-injective known other part there is other_is same =
    let both : part_name part ++ (codes " = " ++ part_text known part) ≡ part_name there ++ (codes " = " ++ part_text other there) =
    sym (fact-is known part) ∙ same ∙ fact-is other there in
    let names : part_name part ≡ part_name there = fronts-equal 32 (part_name part) (part_name there) (codes " = " ++ part_text known part)
    (codes " = " ++ part_text other there) (record { excluded = name-plain 32 part refl (omega arith) is; begins = refl })
    (record { excluded = name-plain 32 there refl (omega arith) other_is; begins = refl }) both in
    let tails : codes " = " ++ part_text known part ≡ codes " = " ++ part_text other there =
    append_cancel_left (part_name part) _ _ (both ∙ ap (λ (z : List ℕ). z ++ (codes " = " ++ part_text other there)) (sym names)) in
    (names-differ part there is other_is names, append_cancel_left (codes " = ") _ _ tails)

-- the facts that are shown
abbrev IsIn : {X : Type 0} → X → List X → Type 0
IsIn x [] = ⊥
IsIn x (y ∷ ys) = (x ≡ y) ⊎ IsIn x ys

in-more : (f : Part → List ℕ) (text : List ℕ) (next : Part) (parts : List Part) (chosen : Bool) → IsIn text (map f parts)
    → IsIn text (map f (cond chosen (next ∷ parts) parts))
in-more f text next parts true there = inr there
in-more f text next parts false there = there

fact-in : (known : AbstractState) (shown : Part → Bool) (part : Part) (parts : List Part) → shown part ≡ true → IsIn part parts
    → IsIn (fact_text known part) (map (fact_text known) (filter shown parts))
fact-in known shown part [] test none = absurd none
fact-in known shown part (next ∷ parts) test (inl here) =
    let chosen : shown next ≡ true = ap shown (sym here) ∙ test in
    subst (λ (b : Bool). IsIn (fact_text known part) (map (fact_text known) (cond b (next ∷ filter shown parts) (filter shown parts)))) (sym chosen)
    (inl (ap (fact_text known) here))
fact-in known shown part (next ∷ parts) test (inr later) =
    in-more (fact_text known) (fact_text known part) next (filter shown parts) (shown next) (fact-in known shown part parts test later)

record IsFactOf (known : AbstractState) (shown : Part → Bool) (parts : List Part) (text : List ℕ) : Type 0 where
  part : Part
  is_in : IsIn part parts
  is_shown : shown part ≡ true
  is : text ≡ fact_text known part

fact-later : (known : AbstractState) (shown : Part → Bool) {text : List ℕ} (next : Part) (parts : List Part) → IsFactOf known shown parts text
    → IsFactOf known shown (next ∷ parts) text
fact-later known shown next parts found =
    record { part = found.part; is_in = inr found.is_in; is_shown = found.is_shown; is = found.is }

fact-next : (known : AbstractState) (shown : Part → Bool) {text : List ℕ} (next : Part) (parts : List Part) (chosen : Bool) → shown next ≡ chosen
    → (IsIn text (map (fact_text known) (filter shown parts)) → IsFactOf known shown parts text)
    → IsIn text (map (fact_text known) (cond chosen (next ∷ filter shown parts) (filter shown parts))) → IsFactOf known shown (next ∷ parts) text
fact-next known shown next parts true test later (inl here) = record { part = next; is_in = inl refl; is_shown = test; is = here }
fact-next known shown next parts true test later (inr more) = fact-later known shown next parts (later more)
fact-next known shown next parts false test later more = fact-later known shown next parts (later more)

fact-of : (known : AbstractState) (shown : Part → Bool) (text : List ℕ) (parts : List Part) → IsIn text (map (fact_text known) (filter shown parts))
    → IsFactOf known shown parts text
fact-of known shown text [] none = absurd none
fact-of known shown text (next ∷ parts) there =
    fact-next known shown next parts (shown next) refl (λ more. fact-of known shown text parts more) there

-- all parts are among those that may be shown
is-part : (place : ℕ) → place < REGISTERS + SLOTS → IsPart (part_at place)
is-part place within = by-test (nat_lt place REGISTERS) refl
  where
    by-test : (test : Bool) → nat_lt place REGISTERS ≡ test → IsPart (cond test (Register place) (Slot (REGISTERS + SLOTS - 1 - place)))
    by-test true test = grind (arith, nat_tests)
    by-test false test = let beyond : REGISTERS ≤ place = grind (arith, nat_tests) in omega arith

are-parts : (from n : ℕ) (part : Part) → from + n ≤ REGISTERS + SLOTS → IsIn part (map part_at (range_with_len from n)) → IsPart part
are-parts from zero part within none = absurd none
are-parts from (suc n) part within (inl here) = subst IsPart (sym here) (is-part from (omega arith))
are-parts from (suc n) part within (inr later) = are-parts (from + 1) n part (omega arith) later

in-next : (from n place : ℕ) → (from < place) ⊎ (place ≤ from) → from ≤ place
    → (from < place → IsIn (part_at place) (map part_at (range_with_len (from + 1) n))) → IsIn (part_at place) (map part_at (range_with_len from (suc n)))
in-next from n place (inl later) above more = inr (more later)
in-next from n place (inr here) above more = let same : place ≡ from = omega arith in inl (ap part_at same)

in-parts : (from n place : ℕ) → from ≤ place → place < from + n → IsIn (part_at place) (map part_at (range_with_len from n))
in-parts from zero place above below = absurd (omega arith)
in-parts from (suc n) place above below =
    in-next from n place (cases_lt from place) above (λ later. in-parts (from + 1) n place (omega arith) (omega arith))

register-at : (register : ℕ) → register ≤ 10 → part_at register ≡ Register register
register-at register within = let test : nat_lt register REGISTERS ≡ true = grind (arith, nat_tests) in rw test refl

slot-at : (slot : ℕ) → slot < SLOTS → part_at (REGISTERS + SLOTS - 1 - slot) ≡ Slot slot
slot-at slot within =
    let test : nat_lt (REGISTERS + SLOTS - 1 - slot) REGISTERS ≡ false = grind (arith, nat_tests) in
    let back : REGISTERS + SLOTS - 1 - (REGISTERS + SLOTS - 1 - slot) ≡ slot = omega arith in
    rw test (ap Slot back)

each-in : (part : Part) → IsPart part → IsIn part (parts_from 0 (REGISTERS + SLOTS))
unfolding parts_from
each-in (Register register) is =
    subst (λ (p : Part). IsIn p (map part_at (range_with_len 0 (REGISTERS + SLOTS)))) (register-at register is)
    (in-parts 0 (REGISTERS + SLOTS) register (omega arith) (omega arith))
each-in (Slot slot) is =
    subst (λ (p : Part). IsIn p (map part_at (range_with_len 0 (REGISTERS + SLOTS)))) (slot-at slot is)
    (in-parts 0 (REGISTERS + SLOTS) (REGISTERS + SLOTS - 1 - slot) (omega arith) (omega arith))

all-parts : (part : Part) → IsIn part (parts_from 0 (REGISTERS + SLOTS)) → IsPart part
unfolding parts_from
all-parts part there = are-parts 0 (REGISTERS + SLOTS) part (omega arith) there

-- the facts are texts that can be distinguished
facts-next : (known : AbstractState) (next : Part) (parts : List Part) (chosen : Bool) → IsProperState known → IsPart next
    → AreTexts (map (fact_text known) parts) → AreTexts (map (fact_text known) (cond chosen (next ∷ parts) parts))
facts-next known next parts true proper is more = (fact-some known next, fact-excludes known next proper is, more)
facts-next known next parts false proper is more = more

facts-are : (known : AbstractState) (shown : Part → Bool) (parts : List Part) → IsProperState known → ((part : Part) → IsIn part parts → IsPart part)
    → AreTexts (map (fact_text known) (filter shown parts))
facts-are known shown [] proper are = tt
facts-are known shown (next ∷ parts) proper are =
    facts-next known next (filter shown parts) (shown next) proper (are next (inl refl))
    (facts-are known shown parts proper (λ part there. are part (inr there)))

-- a part that isn't shown is unchanged
unchanged : (last known : AbstractState) (insn : Insn) (part : Part) → is_shown last known insn part ≡ false → part_text last part ≡ part_text known part
unchanged last known insn part hidden = by-test (reads known insn part) hidden
  where
    same : (equal : Bool) → not equal ≡ false → bytes_eq (part_text last part) (part_text known part) ≡ equal → part_text last part ≡ part_text known part
    same true test is = (bytes_eq-Decides (part_text last part) (part_text known part)).0 is
    same false test is = absurd (true≢false test)

    by-test : (read : Bool) → (read || is_changed last known part) ≡ false → part_text last part ≡ part_text known part
    by-test true test = absurd (true≢false test)
    by-test false test = same (bytes_eq (part_text last part) (part_text known part)) test refl

-- a part shown in one of two states with the same note is shown in the other, with the same text
abbrev shown_facts : AbstractState → AbstractState → Insn → List (List ℕ)
shown_facts last known insn = map (fact_text known) (filter (is_shown last known insn) (parts_from 0 (REGISTERS + SLOTS)))

shown-too : (last known other : AbstractState) (insn : Insn) (part : Part) → shown_facts last known insn ≡ shown_facts last other insn → IsPart part
    → is_shown last known insn part ≡ true → (is_shown last other insn part ≡ true) × (part_text known part ≡ part_text other part)
shown-too last known other insn part same is shown =
    let there : IsIn (fact_text known part) (shown_facts last other insn) =
    subst (λ (texts : List (List ℕ)). IsIn (fact_text known part) texts) same
    (fact-in known (is_shown last known insn) part (parts_from 0 (REGISTERS + SLOTS)) shown (each-in part is)) in
    let found = fact-of other (is_shown last other insn) (fact_text known part) (parts_from 0 (REGISTERS + SLOTS)) there in
    let found_is = fact-injective known other part found.part is (all-parts found.part found.is_in) found.is in
    (ap (is_shown last other insn) found_is.0 ∙ found.is_shown, found_is.1 ∙ ap (part_text other) (sym found_is.0))

texts-same : (last known other : AbstractState) (insn : Insn) (part : Part) → shown_facts last known insn ≡ shown_facts last other insn → IsPart part
    → part_text known part ≡ part_text other part
texts-same last known other insn part same is = by-test (is_shown last known insn part) refl
  where
    by-test : (test : Bool) → is_shown last known insn part ≡ test → part_text known part ≡ part_text other part
    by-test true shown = (shown-too last known other insn part same is shown).1
    by-test false hidden =
        let hidden_too : is_shown last other insn part ≡ false = false_from_ne_true (is_shown last other insn part)
        (λ shown. true≢false (sym (shown-too last other known insn part (sym same) is shown).0 ∙ hidden)) in
        sym (unchanged last known insn part hidden) ∙ unchanged last other insn part hidden_too

known-injective : (last known other : AbstractState) (insn : Insn) → IsProperState known → IsProperState other
    → facts_text known (shown_parts last known insn) ≡ facts_text other (shown_parts last other insn) → known ≡ other
known-injective last known other insn proper proper_other same =
    let facts : shown_facts last known insn ≡ shown_facts last other insn = joined-injective (shown_facts last known insn) (shown_facts last other insn)
    (facts-are known (is_shown last known insn) (parts_from 0 (REGISTERS + SLOTS)) proper all-parts)
    (facts-are other (is_shown last other insn) (parts_from 0 (REGISTERS + SLOTS)) proper_other all-parts) same in
    states-equal known other proper proper_other (λ part is. texts-same last known other insn part facts is)

-- no list of facts reads like the note of an instruction that isn't reached
reached-note : (known : AbstractState) (parts : List Part) → facts_text known parts ≢ codes "unreached"
reached-note known [] same = absurd (differs 0 9 refl (ap length same))
reached-note known (Register register ∷ parts) same = absurd (differs 114 117 refl (ap first same))
reached-note known (Slot slot ∷ parts) same = absurd (differs 91 117 refl (ap first same))

pub notes-injective : (last : AbstractState) (insn : Insn) (state other : LiftedState) → IsProper state → IsProper other
    → note_text last state insn ≡ note_text last other insn → state ≡ other
notes-injective last insn Unreached Unreached proper proper_other same = refl
notes-injective last insn Unreached (Reached other) proper proper_other same = absurd (reached-note other (shown_parts last other insn) (sym same))
notes-injective last insn (Reached known) Unreached proper proper_other same = absurd (reached-note known (shown_parts last known insn) same)
notes-injective last insn (Reached known) (Reached other) proper proper_other same = ap Reached (known-injective last known other insn proper proper_other same)
