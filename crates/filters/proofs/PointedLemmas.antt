-- The line of a refusal, cut before its name, with a pointer between the parts.
use Rattle.std.proofs.Common.{◌≡◌, ◌≢◌, ◌≤◌, ◌<◌, ◌++◌, ◌-◌, refl, take, drop, length, List, ℕ, [], ◌∷◌, ap, sym, ◌∙◌, arith, append_assoc}
use Rattle.std.specs.Prelude.{codes}
use Rattle.itoa.proofs.Decimal.{decimal_two}
use Rattle.std.proofs.lemmas.List.{append-nil, length-drop, take_all}
use Rattle.cql2_text.specs.FilterFaultKind as filter_flaw
use Rattle.cql2_text.specs.declared.fault.FilterFaultKind.{FilterFaultKind}
use Rattle.cql2_text.specs.declared.fault.FilterFaultKind.TheVariants as flaw
use Rattle.refusals.specs.Refusal.{line, refused}
use Rattle.filters.specs.Failure.{noted_text, pointed_line}

cut_line : (number : ℕ) (name pointer end : List ℕ) → 10 ≤ number → number < 100 → length pointer ≢ 0
    → take 11 (line (refused number name)) ++ (codes "pointer " ++ (pointer ++ (codes " " ++ (drop 11 (line (refused number name)) ++ end))))
    ≡ pointed_line pointer (refused number name) ++ end
cut_line number name [] end few many some = absurd (some refl)
cut_line number name (byte ∷ bytes) end few many some =
    rw (decimal_two number few many, append-nil name, append_assoc (bytes ++ 32 ∷ []) name end, append_assoc bytes (32 ∷ []) (name ++ end)) refl

cut_refusal : (kind : FilterFaultKind) (pointer end : List ℕ) → length pointer ≢ 0
    → take 11 (line (filter_flaw.refusal kind)) ++ (codes "pointer " ++ (pointer ++ (codes " " ++ (drop 11 (line (filter_flaw.refusal kind)) ++ end))))
    ≡ pointed_line pointer (filter_flaw.refusal kind) ++ end
cut_refusal (flaw.Syntax expected) pointer end some = cut_line 90 _ pointer end (omega arith) (omega arith) some
cut_refusal flaw.UnknownColumn pointer end some = cut_line 91 _ pointer end (omega arith) (omega arith) some
cut_refusal flaw.WrongType pointer end some = cut_line 92 _ pointer end (omega arith) (omega arith) some
cut_refusal flaw.Folded pointer end some = cut_line 92 _ pointer end (omega arith) (omega arith) some
cut_refusal flaw.NumberRange pointer end some = cut_line 93 _ pointer end (omega arith) (omega arith) some
cut_refusal flaw.LongText pointer end some = cut_line 94 _ pointer end (omega arith) (omega arith) some
cut_refusal flaw.TooDeep pointer end some = cut_line 95 _ pointer end (omega arith) (omega arith) some
cut_refusal flaw.TooLong pointer end some = cut_line 96 _ pointer end (omega arith) (omega arith) some
cut_refusal flaw.ManyVertices pointer end some = cut_line 96 _ pointer end (omega arith) (omega arith) some

-- the same with a note on a second line
pub cut_reported : (kind : FilterFaultKind) (text pointer note : List ℕ) → text ≡ line (filter_flaw.refusal kind) → length pointer ≢ 0
    → take 11 text ++ (codes "pointer " ++ (pointer ++ (codes " " ++ (take (length text - 11) (drop 11 text) ++ (10 ∷ note ++ 10 ∷ [])))))
    ≡ noted_text (pointed_line pointer (filter_flaw.refusal kind)) note
cut_reported kind text pointer note is some =
    let end : take (length text - 11) (drop 11 text) ≡ drop 11 text =
    take_all (length text - 11) (drop 11 text) (omega (arith, length-drop 11 text)) in
    ap (λ (name : List ℕ). take 11 text ++ (codes "pointer " ++ (pointer ++ (codes " " ++ (name ++ (10 ∷ note ++ 10 ∷ [])))))) end
    ∙ (ap (λ (text : List ℕ). take 11 text ++ (codes "pointer " ++ (pointer ++ (codes " " ++ (drop 11 text ++ (10 ∷ note ++ 10 ∷ [])))))) is
    ∙ (cut_refusal kind pointer (10 ∷ note ++ 10 ∷ []) some
    ∙ sym (append_assoc (pointed_line pointer (filter_flaw.refusal kind)) (10 ∷ note) (10 ∷ []))))
