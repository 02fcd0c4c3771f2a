-- How the texts of segments are joined, why equal answers give equal texts, and how a row is written over another one.
use Rattle.std.proofs.Common.{◌≡◌, ◌+◌, ℕ, Err, ◌≤◌, List, [], ◌∷◌, ◌++◌, length, take, ap, subst, ◌∙◌, append_assoc}
use Rattle.std.proofs.Common.{arith}
use Rattle.std.specs.List.{refill}
use Rattle.std.specs.Prelude.{◌==◌, drop, if◌then◌else◌, slice_set}
use Rattle.std.proofs.Math.Seq.{take-append_seam}
use Rattle.std.proofs.lemmas.Grind.{take-set_at}
use Rattle.std.proofs.lemmas.List.{length-append, length-drop, length-set, length-take-le, take-append-le}
use Rattle.std.proofs.lemmas.Slice.{take-put_mid}
use borrow.Rule.Slice.PartMut.{put_mid}
use Rattle.std.proofs.lemmas.Bool.Decides.{nat_tests}
use Rattle.bpf_insn.specs.declared.instruction.Insn.{Insn}
use Rattle.counted_io.specs.ReaderWriter.{Writer}
use Rattle.counted_io.specs.Writing.{AppendsBeginning}
use Rattle.counted_io.specs.declared.writing.WriteFault.{WriteFault}
use Rattle.tl_segments.specs.Joining.{JoinedLines, segment_of, segments_of}
use Rattle.bpf_meaning.specs.Extract.{IsExtractIn, TextFormat, chosen_count, text_if_chosen}
use Rattle.extract.specs.Extracting.{ExtractsAlike}
use Rattle.extract.specs.Rows.{WritesIfChosen}

-- a segment has at most one text
pub chosen_count-le : (answer : ℕ) → chosen_count answer ≤ 1
chosen_count-le answer = grind (arith, nat_tests)

-- if code gives the same answers and segments have the same texts, the extract is the same, and so is a text cut short by a write fault

chosen_alike : {text_of : TextFormat} {code : List Insn} {own joined : JoinedLines} → ExtractsAlike text_of code own joined
    → (line : List ℕ) (answer score : ℕ)
    → text_if_chosen text_of answer score (segment_of own line) ≡ text_if_chosen text_of answer score (segment_of joined line)
chosen_alike alike line answer score = ap (λ (text : List ℕ). if answer == 0 then [] else text) (alike.text line score)

pub extract_alike : (text_of : TextFormat) (code : List Insn) (own joined : JoinedLines) (lines : List (List ℕ)) (text : List ℕ) (count : ℕ)
    → ExtractsAlike text_of code own joined → IsExtractIn text_of code (segments_of own lines) text count
    → IsExtractIn text_of code (segments_of joined lines) text count
extract_alike text_of code own joined [] text count alike is = is
extract_alike text_of code own joined (line ∷ lines) text count alike is = (
  is.0,
  is.1,
  is.2,
  is.3,
  alike.same line is.0 is.1 is.4,
  is.5 ∙ ap (λ (text : List ℕ). text ++ is.2) (chosen_alike alike line is.0 is.1),
  is.6,
  extract_alike text_of code own joined lines is.2 is.3 alike is.7,
)

pub text_alike : {text_of : TextFormat} {code : List Insn} {own joined : JoinedLines} (line : List ℕ) (fault : WriteFault) (out out' : Writer)
    → ExtractsAlike text_of code own joined → WritesIfChosen text_of code (segment_of own line) (Err fault) out out'
    → WritesIfChosen text_of code (segment_of joined line) (Err fault) out out'
text_alike line fault out out' alike text = (
  text.0,
  text.1,
  alike.same line text.0 text.1 text.2,
  text.3,
  subst (AppendsBeginning out.held out'.held) (chosen_alike alike line text.0 text.1) text.4,
  text.5,
)

-- a row written over a text of the same length: the digits, the tab, the record from `start` on, and the line feed at `end`
module _ (old digits bytes : List ℕ) (start k end : ℕ) (start_is : start ≡ length digits + 1) (k_is : k ≡ length bytes) (end_is : end ≡ start + k)
    (long : length old ≡ end + 1) where
  abbrev with_digits : List ℕ
  with_digits = digits ++ drop (length digits) old

  abbrev with_tab : List ℕ
  with_tab = slice_set with_digits (length digits) 9

  abbrev with_bytes : List ℕ
  with_bytes = put_mid start k with_tab bytes

  length-with_digits : length with_digits ≡ end + 1
  length-with_digits =
      let all = length-append digits (drop (length digits) old) in
      let rest = length-drop (length digits) old in
      omega arith

  length-with_tab : length with_tab ≡ end + 1
  length-with_tab = length-set with_digits (length digits) 9 ∙ length-with_digits

  length-with_bytes : length with_bytes ≡ end + 1
  length-with_bytes =
      let all = length-append (take start with_tab) (bytes ++ drop k (drop start with_tab)) in
      let back = length-append bytes (drop k (drop start with_tab)) in
      let front = length-take-le start with_tab (omega (arith, length-with_tab)) in
      let rest = length-drop k (drop start with_tab) in
      let after = length-drop start with_tab in
      omega (arith, length-with_tab)

  taken-with_tab : take start with_tab ≡ digits ++ 9 ∷ []
  taken-with_tab =
      take-set_at with_digits (length digits) start 9 start_is (omega (arith, length-with_digits))
      ∙ ap (λ (front : List ℕ). front ++ 9 ∷ []) (take-append_seam digits (drop (length digits) old))

  taken-with_bytes : take end with_bytes ≡ (digits ++ 9 ∷ []) ++ bytes
  taken-with_bytes =
      take-put_mid start k with_tab bytes end (omega arith) (omega (arith, length-with_tab))
      ∙ ap (λ (front : List ℕ). front ++ bytes) taken-with_tab

  pub row_put : refill (length old) old (slice_set with_bytes end 10) ≡ digits ++ 9 ∷ bytes ++ 10 ∷ []
  row_put =
      let whole = slice_set with_bytes end 10 in
      let size = length-set with_bytes end 10 ∙ length-with_bytes in
      take-append-le (length old) whole (drop (length whole) old) (omega (arith, size, long))
      ∙ take-set_at with_bytes end (length old) 10 long (omega (arith, length-with_bytes))
      ∙ ap (λ (front : List ℕ). front ++ 10 ∷ []) (taken-with_bytes ∙ append_assoc digits (9 ∷ []) bytes)
