-- Reading a county's file line by line, for readers with known and with unknown bytes.
use Rattle.std.proofs.Common.{◌≡◌, ◌≢◌, ℕ, ◌+◌, ◌<◌, ◌≤◌, ◌^◌, Bool, true, false, ◌==◌, if◌then◌else◌, inl, inr, List, [], ◌∷◌, ◌++◌}
use Rattle.std.proofs.Common.{length, slice_index, Option, Some, None, is_some, IsSome, IfSome, Ok, Err, refl, sym, ap, ◌∙◌, subst, length-append}
use Rattle.std.proofs.Common.{arith}
use Rattle.std.proofs.lemmas.Bool.Decides.{nat_tests}
use Rattle.std.proofs.lemmas.List.Elements.{All-nil, All-head, All-tail, All-push}
use Rattle.counted_io.specs.Content.{HasNoLineFeed}
use Rattle.counted_io.specs.ReaderWriter.{Reader}
use Rattle.tl_fields.specs.Number.{number_of}
use Rattle.tl_records.specs.Layout.{field_at}
use Rattle.tl_records.specs.Lines.{LineParts, IsEnded, by_lf, by_cr_lf, missing, IsFirstLine, AreFirstLines, AreLines, IfKnown}
use Rattle.tl_records.specs.Lines.{IsNextLine, BeginsTooLong, FailsWithin, max_bytes, HasOneMoreByte, IsLineRead, IsUnreadableLine}
use Rattle.tl_records.specs.Records.{IsValidLine, IsLineFault, line_fault_kind, sequence_fault}
use Rattle.tl_records.specs.declared.fault.LineFault.{LineFault}
use Rattle.tl_records.specs.declared.fault.LineFaultKind.{LineFaultKind}
use Rattle.tl_records.specs.declared.fault.LineFaultKind.TheVariants.{BadSequence, WrongLength, WrongType, Read, TooManyLines}
use Rattle.tl_records.specs.declared.layout.Layout.{Layout}
use Rattle.tl_records.specs.declared.layout.Places.{Places}
use Rattle.tl_records.proofs.LineLemmas.{cr_lf, has_first_line}
use Rattle.tl_segments.specs.CountyFile.{layout}
use Rattle.tl_segments.specs.Indexing.{ReadsValidLine, IsNextFault}
use Rattle.tl_segments.specs.Joining.{IsWithinLimits}
use Rattle.tl_segments.specs.Loading.{ReadsFile, ReadsLines, HasMoreAfter, HasFaultAfter, FailsAfter, IsRecordFault, IsFaultAfter, IsFirstFault}
use Rattle.tl_segments.specs.Loading.{IsFileFault, IsFirstRepeat, IsFirstToBreak, IsOneTooMany}
use Rattle.tl_segments.specs.Adding.{ExceedsLimits, IsValidNext, IsLineAdded, RepeatsSequence}
use Rattle.tl_segments.specs.Shape.{HasDistinctSequences}
use Rattle.tl_segments.specs.declared.fault.CountyFile.{CountyFile}
use Rattle.tl_segments.specs.declared.fault.CountyFile.TheVariants.{Rt1, Rt2, Rt4, Rt6}
use Rattle.tl_segments.specs.declared.fault.LoadFault.{LoadFault}
use Rattle.tl_segments.specs.declared.fault.LoadFault.TheVariants.{Line, TooManyNames, TooManyRanges, RepeatedSequence, TooManyPoints, Memory}

-- what two consecutive calls say about known bytes
module _ (P Q : List ℕ → List ℕ → Type 0) where
  -- says this about the bytes before both
  known_then : (bytes now left : Option (List ℕ)) (R : List ℕ → Type 0)
      → ((file mid rest : List ℕ) → P file mid → Q mid rest → R file) → IfKnown bytes now P × IfKnown now left Q → IfSome bytes R
  known_then None now left R f both = tt
  known_then (Some file) None left R f both = absurd both.0
  known_then (Some file) (Some mid) None R f both = absurd both.1
  known_then (Some file) (Some mid) (Some rest) R f both = f file mid rest both.0 both.1

  -- says this about both together
  known_both : (bytes now left : Option (List ℕ)) (R : List ℕ → List ℕ → Type 0)
      → ((file mid rest : List ℕ) → P file mid → Q mid rest → R file rest) → IfKnown bytes now P × IfKnown now left Q
      → IfKnown bytes left R
  known_both None now left R f both = tt
  known_both (Some file) None left R f both = absurd both.0
  known_both (Some file) (Some mid) None R f both = absurd both.1
  known_both (Some file) (Some mid) (Some rest) R f both = f file mid rest both.0 both.1

-- one more first line
pub AreFirstLines-push : (lines : List (List ℕ)) (file mid line rest : List ℕ) → AreFirstLines file lines mid → IsFirstLine mid line rest
    → AreFirstLines file (lines ++ line ∷ []) rest
AreFirstLines-push [] file mid line rest a first = (rest, subst (λ file. IsFirstLine file line rest) (sym a) first, refl)
AreFirstLines-push (l ∷ lines) file mid line rest a first =
    (a.0, a.1, AreFirstLines-push lines a.0 mid line rest a.2 first)

-- bytes without a line feed end no later than the first line feed
no_feed-short : (taken rest front after : List ℕ) → HasNoLineFeed taken → taken ++ rest ≡ front ++ 10 ∷ after → length taken ≤ length front
no_feed-short [] rest front after p e = omega arith
no_feed-short (b ∷ taken) rest [] after p e = absurd (All-head (λ b. b ≢ 10) b taken p (cc))
no_feed-short (b ∷ taken) rest (c ∷ front) after p e =
    let shorter = no_feed-short taken rest front after (All-tail (λ b. b ≢ 10) b taken p) (cc) in omega arith

long_line : {file line rest : List ℕ} (taken after : List ℕ) → HasNoLineFeed taken → file ≡ taken ++ after → length taken ≡ 231
    → IsEnded file line rest → 230 ≤ length line
long_line {line} {rest} taken after p e long (by_lf f n) =
    let fits = no_feed-short taken after line rest p (sym e ∙ f) in omega arith
long_line {line} {rest} taken after p e long (by_cr_lf f) =
    let cut = no_feed-short taken after (line ++ 13 ∷ []) rest p (sym e ∙ f ∙ cr_lf line rest) in
    omega (arith, length-append line (13 ∷ []))
long_line taken after p e long (missing f g n) =
    omega (arith, length-append taken after, ap length (sym f ∙ e))

-- the lines of each record type are shorter than the longest content
layout_short : (file : CountyFile) → (layout file).length < 230
layout_short Rt1 = omega arith
layout_short otherwise = omega arith

wrong_length_of : (row : Layout) (line : List ℕ) → row.length < 230 → 230 ≤ length line → line_fault_kind row line ≡ Some WrongLength
wrong_length_of row line short long = grind (arith, nat_tests)

pub wrong_length : (file : CountyFile) (line : List ℕ) → 230 ≤ length line → line_fault_kind (layout file) line ≡ Some WrongLength
wrong_length file line long = wrong_length_of (layout file) line (layout_short file) long

sequence_fault_by : (flaw : LineFaultKind) (numbered : Bool) → (if numbered then None else Some BadSequence) ≡ Some flaw → flaw ≡ BadSequence
sequence_fault_by flaw true e = absurd (cc)
sequence_fault_by flaw false e = cc

-- a line without a sequence number is one that must have it
of_sequence : (sequence : Option Places) (line : List ℕ) (flaw : LineFaultKind) → sequence_fault sequence line ≡ Some flaw
    → IsSome sequence × (flaw ≡ BadSequence)
of_sequence None line flaw e = absurd (cc)
of_sequence (Some places) line flaw e = (refl, sequence_fault_by flaw (is_some (number_of (field_at places line))) e)

record_fault_by : (file : CountyFile) (line : List ℕ) (flaw : LineFaultKind) (long typed numbered : Bool)
    → (if long then (if typed then (if numbered then sequence_fault (layout file).sequence line else Some (layout file).without_number)
    else Some WrongType) else Some WrongLength) ≡ Some flaw → IsRecordFault file flaw
record_fault_by file line flaw true true true e = inr (inr (inr (of_sequence (layout file).sequence line flaw e)))
record_fault_by file line flaw true true false e = inr (inr (inl (cc)))
record_fault_by file line flaw true false numbered e = inr (inl (cc))
record_fault_by file line flaw false typed numbered e = inl (cc)

-- the flaw of a line is one that its file's lines may have
record_fault : (file : CountyFile) (line : List ℕ) (flaw : LineFaultKind) → line_fault_kind (layout file) line ≡ Some flaw → IsRecordFault file flaw
record_fault file line flaw e =
    record_fault_by file line flaw (length line == (layout file).length) (slice_index line 0 == (layout file).tag)
    (is_some (number_of (field_at (layout file).number line))) e

-- such a flaw is neither a failed read nor a line that is too many
of_its_own : (file : CountyFile) (flaw : LineFaultKind) → IsRecordFault file flaw → (flaw ≢ Read) × (flaw ≢ TooManyLines)
of_its_own file flaw (inl e) = (λ read. cc, λ more. cc)
of_its_own file flaw (inr (inl e)) = (λ read. cc, λ more. cc)
of_its_own Rt1 flaw (inr (inr (inl e))) = (λ read. cc, λ more. cc)
of_its_own otherwise flaw (inr (inr (inl e))) = (λ read. cc, λ more. cc)
of_its_own file flaw (inr (inr (inr e))) = (λ read. cc, λ more. cc)

not_empty : (file taken rest : List ℕ) → file ≡ taken ++ rest → length taken ≡ 231 → file ≢ []
not_empty file taken rest e long none = omega (arith, length-append taken rest, ap length (sym none ∙ e))

-- if the bytes after these lines begin with 231 bytes without a line feed, the next line is too long for its type
pub too_long_after : (file : CountyFile) (bytes mid rest : List ℕ) (lines : List (List ℕ)) → AreFirstLines bytes lines mid
    → BeginsTooLong mid rest → HasFaultAfter file WrongLength lines bytes rest
too_long_after file bytes mid rest lines before (taken, e, p, long) =
    let first = has_first_line mid (not_empty mid taken rest e long) in
    record {
      after = mid;
      line = first.line;
      rest = first.rest;
      before = before;
      first = first.first;
      faulty = wrong_length file first.line (long_line taken rest p e long first.first.ended);
      leftover = inr (taken, e, p, long);
    }

-- these lines were read so far, and the last one is this line
pub record IsReadSoFar (file : CountyFile) (lines : List (List ℕ)) (line : LineParts) (old new : Reader) : Type 0 where
  pub reads : ReadsLines file lines old new
  pub counted : line.number ≡ length lines
  pub small : line.number < 2 ^ 32

-- the same for lines that a table holds
pub record HoldsSoFar (file : CountyFile) (holds : List (List ℕ) → Type 0) (line : LineParts) (old new : Reader) : Type 0 where
  pub lines : List (List ℕ)
  pub held : holds lines
  pub read : IsReadSoFar file lines line old new

known_start : (bytes : Option (List ℕ)) → IfKnown bytes bytes (λ bytes rest. AreFirstLines bytes [] rest)
known_start None = tt
known_start (Some file) = refl

-- an empty list of lines is within the limits
none_exceeds : (file : CountyFile) → IsWithinLimits file []
none_exceeds Rt2 = λ number. omega arith
none_exceeds Rt4 = λ number. omega arith
none_exceeds Rt6 = λ number. omega arith
none_exceeds otherwise = tt

-- and has no repeated sequence number
none_repeats : (file : CountyFile) → HasDistinctSequences file []
none_repeats Rt2 = λ tlid sequence. omega arith
none_repeats otherwise = tt

pub none_read : (file : CountyFile) (line : LineParts) (input : Reader) → line.number ≡ 0 → IsReadSoFar file [] line input input
none_read file line input zeroth = record {
  reads = record {
    good = record { good = All-nil (IsValidLine (layout file)); within = none_exceeds file; distinct = none_repeats file };
    known = known_start input.left;
    reads = refl;
  };
  counted = zeroth;
  small = omega arith;
}

module _ {file : CountyFile} {lines : List (List ℕ)} {line : LineParts} {old now : Reader} (read : IsReadSoFar file lines line old now)
    (new_line : LineParts) (new : Reader) where
  -- what the bytes after these lines satisfy implies this about all bytes
  known_after : (Q R : List ℕ → List ℕ → Type 0)
      → ((file mid rest : List ℕ) → AreFirstLines file lines mid → Q mid rest → R file rest) → IfKnown now.left new.left Q
      → IfKnown old.left new.left R
  known_after Q R joined known =
      known_both (λ bytes rest. AreFirstLines bytes lines rest) Q old.left now.left new.left R joined (read.reads.known, known)

  -- one more good line
  pub one_line_more : IsLineRead line new_line now new (Ok (Some tt)) → IsValidNext file lines new_line
      → IsReadSoFar file (lines ++ new_line.bytes ∷ []) new_line old new
  one_line_more next good = record {
    reads = record {
      good = record {
        good = All-push (IsValidLine (layout file)) lines new_line.bytes read.reads.good.good good.good;
        within = good.within;
        distinct = good.distinct;
      };
      known =
          known_after (IsNextLine new_line.bytes) (λ bytes rest. AreFirstLines bytes (lines ++ new_line.bytes ∷ []) rest)
          (λ bytes mid rest a b. AreFirstLines-push lines bytes mid new_line.bytes rest a b.0) next.3;
      reads = next.0 ∙ read.reads.reads;
    };
    counted = omega (arith, next.2, read.counted, length-append lines (new_line.bytes ∷ []));
    small = omega (arith, next.1, next.2);
  }

  -- the input ended
  pub all_read : IsLineRead line new_line now new (Ok None) → ReadsFile file lines old new
  all_read next = record {
    good = read.reads.good;
    few = omega (arith, read.counted, read.small);
    known =
        known_then (λ bytes rest. AreFirstLines bytes lines rest) (λ bytes rest. bytes ≡ []) old.left now.left new.left
        (λ bytes. AreLines bytes lines) (λ bytes mid rest a b. subst (λ rest. AreFirstLines bytes lines rest) b a)
        (read.reads.known, next.3);
    at_end = next.2;
    reads = next.0 ∙ read.reads.reads;
  }

  -- a line with a flaw
  flaw_after : (flaw : LineFaultKind) (number : ℕ) → IsLineRead line new_line now new (Ok (Some tt))
      → number ≡ new_line.number → line_fault_kind (layout file) new_line.bytes ≡ Some flaw → (number < 2 ^ 32) × IsRecordFault file flaw
      × IfKnown old.left new.left (HasFaultAfter file flaw lines) × (new.failed ≡ old.failed)
  flaw_after flaw number next at faulty = (
    omega (arith, at, next.1, next.2),
    record_fault file new_line.bytes flaw faulty,
    known_after (IsNextLine new_line.bytes) (HasFaultAfter file flaw lines) (λ bytes mid rest a b. record {
      after = mid;
      line = new_line.bytes;
      rest = rest;
      before = a;
      first = b.0;
      faulty = faulty;
      leftover = inl (refl, b.2);
    }) next.3,
    next.0 ∙ read.reads.reads,
  )

  fault_follows : (flaw : LineFaultKind) (number : ℕ) → IsLineRead line new_line now new (Ok (Some tt))
      → number ≡ new_line.number → line_fault_kind (layout file) new_line.bytes ≡ Some flaw → IsFaultAfter file flaw number lines old new
  fault_follows Read number next at faulty = absurd ((of_its_own file Read (record_fault file new_line.bytes Read faulty)).0 refl)
  fault_follows TooManyLines number next at faulty =
      absurd ((of_its_own file TooManyLines (record_fault file new_line.bytes TooManyLines faulty)).1 refl)
  fault_follows flaw number next at faulty = flaw_after flaw number next at faulty

  pub at_record_fault : (fault : LineFault) → IsLineRead line new_line now new (Ok (Some tt))
      → IsLineFault (layout file) new_line fault → IsFirstFault file fault lines old new
  at_record_fault fault next faulty = record {
    good = read.reads.good;
    counted = omega (arith, faulty.0, next.2, read.counted);
    follows = fault_follows fault.flaw fault.line next faulty.0 faulty.1;
  }

  -- a line with which the lines break a rule
  at_break : (Breaks : List (List ℕ) → Type 0) (number : ℕ) → IsLineRead line new_line now new (Ok (Some tt)) → number ≡ new_line.number
      → IsValidLine (layout file) new_line.bytes → Breaks (lines ++ new_line.bytes ∷ []) → IsFirstToBreak file Breaks number old new
  at_break Breaks number next at good breaks = record {
    lines = lines;
    line = new_line.bytes;
    good = read.reads.good;
    line_good = good;
    breaks = breaks;
    counted = omega (arith, at, next.2, read.counted);
    small = omega (arith, at, next.1, next.2);
    known =
        known_after (IsNextLine new_line.bytes) (λ bytes rest. AreFirstLines bytes (lines ++ new_line.bytes ∷ []) rest)
        (λ bytes mid rest a b. AreFirstLines-push lines bytes mid new_line.bytes rest a b.0) next.3;
    reads = next.0 ∙ read.reads.reads;
  }

  at_excess : (number : ℕ) → IsLineRead line new_line now new (Ok (Some tt)) → number ≡ new_line.number
      → ExceedsLimits file lines new_line → IsOneTooMany file number old new
  at_excess number next at exceeds = at_break (λ lines. ¬ IsWithinLimits file lines) number next at exceeds.good exceeds.exceeds

  at_repeat : (number : ℕ) → IsLineRead line new_line now new (Ok (Some tt)) → number ≡ new_line.number
      → RepeatsSequence file lines new_line → IsFirstRepeat file number old new
  at_repeat number next at repeats =
      at_break (λ lines. IsWithinLimits file lines × ¬ HasDistinctSequences file lines) number next at repeats.good
      (repeats.within, repeats.repeats)

  -- a line that is refused
  pub not_added : (holds : List (List ℕ) → Type 0) (fault : LoadFault) → IsLineRead line new_line now new (Ok (Some tt))
      → IsLineAdded file lines new_line (Err fault) holds → IsFileFault file fault old new
  not_added holds (Line of_file fault) next taken = (taken.0, lines, at_record_fault fault next taken.1)
  not_added holds (TooManyNames number) next taken = (taken.0, at_excess number next taken.1 taken.2)
  not_added holds (TooManyRanges number) next taken = (taken.0, at_excess number next taken.1 taken.2)
  not_added holds (RepeatedSequence number) next taken = (taken.0, at_repeat number next taken.1 taken.2)
  not_added holds (TooManyPoints number) next taken = (taken.0, at_excess number next taken.1 taken.2)
  not_added holds Memory next taken = next.0 ∙ read.reads.reads

  -- a line that couldn't be read
  unreadable_follows : (flaw : LineFaultKind) (number : ℕ) → number ≡ line.number + 1 → IsUnreadableLine line.number flaw now new
      → IsFaultAfter file flaw number lines old new
  unreadable_follows WrongLength number at unread = (
    omega (arith, at, unread.1),
    inl refl,
    known_after BeginsTooLong (HasFaultAfter file WrongLength lines)
        (λ bytes mid rest a b. too_long_after file bytes mid rest lines a b) unread.2,
    unread.0 ∙ read.reads.reads,
  )
  unreadable_follows Read number at unread = (
    omega (arith, at, read.small),
    known_after (FailsWithin (max_bytes line.number)) (FailsAfter lines)
        (λ bytes mid rest a b. (mid, a, subst (λ (n : ℕ). FailsWithin (max_bytes n) mid rest) read.counted b)) unread.1,
    λ e. unread.0 (e ∙ sym read.reads.reads),
  )
  unreadable_follows TooManyLines number at unread = (
    omega (arith, at, unread.1),
    known_after HasOneMoreByte (HasMoreAfter lines) (λ bytes mid rest a b. (mid, a, b)) unread.2,
    unread.0 ∙ read.reads.reads,
  )
  unreadable_follows flaw number at unread = absurd unread

  pub at_fault : (fault : LineFault) → IsLineRead line new_line now new (Err fault) → IsFirstFault file fault lines old new
  at_fault fault next = record {
    good = read.reads.good;
    counted = omega (arith, next.1, read.counted);
    follows = unreadable_follows fault.flaw fault.line next.1 next.2;
  }

module _ {lines : List (List ℕ)} {line : LineParts} {old now : Reader} (read : IsReadSoFar Rt1 lines line old now) (new_line : LineParts)
    (new : Reader) where
  -- one more good line of type 1
  pub good_line_more : ReadsValidLine line new_line now new → IsReadSoFar Rt1 (lines ++ new_line.bytes ∷ []) new_line old new
  good_line_more next = one_line_more read new_line new next.0 (record { good = next.1; within = tt; distinct = tt })

  -- the next line has a fault
  pub at_next_fault : (fault : LineFault) → IsNextFault fault line new_line now new → IsFirstFault Rt1 fault lines old new
  at_next_fault fault (inl next) = at_fault read new_line new fault next
  at_next_fault fault (inr (next, faulty)) = at_record_fault read new_line new fault next faulty
