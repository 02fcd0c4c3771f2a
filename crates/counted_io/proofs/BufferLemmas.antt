-- What one look at a reader's buffer takes: the bytes before a line feed, or at most the length that a line may have.
use Rattle.std.proofs.Common.{◌≡◌, ◌≢◌, ℕ, ◌+◌, ◌<◌, ◌≤◌, List, [], ◌∷◌, ◌++◌, length, get_or, take, Option, Some, None, OnSome, sym, ap}
use Rattle.std.proofs.Common.{subst, ◌∙◌, arith, append_assoc, length-append, take-take, length-take-le}
use Rattle.std.proofs.lemmas.Bool.{eq-eqb, eqb-true}
use Rattle.std.proofs.lemmas.List.{get_or-take, take_more}
use Rattle.std.proofs.lemmas.List.Elements.{All-append, All-from_get_or}
use Rattle.std.specs.Io.KnownBytes.{Consumes, IsAtEnd}
use Rattle.memchr.specs.Find.{IsFirstByte, Nowhere, Passes, is_byte}
use Rattle.counted_io.specs.Buffered.{IsBufferRead}
use Rattle.counted_io.specs.Content.{HasNoLineFeed, IsContentRead}
use Rattle.counted_io.specs.ReaderWriter.{Reader}
use Rattle.counted_io.specs.declared.content.Stop.{Stop}
use Rattle.counted_io.specs.declared.content.Stop.TheVariants.{LineFeed, EndOfInput, TooLong, ReadFailed}
use Rattle.counted_io.proofs.ContentLemmas.{IsSoFar, no_more}
use Rattle.counted_io.proofs.KnownBytesLemmas.{Consumes-append}

-- no byte before this place is a line feed
none_before : (shown : List ℕ) (place : ℕ) → place ≤ length shown → Nowhere (Passes (is_byte 10) shown) 0 place
    → HasNoLineFeed (take place shown)
none_before shown place within nowhere =
    All-from_get_or (λ b. b ≢ 10) (take place shown) 0 (λ i inside e.
    let before : i < place = (let long = length-take-le place shown within in omega arith) in
    nowhere i (omega arith) before (eq-eqb (get_or shown i 0) 10 (sym (get_or-take place shown i 0 before) ∙ e)))

-- the first line feed of a front of the buffer
pub record IsAtLineFeed (buffer shown : List ℕ) (place : ℕ) : Type 0 where
  pub inside : place < length shown
  pub before : HasNoLineFeed (take place shown)
  pub taken : take (place + 1) buffer ≡ take place shown ++ 10 ∷ []

pub at_line_feed : (buffer : List ℕ) (count place : ℕ) → count ≤ length buffer → IsFirstByte (is_byte 10) (take count buffer) (Some place)
    → IsAtLineFeed buffer (take count buffer) place
at_line_feed buffer count place within found =
    let long = length-take-le count buffer within in
    let inside : place < length (take count buffer) = found.0.high in
    let byte : get_or (take count buffer) place 0 ≡ 10 = eqb-true (get_or (take count buffer) place 0) 10 found.1 in
    record {
      inside = inside;
      before = none_before (take count buffer) place (omega arith) found.0.before;
      taken = sym (take-take (place + 1) count buffer (omega arith)) ∙ take_more (take count buffer) place 0 inside
          ∙ ap (λ b. take place (take count buffer) ++ b ∷ []) byte;
    }

-- a front of the buffer without a line feed
pub without_line_feed : (shown : List ℕ) → IsFirstByte (is_byte 10) shown None → HasNoLineFeed shown
without_line_feed shown nowhere =
    All-from_get_or (λ b. b ≢ 10) shown 0 (λ i inside e. nowhere i (omega arith) inside (eq-eqb (get_or shown i 0) 10 e))

-- a front of the buffer that was taken completely
pub whole_taken : (old new : Option (List ℕ)) (buffer : List ℕ) (count : ℕ) → count ≤ length buffer
    → Consumes old new (take (length (take count buffer)) buffer) → Consumes old new (take count buffer)
whole_taken old new buffer count within taken =
    subst (λ n. Consumes old new (take n buffer)) (length-take-le count buffer within) taken

-- content plus a new part is short if the length so far and the part's length together are
pub grown_short : (length_so_far : ℕ) (content part new : List ℕ) → length_so_far ≤ length content → length_so_far + length part ≤ 230
    → new ≡ take length_so_far content ++ part → length new ≤ 230
grown_short length_so_far content part new within room is =
    let all = ap length is ∙ length-append (take length_so_far content) part in
    let long = length-take-le length_so_far content within in
    omega arith

-- The same as IsContentRead, except that the end of the input is claimed only if the bytes are known.
abbrev pub IsStopped : List ℕ → Reader → Reader → Stop → Type 0
IsStopped content old new EndOfInput =
    (new.failed ≡ old.failed) × HasNoLineFeed content × (length content ≤ 230) × Consumes old.left new.left content
    × OnSome old.left (IsAtEnd new.left)
IsStopped content old new stop = IsContentRead content old new stop

-- the end of the input was reached, if the bytes were known before
end_known : (old now new : Option (List ℕ)) (content : List ℕ) → Consumes old now content → OnSome now (IsAtEnd new)
    → OnSome old (IsAtEnd new)
end_known None now new content taken end = tt
end_known (Some file) None new content taken end = absurd taken
end_known (Some file) (Some rest) new content taken end = end

-- the content so far extended by a part without a line feed
grown : (content part : List ℕ) → HasNoLineFeed content → HasNoLineFeed part → HasNoLineFeed (content ++ part)
grown content part p q = All-append (λ b. b ≢ 10) content part p q

-- the content so far, and the look at the buffer that ends the line
stopped : (content new_content : List ℕ) (old now new : Reader) (stop : Stop) → IsSoFar content old now
    → IsBufferRead content new_content now new (Some stop) → IsStopped new_content old new stop
stopped content new_content old now new LineFeed so_far read =
    let part = read.1 in
    let all = Consumes-append old.left now.left new.left content (part ++ 10 ∷ []) so_far.taken read.3 in
    let taken : Consumes old.left new.left ((content ++ part) ++ 10 ∷ []) = rw append_assoc all in
    (read.0 ∙ so_far.same, rw (read.2.0) (grown content part so_far.no_line_feed read.2.1), read.2.2, rw (read.2.0) taken)
stopped content new_content old now new EndOfInput so_far read = (
  read.0 ∙ so_far.same,
  rw (read.1) so_far.no_line_feed,
  rw (read.1) so_far.short,
  rw (read.1) (no_more content old.left now.left new.left so_far.taken read.2),
  end_known old.left now.left new.left content so_far.taken read.3,
)
stopped content new_content old now new TooLong so_far read =
    let part = read.1 in (
      read.0 ∙ so_far.same,
      content ++ part,
      grown content part so_far.no_line_feed read.2,
      omega (arith, length-append content part, read.3),
      Consumes-append old.left now.left new.left content part so_far.taken read.4,
    )
stopped content new_content old now new ReadFailed so_far read = (
  λ same. read.0 (same ∙ sym so_far.same),
  rw (read.1) so_far.no_line_feed,
  rw (read.1) so_far.short,
  rw (read.1) (no_more content old.left now.left new.left so_far.taken read.2),
)

-- the same reader with unknown bytes
abbrev pub unknown : Reader → Reader
unknown input = record input { left = None }

without_bytes : (content : List ℕ) (old new : Reader) (stop : Stop) → IsStopped content old new stop
    → IsContentRead content (unknown old) (unknown new) stop
without_bytes content old new EndOfInput read = (read.0, read.1, read.2, tt, tt)
without_bytes content old new TooLong read = (read.0, read.1, read.2, read.3, tt)
without_bytes content old new stop read = (read.0, read.1, read.2, tt)

where_known : (content : List ℕ) (left : Option (List ℕ)) (failed : ℕ) (new : Reader) (stop : Stop)
    → IsStopped content (record { left = left; failed = failed }) new stop
    → OnSome left (IsContentRead content (record { left = left; failed = failed }) new stop)
where_known content None failed new stop read = tt
where_known content (Some file) failed new EndOfInput read = read
where_known content (Some file) failed new stop read = read

-- after the line has stopped: the claim for any reader, and the claim for one whose bytes are known
pub stopped_unknown : (content new_content : List ℕ) (old now new : Reader) (stop : Stop) → IsSoFar content old now
    → IsBufferRead content new_content now new (Some stop) → IsContentRead new_content (unknown old) (unknown new) stop
stopped_unknown content new_content old now new stop so_far read =
    without_bytes new_content old new stop (stopped content new_content old now new stop so_far read)

pub stopped_known : (content new_content : List ℕ) (old now new : Reader) (stop : Stop) → IsSoFar content old now
    → IsBufferRead content new_content now new (Some stop) → OnSome old.left (IsContentRead new_content old new stop)
stopped_known content new_content old now new stop so_far read =
    where_known new_content old.left old.failed new stop (stopped content new_content old now new stop so_far read)
