-- The part of an input that was read, and the complete input.
use Rattle.std.proofs.Common.{◌≡◌, ℕ, List, [], ◌++◌, length, inl, inr, Some, None, Option, ◌∙◌, ap, arith, refl, sym, subst, length-append}
use Rattle.std.specs.Prelude.{unwrap_or}
use Rattle.std.proofs.lemmas.List.{append-nil, take-append-le}
use Rattle.std.specs.Io.KnownBytes.{Consumes, IsAtEnd, Keeps}
use Rattle.counted_io.specs.ReaderWriter.{Reader}
use Rattle.http_message.specs.Reading.{EndsInBody, ReadsNoHead, ReadsBody, ReadsHead, RequestParts, Takes}
use Rattle.http_message.specs.Whole.{HadHead, HadNoHead, HadRequest, HadShortRequest, left_of}
use Rattle.http_message.proofs.TakeLemmas.{Takes-append}
use Rattle.http_message.proofs.HeadLemmas.{HasHead-append}

whole_input : (taken : List ℕ) (old new : Option (List ℕ)) → Consumes old new taken → Keeps old (Some (taken ++ unwrap_or new []))
whole_input taken None new consumed = tt
whole_input taken (Some input) None consumed = absurd consumed
whole_input taken (Some input) (Some left) consumed = sym consumed

nothing_left : (left : Option (List ℕ)) → IsAtEnd left → unwrap_or left [] ≡ []
nothing_left None ended = refl
nothing_left (Some bytes) ended = ended

-- a reader had left the bytes taken, followed by those that it has left now
pub known_whole : (taken : List ℕ) (old new : Reader) → Takes taken old new → Keeps old.left (Some (taken ++ left_of new))
known_whole taken old new takes = whole_input taken old.left new.left takes.consumed

-- at the end of the input, it had left the bytes taken
pub known_at_end : (taken : List ℕ) (old new : Reader) → Takes taken old new → IsAtEnd new.left → Keeps old.left (Some taken)
known_at_end taken old new takes ended =
    let all : taken ++ left_of new ≡ taken = ap (λ (left : List ℕ). taken ++ left) (nothing_left new.left ended) ∙ append-nil taken in
    subst (λ (input : List ℕ). Keeps old.left (Some input)) all (known_whole taken old new takes)

-- a head was read
pub had_head : (request : RequestParts) (old new : Reader) → ReadsHead request old new
    → HadHead request.head (request.after_head ++ left_of new) old
had_head request old new read = record {
  input = read.taken ++ left_of new;
  known = known_whole read.taken old new read.takes;
  has = HasHead-append read.taken (left_of new) request.head request.after_head read.has;
}

-- no head could be read
pub had_no_head : (old new : Reader) → ReadsNoHead old new → HadNoHead old
had_no_head old new reads = elim reads.no_head [
  | inl never ↦ record {
    input = reads.taken ++ left_of new;
    known = known_whole reads.taken old new reads.takes;
    has_none = never (left_of new);
  }
  | inr none ↦ record {
    input = reads.taken;
    known = known_at_end reads.taken old new reads.takes none.0;
    has_none = none.1;
  }
]

-- a head was read, then bytes after it
had_more : (request : RequestParts) (taken : List ℕ) (old now new : Reader) → ReadsHead request old now → Takes taken now new
    → HadHead request.head (request.after_head ++ taken ++ left_of new) old
had_more request taken old now new read takes = record {
  input = read.taken ++ taken ++ left_of new;
  known = known_whole (read.taken ++ taken) old new (Takes-append read.taken taken old now new read.takes takes);
  has = HasHead-append (read.taken ++ taken) (left_of new) request.head (request.after_head ++ taken)
      (HasHead-append read.taken taken request.head request.after_head read.has);
}

-- a head was read, then the body
pub had_request : (request : RequestParts) (count : ℕ) (body : List ℕ) (old now new : Reader) → ReadsHead request old now
    → ReadsBody request.after_head count body now new → HadRequest request.head count body old
had_request request count body old now new read body_read =
    let there = request.after_head ++ body_read.taken in
    record {
      rest = there ++ left_of new;
      had = had_more request body_read.taken old now new read body_read.takes;
      whole = omega (arith, body_read.whole, length-append there (left_of new));
      is_body = body_read.is_body ∙ sym (take-append-le count there (left_of new) body_read.whole);
    }

-- a head was read, and the input ended within the body
pub had_short_request : (request : RequestParts) (count : ℕ) (old now new : Reader) → ReadsHead request old now
    → EndsInBody request.after_head count now new → HadShortRequest request.head count old
had_short_request request count old now new read ends =
    let there = request.after_head ++ ends.taken in
    let none = nothing_left new.left ends.ended in
    record {
      rest = there ++ left_of new;
      had = had_more request ends.taken old now new read ends.takes;
      short = omega (arith, ends.short, length-append there (left_of new), ap length none);
    }
