-- What is known about a head during the search for its end.
use Rattle.std.proofs.Common.{◌≡◌, ◌≢◌, ℕ, ◌+◌, ◌<◌, ◌≤◌, List, [], ◌++◌, length, take, drop, ◌∙◌, ap, arith, refl, sym, inl}
use Rattle.std.proofs.lemmas.List.{append-nil, take-append-le, take_at, take-append-drop, length-take-le}
use Rattle.std.proofs.Math.Seq.{take-append-add}
use Rattle.std.specs.Io.KnownBytes.{Keeps}
use borrow.Rule.Slice.PartMut.{put_mid, post_of}
use Rattle.httparse.specs.Grammar.{HasNoRequest, MayBecomeRequest, print_request}
use Rattle.httparse.specs.Spans.{RequestOverflows}
use Rattle.counted_io.specs.ReaderWriter.{Reader}
use Rattle.counted_io.proofs.KnownBytesLemmas.{Consumes-append, Consumes-from_keeps}
use Rattle.http_message.specs.Head.{HasNoHead}
use Rattle.http_message.proofs.HeadLemmas.{empty-HasNoRequest, empty-MayBecomeRequest}
use Rattle.http_message.proofs.TakeLemmas.{Takes-append, Takes-refl}
use Rattle.http_message.specs.Reading.{Takes, FailsInHead, ReadsNoHead}

-- the bytes read so far, which hold no complete head
pub record HasReadSoFar (bytes : List ℕ) (count : ℕ) (old new : Reader) : Type 0 where
  pub inside : count ≤ length bytes
  pub takes : Takes (take count bytes) old new
  pub none : HasNoRequest (take count bytes)
  pub unfinished : MayBecomeRequest (take count bytes)

-- before the first read
pub nothing_read : (bytes : List ℕ) (input : Reader) → HasReadSoFar bytes 0 input input
nothing_read bytes input = record {
  inside = omega arith;
  takes = Takes-refl input;
  none = empty-HasNoRequest;
  unfinished = empty-MayBecomeRequest;
}

-- the new bytes come from the read
take-put_mid_read : (bytes piece : List ℕ) (count room read : ℕ) → count ≤ length bytes → read ≤ length piece
    → take (count + read) (put_mid count room bytes piece) ≡ take count bytes ++ take read piece
take-put_mid_read bytes piece count room read inside fits =
    let front : length (take count bytes) ≡ count = length-take-le count bytes inside in
    let rest = post_of count room bytes in
    ap (λ (n : ℕ). take (n + read) (take count bytes ++ (piece ++ rest))) (sym front)
    ∙ take-append-add (take count bytes) (piece ++ rest) read ∙ ap (λ (xs : List ℕ). take count bytes ++ xs)
    (take-append-le read piece rest fits)

-- one more read
pub takes_more : {bytes : List ℕ} (piece : List ℕ) {count : ℕ} (room read : ℕ) {old now new : Reader} → HasReadSoFar bytes count old now
    → read ≤ length piece → Takes (take read piece) now new → Takes (take (count + read) (put_mid count room bytes piece)) old new
takes_more {bytes} piece {count} room read so_far fits takes =
    rw (take-put_mid_read bytes piece count room read so_far.inside fits) (
    Takes-append (take count bytes) (take read piece) _ _ _ so_far.takes takes
    )

-- bytes that hold no request hold no head
HasNoHead-from_request : (bytes : List ℕ) → HasNoRequest bytes → HasNoHead bytes
HasNoHead-from_request bytes none head rest has = none has.tree rest has.reads

-- bytes with too many headers hold no head, whatever follows
HasNoHead-from_overflows : (bytes : List ℕ) → RequestOverflows 64 bytes → (more : List ℕ) → HasNoHead (bytes ++ more)
HasNoHead-from_overflows bytes many more head rest has = absurd (omega (arith, many more has.tree rest has.reads, has.few))

-- if two concatenations are equal, the shorter first part begins the longer one
front-append : (xs ys us vs : List ℕ) → length us ≤ length xs → xs ++ ys ≡ us ++ vs → xs ≡ us ++ drop (length us) xs
front-append xs ys us vs short same =
    let same_front : take (length us) xs ≡ us = sym (take-append-le (length us) xs ys short) ∙ ap (take (length us)) same
    ∙ take_at us vs (length us) refl in
    sym (take-append-drop (length us) xs) ∙ ap (λ (front : List ℕ). front ++ drop (length us) xs) same_front

-- the greatest number of bytes of a head, and no head in them: no bytes that follow complete one
HasNoHead-from_full : (bytes : List ℕ) → length bytes ≡ 8192 → HasNoRequest bytes → (more : List ℕ) → HasNoHead (bytes ++ more)
HasNoHead-from_full bytes full none more head rest has =
    none has.tree _ (has.reads.0, front-append bytes more (print_request has.tree) rest (omega (arith, has.short)) has.reads.1)

-- the parser refused the bytes read
pub no_head_by_refusal : (bytes : List ℕ) (count : ℕ) {old new : Reader} → Takes (take count bytes) old new → count ≤ length bytes → 0 < count
    → length bytes ≡ 8192 → RequestOverflows 64 (take count bytes) → ReadsNoHead old new
no_head_by_refusal bytes count takes inside some full many = record {
  taken = take count bytes;
  takes = takes;
  some = omega (arith, length-take-le count bytes inside);
  no_head = inl (HasNoHead-from_overflows (take count bytes) many);
  room = omega (arith, length-take-le count bytes inside);
}

-- there is no room for another byte
pub no_head_by_limit : (bytes : List ℕ) (count : ℕ) (old new : Reader) → length bytes ≡ 8192 → length bytes ≤ count
    → HasReadSoFar bytes count old new → ReadsNoHead old new
no_head_by_limit bytes count old new full past so_far = record {
  taken = take count bytes;
  takes = so_far.takes;
  some = omega (arith, length-take-le count bytes so_far.inside, so_far.inside);
  no_head = inl (HasNoHead-from_full (take count bytes) (omega (arith, length-take-le count bytes so_far.inside, so_far.inside)) so_far.none);
  room = omega (arith, length-take-le count bytes so_far.inside, so_far.inside);
}

-- a read failed, and it took no byte
pub fails : {bytes : List ℕ} {count : ℕ} {old now new : Reader} → length bytes ≡ 8192 → count < length bytes
    → HasReadSoFar bytes count old now → Keeps now.left new.left → new.failed ≢ now.failed → FailsInHead old new
fails {bytes} {count} full inside so_far keeps failed = record {
  taken = take count bytes;
  fails = record {
    consumed = rw append-nil at (Consumes-append _ _ _ (take count bytes) [] so_far.takes.consumed
        (Consumes-from_keeps _ _ keeps));
    failed = λ same. failed (same ∙ sym so_far.takes.failed);
  };
  part = HasNoHead-from_request (take count bytes) so_far.none;
  unfinished = so_far.unfinished;
  room = omega (arith, length-take-le count bytes so_far.inside);
}
