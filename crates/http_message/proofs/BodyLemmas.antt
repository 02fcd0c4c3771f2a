-- What is known about a body while it's read.
use Rattle.std.proofs.Common.{◌≡◌, ◌≢◌, ℕ, ◌+◌, ◌<◌, ◌≤◌, List, [], ◌++◌, length, take, min, inl, inr, ◌∙◌, ap, arith, refl, sym}
use Rattle.std.proofs.Common.{append_assoc, length-append}
use Rattle.std.proofs.lemmas.List.{append-nil, length-take, length-take-le, nil_from_length, take_all, take_min}
use Rattle.std.proofs.lemmas.Bool.{cases_lt}
use Rattle.std.specs.Io.KnownBytes.{IsAtEnd, Keeps}
use Rattle.counted_io.specs.ReaderWriter.{Reader}
use Rattle.counted_io.proofs.KnownBytesLemmas.{Consumes-append, Consumes-from_keeps}
use Rattle.http_message.proofs.TakeLemmas.{Takes-append, Takes-refl}
use Rattle.http_message.specs.Reading.{EndsInBody, FailsInBody, OutOfMemoryInBody, ReadsBody, Takes}

-- the body so far: the first bytes after the head, then the bytes taken
pub record IsBodySoFar (after_head : List ℕ) (count : ℕ) (body : List ℕ) (old new : Reader) : Type 0 where
  pub taken : List ℕ
  pub takes : Takes taken old new
  pub is_body : body ≡ take count after_head ++ taken
  pub within : length body ≤ count

-- before the first read
pub body_begins : {after_head front : List ℕ} {count room : ℕ} {body : List ℕ} {input : Reader} → body ≡ front ++ take room after_head → front ≡ []
    → room ≡ min count (length after_head) → IsBodySoFar after_head count body input input
body_begins {after_head} {count} {room} {body} {input} is nothing least =
    let same : body ≡ take (min count (length after_head)) after_head = is ∙ ap (λ (xs : List ℕ). xs ++ take room after_head) nothing ∙ ap
    (λ (n : ℕ). take n after_head) least in
    record {
      taken = [];
      takes = Takes-refl input;
      is_body = same ∙ take_min count after_head ∙ sym (append-nil (take count after_head));
      within = omega (arith, ap length same, length-take (min count (length after_head)) after_head);
    }

-- the number of bytes of an incomplete body
so_far-length : (after_head : List ℕ) (count : ℕ) (body : List ℕ) (old new : Reader) → (so_far : IsBodySoFar after_head count body old new)
    → length body < count → length body ≡ length after_head + length so_far.taken
so_far-length after_head count body old new so_far short =
    omega (arith, ap length so_far.is_body, length-append (take count after_head) so_far.taken, length-take count after_head)

-- one more piece, with the bytes that a read returned
pub body_more : {after_head : List ℕ} {count : ℕ} {body more : List ℕ} (piece : List ℕ) {old now new : Reader}
    → IsBodySoFar after_head count body old now → Takes piece now new → more ≡ body ++ piece → length body + length piece ≤ count
    → IsBodySoFar after_head count more old new
body_more {after_head} {count} {body} piece so_far takes is fits = record {
  taken = so_far.taken ++ piece;
  takes = Takes-append so_far.taken piece _ _ _ so_far.takes takes;
  is_body = is ∙ ap (λ (xs : List ℕ). xs ++ piece) so_far.is_body ∙ append_assoc (take count after_head) so_far.taken piece;
  within = omega (arith, ap length is, length-append body piece);
}

-- the input ended
pub body_ends : {after_head : List ℕ} {count : ℕ} {body : List ℕ} (piece : List ℕ) {old now new : Reader}
    → IsBodySoFar after_head count body old now → length body < count → Takes piece now new → piece ≡ [] → IsAtEnd new.left
    → EndsInBody after_head count old new
body_ends {after_head} piece so_far short takes none ended = record {
  taken = so_far.taken ++ piece;
  takes = Takes-append so_far.taken piece _ _ _ so_far.takes takes;
  ended = ended;
  short = rw (none, append-nil) (omega (arith, length-append after_head so_far.taken, so_far-length _ _ _ _ _ so_far short));
}

-- a read failed
pub body_fails : {after_head : List ℕ} {count : ℕ} {body : List ℕ} {old now new : Reader} → IsBodySoFar after_head count body old now
    → length body < count → Keeps now.left new.left → new.failed ≢ now.failed → FailsInBody after_head count old new
body_fails {after_head} so_far short keeps failed = record {
  taken = so_far.taken ++ [];
  fails = record {
    consumed = Consumes-append _ _ _ so_far.taken [] so_far.takes.consumed (Consumes-from_keeps _ _ keeps);
    failed = λ same. failed (same ∙ sym so_far.takes.failed);
  };
  short = rw append-nil (omega (arith, length-append after_head so_far.taken, so_far-length _ _ _ _ _ so_far short));
}

-- an allocation failed for a piece
pub body_out_of_memory : {after_head : List ℕ} {count : ℕ} {body : List ℕ} (piece : List ℕ) {old now new : Reader}
    → IsBodySoFar after_head count body old now → length body < count → Takes piece now new → 0 < length piece
    → length body + length piece ≤ count → OutOfMemoryInBody after_head count old new
body_out_of_memory {after_head} piece so_far short takes some fits = record {
  taken = so_far.taken ++ piece;
  takes = Takes-append so_far.taken piece _ _ _ so_far.takes takes;
  within = omega (arith, length-append so_far.taken piece, so_far-length _ _ _ _ _ so_far short);
  nonempty = omega arith;
  received = (
      let all = length-append after_head (so_far.taken ++ piece) in let last = length-append so_far.taken piece in omega (arith, some));
}

-- bytes that fit are the first of all bytes
take_front : (after_head taken : List ℕ) (count : ℕ) → length (take count after_head) + length taken ≤ count
    → take count after_head ++ taken ≡ take count (after_head ++ taken)
take_front after_head taken count fits = elim (cases_lt count (length after_head)) [
  | inl more ↦
      let none : taken ≡ [] = nil_from_length taken (omega (arith, length-take-le count after_head)) in
      rw (none, append-nil, append-nil) refl
  | inr all ↦
      let whole : take count after_head ≡ after_head = take_all count after_head all in
      rw whole (sym (take_all count (after_head ++ taken) (omega (arith, length-append after_head taken, ap length whole))))
]

-- the body is complete
pub body_whole : (after_head : List ℕ) (count : ℕ) (body : List ℕ) (old new : Reader) → IsBodySoFar after_head count body old new
    → count ≤ length body → ReadsBody after_head count body old new
body_whole after_head count body old new so_far whole =
    let front = take count after_head in
    let len : length body ≡ length front + length so_far.taken =
    omega (arith, ap length so_far.is_body, length-append front so_far.taken) in
    record {
      taken = so_far.taken;
      takes = so_far.takes;
      whole = omega (arith, len, length-take count after_head, length-append after_head so_far.taken, so_far.within);
      is_body = so_far.is_body ∙ take_front after_head so_far.taken count (omega (arith, len, so_far.within));
      exact = omega (arith, len, length-take count after_head, so_far.within);
    }
