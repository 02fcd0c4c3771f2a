-- What reading a request takes from a reader, and how it ends.
use Rattle.std.specs.Prelude.{◌≡◌, ◌≢◌, ◌⊎◌, ℕ, ◌-◌, ◌<◌, ◌≤◌, List, [], ◌++◌, length, take, Option, None, Some, Result, Ok, Err}
use Rattle.std.specs.Io.KnownBytes.{Consumes, IsAtEnd}
use Rattle.counted_io.specs.ReaderWriter.{Reader}
use Rattle.http_message.specs.Head.{Head, HasHead, HasNoHead, MayBecomeHead}
use Rattle.http_message.specs.declared.body.BodyFault.{BodyFault}
use Rattle.http_message.specs.declared.body.BodyFault.TheVariants.{Short, Read as ReadBody, Memory}
use Rattle.http_message.specs.declared.head.HeadFault.{HeadFault}
use Rattle.http_message.specs.declared.head.HeadFault.TheVariants.{Closed, Read}
use Rattle.http_message.specs.declared.head.TheConstants.{MAX_HEAD_LENGTH}

-- these bytes were taken from the reader, and no read failed
pub record Takes (bytes : List ℕ) (old new : Reader) : Type 0 where
  pub consumed : Consumes old.left new.left bytes
  pub failed : new.failed ≡ old.failed

-- a read failed after these bytes
pub record FailsAfter (bytes : List ℕ) (old new : Reader) : Type 0 where
  pub consumed : Consumes old.left new.left bytes
  pub failed : new.failed ≢ old.failed

-- what is known about a request once its head is read: the head, and the bytes read after it
pub record RequestParts : Type 0 where
  pub head : Head
  pub after_head : List ℕ

-- The bytes taken begin with the head of the request. They are no more than a head may have.
pub record ReadsHead (request : RequestParts) (old new : Reader) : Type 0 where
  pub taken : List ℕ
  pub takes : Takes taken old new
  pub has : HasHead taken request.head request.after_head
  pub room : length taken ≤ MAX_HEAD_LENGTH

-- The bytes taken don't begin an input that has a head: either no bytes that follow could complete one, or the input has ended although more bytes
-- could have. They are at least one byte, and no more than a head may have.
pub record ReadsNoHead (old new : Reader) : Type 0 where
  pub taken : List ℕ
  pub takes : Takes taken old new
  pub some : 0 < length taken
  pub no_head : ((more : List ℕ) → HasNoHead (taken ++ more)) ⊎ (IsAtEnd new.left × HasNoHead taken × MayBecomeHead taken)
  pub room : length taken ≤ MAX_HEAD_LENGTH

-- the input ended before its first byte
pub record IsClosed (old new : Reader) : Type 0 where
  pub takes : Takes [] old new
  pub ended : IsAtEnd new.left

-- A read failed while the head was incomplete but could still be completed: nothing is read after bytes that can't begin a head.
pub record FailsInHead (old new : Reader) : Type 0 where
  pub taken : List ℕ
  pub fails : FailsAfter taken old new
  pub part : HasNoHead taken
  pub unfinished : MayBecomeHead taken
  pub room : length taken < MAX_HEAD_LENGTH

-- the result of reading a head
abbrev pub AnswersHead : Result (Option RequestParts) HeadFault → Reader → Reader → Type 0
AnswersHead (Ok (Some request)) old new = ReadsHead request old new
AnswersHead (Ok None) old new = ReadsNoHead old new
AnswersHead (Err Closed) old new = IsClosed old new
AnswersHead (Err Read) old new = FailsInHead old new

-- The body: the first `count` bytes after the head. No bytes beyond it were taken.
pub record ReadsBody (after_head : List ℕ) (count : ℕ) (body : List ℕ) (old new : Reader) : Type 0 where
  pub taken : List ℕ
  pub takes : Takes taken old new
  pub whole : count ≤ length (after_head ++ taken)
  pub is_body : body ≡ take count (after_head ++ taken)
  pub exact : length taken ≡ count - length after_head

-- the input ended within the body
pub record EndsInBody (after_head : List ℕ) (count : ℕ) (old new : Reader) : Type 0 where
  pub taken : List ℕ
  pub takes : Takes taken old new
  pub ended : IsAtEnd new.left
  pub short : length (after_head ++ taken) < count

-- a read failed within the body
pub record FailsInBody (after_head : List ℕ) (count : ℕ) (old new : Reader) : Type 0 where
  pub taken : List ℕ
  pub fails : FailsAfter taken old new
  pub short : length (after_head ++ taken) < count

-- An allocation failed for bytes of the body that had been read. No read had failed, and no bytes beyond the body were taken.
pub record OutOfMemoryInBody (after_head : List ℕ) (count : ℕ) (old new : Reader) : Type 0 where
  pub taken : List ℕ
  pub takes : Takes taken old new
  pub within : length taken ≤ count - length after_head
  pub nonempty : 0 < count
  pub received : 0 < length (after_head ++ taken)

-- why reading a body ends without one
abbrev pub EndsBody : BodyFault → List ℕ → ℕ → Reader → Reader → Type 0
EndsBody Short after_head count old new = EndsInBody after_head count old new
EndsBody ReadBody after_head count old new = FailsInBody after_head count old new
EndsBody Memory after_head count old new = OutOfMemoryInBody after_head count old new
