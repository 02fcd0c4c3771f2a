-- What a search for the end of a head finds in the bytes read.
use Rattle.std.specs.Prelude.{ℕ, ◌≤◌, List, length, take, Option, None, Some, Result, Ok, Err}
use Rattle.httparse.specs.declared.spans.HeaderSpan.{HeaderSpan}
use Rattle.httparse.specs.Spans.{IsRequestOf, IsRequestWithin}
use Rattle.counted_io.specs.ReaderWriter.{Reader}
use Rattle.http_message.specs.Reading.{FailsInHead, IsClosed, ReadsNoHead, Takes}
use Rattle.http_message.specs.declared.head.Found.{Found}
use Rattle.http_message.specs.declared.head.HeadFault.{HeadFault}
use Rattle.http_message.specs.declared.head.TheConstants.{MAX_HEAD_LENGTH}
use Rattle.http_message.specs.declared.head.HeadFault.TheVariants.{Closed, Read}

-- the bytes read are at the start, and begin with a head whose parts are at these places
pub record FindsHead (bytes : List ℕ) (headers : List HeaderSpan) (found : Found) (old new : Reader) : Type 0 where
  pub inside : found.count ≤ length bytes
  pub room : found.count ≤ MAX_HEAD_LENGTH
  pub takes : Takes (take found.count bytes) old new
  pub within : IsRequestWithin (take found.count bytes) headers found.spans
  pub is_head : IsRequestOf (take found.count bytes) headers found.spans

abbrev pub AnswersSearch : List ℕ → List HeaderSpan → Result (Option Found) HeadFault → Reader → Reader → Type 0
AnswersSearch bytes headers (Ok (Some found)) old new = FindsHead bytes headers found old new
AnswersSearch bytes headers (Ok None) old new = ReadsNoHead old new
AnswersSearch bytes headers (Err Closed) old new = IsClosed old new
AnswersSearch bytes headers (Err Read) old new = FailsInHead old new
