-- What a reader had left before a request was read from it, if that is known.
use Rattle.std.specs.Prelude.{◌≡◌, ℕ, ◌<◌, ◌≤◌, List, [], length, take, unwrap_or, Some}
use Rattle.std.specs.Io.KnownBytes.{Keeps}
use Rattle.counted_io.specs.ReaderWriter.{Reader}
use Rattle.http_message.specs.Head.{Head, HasHead, HasNoHead}

-- the bytes that a reader has left, or none if they aren't known
abbrev pub left_of : Reader → List ℕ
left_of input = unwrap_or input.left []

-- it had a head left, followed by this rest
pub record HadHead (head : Head) (rest : List ℕ) (old : Reader) : Type 0 where
  pub input : List ℕ
  pub known : Keeps old.left (Some input)
  pub has : HasHead input head rest

-- it had no head left
pub record HadNoHead (old : Reader) : Type 0 where
  pub input : List ℕ
  pub known : Keeps old.left (Some input)
  pub has_none : HasNoHead input

-- it had a head left, followed by this body of `count` bytes
pub record HadRequest (head : Head) (count : ℕ) (body : List ℕ) (old : Reader) : Type 0 where
  pub rest : List ℕ
  pub had : HadHead head rest old
  pub whole : count ≤ length rest
  pub is_body : body ≡ take count rest

-- it had a head left, followed by fewer bytes than the body has
pub record HadShortRequest (head : Head) (count : ℕ) (old : Reader) : Type 0 where
  pub rest : List ℕ
  pub had : HadHead head rest old
  pub short : length rest < count
