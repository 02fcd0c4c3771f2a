-- The head of a request (RFC 9112, sections 2 to 5), at the start of an input.
use Rattle.std.specs.Prelude.{◌≡◌, ℕ, ◌≤◌, List, length, map}
use Rattle.httparse.specs.Grammar.{MayBecomeRequest, ReadsRequest, RequestHead, print_request}
use Rattle.httparse.specs.Spans.{name_and_value}
use Rattle.http_message.specs.declared.head.TheConstants.{MAX_HEAD_LENGTH, MAX_HEADERS}

-- The parts of a head that matter: the method, the request target, and each header's name and value, without the blanks and tabs around the value.
pub record Head : Type 0 where
  pub method : List ℕ
  pub target : List ℕ
  pub headers : List (List ℕ × List ℕ)

abbrev pub head_of : RequestHead → Head
head_of tree = record { method = tree.method; target = tree.target; headers = map name_and_value tree.fields }

-- The input begins with a request head of the grammar, within the limits on bytes and headers; the rest follows it.
pub record HasHead (input : List ℕ) (head : Head) (rest : List ℕ) : Type 0 where
  pub tree : RequestHead
  pub reads : ReadsRequest input tree rest
  pub short : length (print_request tree) ≤ MAX_HEAD_LENGTH
  pub few : length tree.fields ≤ MAX_HEADERS
  pub parts : head ≡ head_of tree

-- Bytes may become a head: some bytes that follow complete it, or the bytes end within a target, which isn't checked before its end.
abbrev pub MayBecomeHead : List ℕ → Type 0
MayBecomeHead = MayBecomeRequest

abbrev pub HasNoHead : List ℕ → Type 0
HasNoHead input = (head : Head) (rest : List ℕ) → HasHead input head rest → ⊥
