-- Calls of a client's socket.
use Rattle.std.specs.Prelude.{ℕ, List, Result}
use Rattle.std.specs.declared.io.Error.{Error}

-- a read or a write: how long it may wait, in nanoseconds; the buffer, for a read as it is afterwards; and the result
pub record Call : Type 0 where
  pub wait : ℕ
  pub buffer : List ℕ
  pub result : Result ℕ Error

-- what a call does: the socket before it, the call, and the socket after it
abbrev pub Calls : Type 0 → Type 1
Calls H = H → Call → H → Type 0
