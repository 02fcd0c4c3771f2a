-- A read or a write after calls that neither took nor gave a byte.
use Rattle.std.proofs.Common.{ℕ, List, take, Option, None, Some, Result, Ok, Err, sym, ◌∙◌}
use Rattle.std.specs.Io.KnownBytes.{Consumes, Keeps, ReadConsumes}

pub keeps_twice : (a b c : Option (List ℕ)) → Keeps a b → Keeps b c → Keeps a c
keeps_twice None b c first second = tt
keeps_twice (Some us) None c first second = absurd first
keeps_twice (Some us) (Some vs) None first second = second
keeps_twice (Some us) (Some vs) (Some ws) first second = second ∙ first

consumes_after : (a b c : Option (List ℕ)) (xs : List ℕ) → Keeps a b → Consumes b c xs → Consumes a c xs
consumes_after None b c xs first second = tt
consumes_after (Some us) None c xs first second = absurd first
consumes_after (Some us) (Some vs) None xs first second = second
consumes_after (Some us) (Some vs) (Some ws) xs first second = sym first ∙ second

module _ {E : Type 0} (a b c : Option (List ℕ)) where
  pub read_after : (result : Result ℕ E) (buffer : List ℕ) → Keeps a b → ReadConsumes b c result buffer → ReadConsumes a c result buffer
  read_after (Ok count) buffer first second = (consumes_after a b c (take count buffer) first second.0, second.1)
  read_after (Err error) buffer first second = keeps_twice a b c first second
