-- Accepts leave fewer accepts that can be counted.
use Rattle.std.proofs.Common.{◌≡◌, ℕ, zero, suc, ◌+◌, ◌-◌, ◌<◌, ◌≤◌, ◌^◌, ap, arith}
use Rattle.tcp_server.specs.Acceptor.{Accepts, AcceptsConnection, SkipsAccept}
use Rattle.tcp_server.specs.Repeats.{Repeats}
use Rattle.tcp_server.specs.declared.acceptor.Acceptor.{Acceptor}
use Rattle.tcp_server.specs.declared.acceptor.Connection.{Connection}

grows : (old now new : ℕ) → now ≡ old + 1 → now ≤ new → old ≤ new
grows old now new more rest = omega arith

same_or_more : (old new : ℕ) → new ≡ old → old ≤ new
same_or_more old new same = omega arith

leaves_fewer : (max old now new : ℕ) → old ≤ now → now < max → new ≡ now + 1 → max - new < max - old
leaves_fewer max old now new some room more = omega arith

module _ {L S : Type 0} (accepts : Accepts L S) where
  skips_count : (count : ℕ) (old now : Acceptor L) → Repeats (SkipsAccept accepts) count old now → old.attempts ≤ now.attempts
  skips_count zero old now same = same_or_more old.attempts now.attempts (ap (λ (a : Acceptor L). a.attempts) same)
  skips_count (suc count) old now (next, skip, rest) =
      grows old.attempts next.attempts now.attempts skip.accept.counted (skips_count count next now rest)

  pub fewer_left : (connection : Connection S) (old new : Acceptor L) → AcceptsConnection accepts connection old new
      → 2 ^ 64 - 1 - new.attempts < 2 ^ 64 - 1 - old.attempts
  fewer_left connection old new one =
      leaves_fewer (2 ^ 64 - 1) old.attempts one.now.attempts new.attempts
      (skips_count one.skips.count old one.now one.skips.steps) one.accept.room one.accept.counted
