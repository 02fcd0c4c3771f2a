-- Limits on how long calls on a client's connection may wait, in nanoseconds.
use Rattle.std.specs.Prelude.{◌≡◌, ℕ, ◌+◌, ◌-◌, ◌*◌, ◌/◌, ◌^◌, min, nat_lt, if◌then◌else◌, Option, None, Some}
use Rattle.std.specs.Duration.{as_nanos}
use Rattle.tcp_server.specs.declared.limits.Limits.{Limits}

-- The time that the next call may wait after `elapsed` of a limit: the rest of the limit, but at most `idle`. After the limit there
-- is no next call.
abbrev pub wait : ℕ → ℕ → ℕ → Option ℕ
wait idle limit elapsed = if nat_lt elapsed limit then Some (min idle (limit - elapsed)) else None

-- the time that a client may take for a reply of `bytes` bytes: a time for any reply, plus a second for each complete mebibyte
abbrev pub reply_limit : ℕ → ℕ → ℕ
reply_limit any bytes = any + bytes / 2 ^ 20 * 1_000_000_000

-- the limits of the program: 30 seconds for a request, no more than 10 without a byte of it; 30 seconds for a reply of less than a mebibyte; and
-- 5 seconds for what a client sends after its request
pub record IsStandard (limits : Limits) : Type 0 where
  pub idle : as_nanos limits.idle ≡ 10 * 1_000_000_000
  pub request : as_nanos limits.request ≡ 30 * 1_000_000_000
  pub reply : as_nanos limits.reply ≡ 30 * 1_000_000_000
  pub linger : as_nanos limits.linger ≡ 5 * 1_000_000_000
