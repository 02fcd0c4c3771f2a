-- The limit on writes of a reply.
use Rattle.std.specs.Prelude.{ℕ, ◌+◌, ◌-◌, ◌^◌, min}
use Rattle.std.specs.Duration.{as_nanos, max_nanos}
use Rattle.tcp_server.specs.Limits.{reply_limit}
use Rattle.tcp_server.specs.declared.client_stream.ClientWriter.{ClientWriter}

-- the limit on all writes up to the one of these bytes, in nanoseconds; both the count of bytes and the time stop at their types' maximum
abbrev pub write_limit : {H T : Type 0} → ClientWriter H T → ℕ → ℕ
write_limit writer bytes = min (reply_limit (as_nanos writer.limits.reply) (min (writer.written + bytes) (2 ^ 64 - 1))) max_nanos
