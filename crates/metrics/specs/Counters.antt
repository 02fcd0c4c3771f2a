-- The counts of a server's work.
use Rattle.std.specs.Prelude.{ℕ, ◌==◌, ◌+◌, ◌*◌, ◌%◌, ◌^◌, List, length, Option, None, Some, slice_index, slice_set, replicate}
use Rattle.std.specs.List.{position_or_len}
use Rattle.std.specs.Str.{bytes_eq}
use Rattle.counted_io.specs.Counting.{next_count}
use Rattle.http_message.specs.Routes.{routes, row}
use Rattle.http_message.specs.Status.{number, statuses}
use Rattle.http_message.specs.declared.route.Route.{Route}
use Rattle.http_message.specs.declared.status.Status.{Status}
use Rattle.metrics.specs.declared.counters.TheConstants.{CELLS}

-- the numbers of replies, a row for each route and one for paths without a route, with a column for each status; the numbers of segments judged and
-- of rows in replies; and the start of the process in seconds since 1970, if it's known
pub record CountersParts : Type 0 where
  pub replies : List ℕ
  pub judged : ℕ
  pub rows : ℕ
  pub start : Option ℕ

-- all counts are 0
unfoldable pub new_counters : Option ℕ → CountersParts
new_counters start = record { replies = replicate CELLS 0; judged = 0; rows = 0; start = start }

-- the row of a route: its place among the routes. Paths without a route have the row after these.
unfoldable pub row_of : Option Route → ℕ
row_of None = length routes
row_of (Some route) = position_or_len (λ other. bytes_eq (row other).path (row route).path) routes

-- the column of a status: its place among the statuses
unfoldable pub column_of : Status → ℕ
column_of status = position_or_len (λ other. number other == number status) statuses

-- the place of a route's count for a status
abbrev pub cell : Option Route → Status → ℕ
cell route status = row_of route * length statuses + column_of status

-- the number of replies with a status on a route
abbrev pub replies_of : CountersParts → Option Route → Status → ℕ
replies_of counters route status = slice_index counters.replies (cell route status)

-- one more reply
abbrev pub with_reply : Option Route → Status → CountersParts → CountersParts
with_reply route status counters =
    record counters { replies = slice_set counters.replies (cell route status) (next_count (replies_of counters route status)) }

-- more on a count, which wraps at 2^64
abbrev pub add_count : ℕ → ℕ → ℕ
add_count count more = (count + more) % 2 ^ 64

-- more segments judged
abbrev pub with_judged : ℕ → CountersParts → CountersParts
with_judged segments counters = record counters { judged = add_count counters.judged segments }

-- more rows in replies
abbrev pub with_rows : ℕ → CountersParts → CountersParts
with_rows rows counters = record counters { rows = add_count counters.rows rows }
