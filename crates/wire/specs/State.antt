-- The state of a server.
use Rattle.std.specs.Prelude.{ℕ, List, Option}
use Rattle.tl_segments.specs.County.{CountyParts}
use Rattle.jobs.specs.Table.{Table, empty_table}
use Rattle.metrics.specs.Counters.{CountersParts, new_counters}

-- the table of jobs, with the counties that all requests are answered from, the counties' codes, and the counts of the server's work
pub record StateParts : Type 0 where
  pub table : Table
  pub codes : List (List ℕ)
  pub counters : CountersParts

abbrev pub counties_of : StateParts → List CountyParts
counties_of state = state.table.counties

-- a state over counties with these codes, with no jobs, in a process that started at this second since 1970
abbrev pub new_state : List (List ℕ) → List CountyParts → Option ℕ → StateParts
new_state codes counties start = record { table = empty_table counties; codes = codes; counters = new_counters start }
