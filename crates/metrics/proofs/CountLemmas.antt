-- Each route has a row of its own, and each status a column of its own.
use Rattle.std.proofs.Common.{◌≡◌, ◌≢◌, ◌⊎◌, inl, inr, ℕ, zero, suc, ◌+◌, ◌*◌, ◌<◌, ◌≤◌, length, get_or, map, replicate, Option, None, Some, refl, sym, ap, ◌∙◌, arith}
use Rattle.std.proofs.lemmas.List.{get_or-set_same, get_or-set_other}
use denote.Enum.Declared.{tag_of}
use Rattle.counted_io.specs.Counting.{next_count}
use Rattle.http_message.specs.contracts.route.Route.{the_type as route_type}
use Rattle.http_message.specs.contracts.status.Status.{the_type as status_type}
use Rattle.http_message.specs.Routes.{routes}
use Rattle.http_message.specs.Status.{statuses}
use Rattle.http_message.specs.declared.route.Route.{Route}
use Rattle.http_message.specs.declared.route.Route.TheVariants.{Index}
use Rattle.http_message.specs.declared.status.Status.{Status}
use Rattle.http_message.specs.declared.status.Status.TheVariants.{Ok}
use Rattle.metrics.specs.Counters.{CountersParts, cell, column_of, new_counters, replies_of, row_of, with_reply}
use Rattle.metrics.specs.declared.counters.TheConstants.{CELLS}

-- the route of a row
abbrev route_at : ℕ → Option Route
route_at n = get_or (map Some routes) n None

found_route : (route : Option Route) → route_at (row_of route) ≡ route
unfolding row_of
found_route None = refl
found_route (Some Index) = refl
found_route (Some route) = refl

-- the routes are declared in the order of their rows, and the statuses in that of their columns
pub row_by_tag : (route : Route) → tag_of route_type route ≡ row_of (Some route)
unfolding row_of
row_by_tag Index = refl
row_by_tag route = refl

pub column_by_tag : (status : Status) → tag_of status_type status ≡ column_of status
unfolding column_of
column_by_tag Ok = refl
column_by_tag status = refl

-- the status of a column
abbrev status_at : ℕ → Status
status_at n = get_or statuses n Ok

found_status : (status : Status) → status_at (column_of status) ≡ status
unfolding column_of
found_status Ok = refl
found_status status = refl

pub row_within : (route : Option Route) → row_of route ≤ length routes
unfolding row_of
row_within None = omega arith
row_within (Some Index) = omega arith
row_within (Some route) = omega arith

pub column_within : (status : Status) → column_of status < length statuses
unfolding column_of
column_within Ok = omega arith
column_within status = omega arith

pub cell_within : (route : Option Route) (status : Status) → cell route status < CELLS
cell_within route status = omega (arith, row_within route, column_within status)

same_parts : (n m a b : ℕ) → a < length statuses → b < length statuses → n * length statuses + a ≡ m * length statuses + b → (n ≡ m) × (a ≡ b)
same_parts n m a b small little same = (omega arith, omega arith)

other_cell : (route other : Option Route) (status another : Status) → (other ≢ route) ⊎ (another ≢ status) → cell other another ≢ cell route status
other_cell route other status another differ same =
    let parts = same_parts (row_of other) (row_of route) (column_of another) (column_of status) (column_within another) (column_within status) same in
    elim differ [
      | inl not ↦ not (sym (found_route other) ∙ ap route_at parts.0 ∙ found_route route)
      | inr not ↦ not (sym (found_status another) ∙ ap status_at parts.1 ∙ found_status status)
    ]

pub first_count : (start : Option ℕ) (route : Option Route) (status : Status) → replies_of (new_counters start) route status ≡ 0
unfolding new_counters
first_count start route status = all_zero CELLS (cell route status)
  where
    all_zero : (n k : ℕ) → get_or (replicate n zero) k zero ≡ zero
    all_zero zero k = refl
    all_zero (suc n) zero = refl
    all_zero (suc n) (suc k) = all_zero n k

pub own_count : (counters : CountersParts) (route : Option Route) (status : Status) → length counters.replies ≡ CELLS
    → replies_of (with_reply route status counters) route status ≡ next_count (replies_of counters route status)
own_count counters route status complete =
    get_or-set_same counters.replies (cell route status) _ 0 (rw complete (cell_within route status))

pub other_counts : (counters : CountersParts) (route other : Option Route) (status another : Status) → (other ≢ route) ⊎ (another ≢ status)
    → replies_of (with_reply route status counters) other another ≡ replies_of counters other another
other_counts counters route other status another differ =
    get_or-set_other counters.replies (cell route status) (cell other another) _ 0 (other_cell route other status another differ)
