-- The table of routes, as the router holds it.
use Rattle.std.proofs.Common.{◌≡◌, ℕ, suc, ◌+◌, ◌<◌, ◌≤◌, Bool, true, false, cond, List, [], ◌∷◌, ◌++◌, length, drop, get_or, Err, Option}
use Rattle.std.proofs.Common.{None, Some, ◌∙◌, sym, refl, ap, subst, add-one, drop-cons, rules}
use Rattle.std.proofs.Math.ListN.{drop_of_length-le}
use Rattle.std.specs.Prelude.{Result, codes, option_map, take}
use Rattle.std.specs.List.{position_or_len}
use Rattle.std.specs.Str.{bytes_eq}
use Rattle.matchit.proofs.OnLiterals.{matchit_on_literals}
use Rattle.matchit.specs.Order.{lookup, placed}
use Rattle.matchit.specs.Route.{parse_route}
use Rattle.matchit.specs.Seek.{or_else, seek}
use Rattle.matchit.specs.Rows.{RowsOf}
use Rattle.matchit.specs.Router.{Inserted, InsertsRead, Refused, RouteOf, nearest}
use Rattle.matchit.specs.declared.error.InsertError.{InsertError}
use Rattle.matchit.specs.declared.error.InsertError.TheVariants.{Conflict, InvalidParam, InvalidParamSegment, InvalidCatchAll, OutOfMemory}
use Rattle.http_message.specs.Routes.{matches, route_of, routes, row}
use Rattle.http_message.specs.Table.{FindsRoutes, entry, pattern}
use Rattle.http_message.proofs.SeekLemmas.{seek_alone, seek_among, seek_literal}
use Rattle.http_message.specs.declared.route.Route.{Route}
use Rattle.http_message.specs.declared.route.Route.TheVariants.{Job}

-- the effect of inserting a route's path on the rows
pub row_inserted : (route : Route) (old new : RowsOf (RouteOf Route)) (result : Result (Unit {0}) InsertError)
    → InsertsRead (parse_route (row route).path) route old new result → Inserted (entry route).1 old new result
unfolding matchit_on_literals
row_inserted Job old new result is = is
row_inserted route old new result is = is

-- a path that conflicts with no other is refused only if an allocation fails
pub refused_for_memory : (route : Route) (old new : RowsOf (RouteOf Route)) (error : InsertError)
    → InsertsRead (parse_route (row route).path) route old new (Err error) → nearest (pattern route) old ≡ None → error ≡ OutOfMemory
refused_for_memory route old new error is free = by_error error (row_inserted route old new (Err error) is).1
  where
    by_error : (error : InsertError) → Refused (pattern route) old error → error ≡ OutOfMemory
    by_error (Conflict with) refused = let conflicting = sym free ∙ refused.1 in cc
    by_error OutOfMemory refused = refl
    by_error InvalidParamSegment refused = absurd refused
    by_error InvalidParam refused = absurd refused
    by_error InvalidCatchAll refused = absurd refused

-- the rows in the router's order
sorted : List Route → RowsOf (RouteOf Route) → RowsOf (RouteOf Route)
sorted [] rows = rows
sorted (route ∷ more) rows = sorted more (placed (entry route) rows)

is_job : List ℕ × RouteOf Route → Bool
is_job (text, found) = bytes_eq found.text (row Job).path

-- the rows before the one with a parameter, and those after it
before_job : RowsOf (RouteOf Route)
before_job = take (position_or_len is_job (sorted routes [])) (sorted routes [])

after_job : RowsOf (RouteOf Route)
after_job = drop (suc (position_or_len is_job (sorted routes []))) (sorted routes [])

pub table : RowsOf (RouteOf Route)
table = before_job ++ entry Job ∷ after_job

-- `or_else` and `option_map` move into the branches of a test
or_else-cond : {K : Type 0} (test : Bool) (key : K) (rest last : Option K)
    → or_else (cond test (Some key) rest) last ≡ cond test (Some key) (or_else rest last)
or_else-cond true key rest last = refl
or_else-cond false key rest last = refl

option_map-cond : {A B : Type 0} (f : A → B) (test : Bool) (x : A) (rest : Option A)
    → option_map f (cond test (Some x) rest) ≡ cond test (Some (f x)) (option_map f rest)
option_map-cond f true x rest = refl
option_map-cond f false x rest = refl

finds_route : (path : List ℕ)
    → option_map (λ (found : RouteOf Route). found.value)
    (or_else (lookup path (before_job ++ after_job)) (cond (matches Job path) (Some (entry Job).1) None)) ≡ route_of path
unfolding before_job after_job sorted is_job
finds_route path = simp (or_else-cond, option_map-cond) refl

pub table_finds : FindsRoutes table
unfolding table before_job after_job sorted is_job
table_finds path =
    ap (option_map (λ (found : RouteOf Route). found.value))
    (seek_among (codes "/jobs/") (entry Job).1 before_job after_job path (search rules) (search rules) (search rules)
    ∙ ap (λ (found : Option (RouteOf Route)). or_else found (seek 0 (entry Job ∷ []) path))
    (seek_literal (before_job ++ after_job) path (search rules))
    ∙ ap (or_else (lookup path (before_job ++ after_job))) (seek_alone (codes "/jobs/") (entry Job).1 path (search rules)))
    ∙ finds_route path

-- routes that can be inserted one after the other, after which the rows are the table
abbrev pub MakesTable : List Route → RowsOf (RouteOf Route) → Type 0
MakesTable [] rows = rows ≡ table
MakesTable (route ∷ more) rows = (nearest (pattern route) rows ≡ None) × MakesTable more (placed (entry route) rows)

pub all_make : MakesTable routes []
unfolding table before_job after_job sorted is_job
all_make = search rules

-- the next route can be inserted
pub next_route : (all : List Route) (fallback : Route) (index : ℕ) (rows : RowsOf (RouteOf Route)) → index < length all
    → MakesTable (drop index all) rows → MakesTable (get_or all index fallback ∷ drop (suc index) all) rows
next_route all fallback index rows below makes = subst (λ left. MakesTable left rows) (drop-cons all index fallback below) makes

-- the next route is inserted
pub inserted : (all : List Route) (fallback : Route) (index : ℕ) (rows more : RowsOf (RouteOf Route)) → index < length all
    → MakesTable (drop index all) rows → more ≡ placed (entry (get_or all index fallback)) rows → MakesTable (drop (index + 1) all) more
inserted all fallback index rows more below makes same = rw (same, add-one) (next_route all fallback index rows below makes).1

pub all_inserted : (all : List Route) (index : ℕ) (rows : RowsOf (RouteOf Route)) → length all ≤ index → MakesTable (drop index all) rows
    → rows ≡ table
all_inserted all index rows above makes = subst (λ left. MakesTable left rows) (drop_of_length-le all above) makes
